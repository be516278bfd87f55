-- The rows of a bill are those of what is seen of its payloads, if the images keep lengths.
use Rattle.std.specs.Prelude.{◌≡◌, ◌+◌, ℕ, Bool, true, false, List, [], ◌∷◌, ◌++◌, length, map, sum_by, nat_eq}
use Rattle.std.specs.Prelude.{Option, None, Some, option_map, if◌then◌else◌}
use Rattle.std.proofs.Common.{refl, ap, sym, ◌∙◌}
use Rattle.std.proofs.lemmas.List.{length-map}
use Rattle.std.proofs.lemmas.List.Sums.{sum_by-cons}
use Rattle.share_base.specs.declared.command.Event.{Event}
use Rattle.share_base.specs.declared.command.Event.TheVariants.{Commanded, Arrived, Written, Faulted}
use Rattle.share_base.specs.declared.command.Outcome.{Outcome}
use Rattle.share_base.specs.declared.version.Version.{Version}
use Rattle.share_base.specs.declared.version.Version.TheVariants.{Two}
use Rattle.share_model.specs.declared.rates.Rate.{Rate}
use Rattle.share_model.specs.link.Tariff.{rate_of, units_of}
use Rattle.share_model.specs.run.Fold.{State, Sent, TornFrame, empty_state, step, outcome, run, sent_frame}
use Rattle.share_model.specs.run.History.{cost, sent_by, sent_cost, torn_cost}
use Rattle.share_bill.specs.declared.bill.running.TenantBill.{TenantBill}
use Rattle.share_bill.specs.declared.bill.running.TenantFlow.{TenantFlow}
use Rattle.share_bill.specs.declared.bill.sums.Sums.{Sums}
use Rattle.share_bill.specs.Bills.{tenants_in, opened_by, sums_of, row_with, row_of, rows_of}
use Rattle.share_bill.specs.Seen.{KeepsLengths, seen_sent, seen_torn, seen_state, seen_event, zeros_for, measured}
use Rattle.share_bill.proofs.SeenLemmas.{frame_length-seen, step-seen, outcome-seen, state_after-seen, zeros-keep}

-- ---- Packets that were sent

module _ (f : List ℕ → List ℕ) where
  sent_by_seen : (b : Bool) (d : Sent) (rest seen : List Sent) → seen ≡ map (seen_sent f) rest
      → (if b then seen_sent f d ∷ seen else seen) ≡ map (seen_sent f) (if b then d ∷ rest else rest)
  sent_by_seen true d rest seen same = ap (λ r. seen_sent f d ∷ r) same
  sent_by_seen false d rest seen same = same

  sent_by-seen : (flow : ℕ) (done : List Sent)
      → sent_by flow (map (seen_sent f) done) ≡ map (seen_sent f) (sent_by flow done)
  sent_by-seen flow [] = refl
  sent_by-seen flow (d ∷ ds) =
      sent_by_seen (nat_eq flow d.head.flow) d (sent_by flow ds) (sent_by flow (map (seen_sent f) ds))
      (sent_by-seen flow ds)

  sum-seen : (h k : Sent → ℕ) → ((d : Sent) → h (seen_sent f d) ≡ k d) → (ds : List Sent)
      → sum_by h (map (seen_sent f) ds) ≡ sum_by k ds
  sum-seen h k same [] = refl
  sum-seen h k same (d ∷ ds) =
      sum_by-cons h (seen_sent f d) (map (seen_sent f) ds)
      ∙ (ap (λ n. n + sum_by h (map (seen_sent f) ds)) (same d)
      ∙ (ap (λ n. k d + n) (sum-seen h k same ds) ∙ sym (sum_by-cons k d ds)))

  torn_cost-seen : (rates : List Rate) (p : ℕ → Bool) (t : Option TornFrame)
      → torn_cost rates p (option_map (seen_torn f) t) ≡ torn_cost rates p t
  torn_cost-seen rates p None = refl
  torn_cost-seen rates p (Some t) = refl

abbrev four_sums : ℕ → ℕ → ℕ → ℕ → Sums
four_sums p b u a = record { packets = p; bytes = b; units = u; amount = a }

same_sums : (p b u a p' b' u' a' : ℕ) → p ≡ p' → b ≡ b' → u ≡ u' → a ≡ a' → four_sums p b u a ≡ four_sums p' b' u' a'
same_sums p b u a p' b' u' a' same_p same_b same_u same_a =
    ap (λ n. four_sums n b u a) same_p
    ∙ (ap (λ n. four_sums p' n u a) same_b
    ∙ (ap (λ n. four_sums p' b' n a) same_u ∙ ap (λ n. four_sums p' b' u' n) same_a))

module _ (f : List ℕ → List ℕ) (keeps : KeepsLengths f) where
  sent_frame-seen : (version : Version) (d : Sent)
      → length (sent_frame version (seen_sent f d)) ≡ length (sent_frame version d)
  sent_frame-seen version d = frame_length-seen f keeps version d.tariff d.head

  -- the number, the bytes, the units and the cost of packets that were sent
  module _ (rates : List Rate) (version : Version) (p : ℕ → Bool) (torn : Option TornFrame) (ds : List Sent) where
    bytes-seen : sum_by (λ (d : Sent). length (sent_frame version d)) (map (seen_sent f) ds)
        ≡ sum_by (λ (d : Sent). length (sent_frame version d)) ds
    bytes-seen =
        sum-seen f (λ (d : Sent). length (sent_frame version d)) (λ (d : Sent). length (sent_frame version d))
        (sent_frame-seen version) ds

    units-seen : sum_by (λ (d : Sent). units_of (rate_of rates d.tariff) (length (sent_frame version d)))
        (map (seen_sent f) ds)
        ≡ sum_by (λ (d : Sent). units_of (rate_of rates d.tariff) (length (sent_frame version d))) ds
    units-seen =
        sum-seen f (λ (d : Sent). units_of (rate_of rates d.tariff) (length (sent_frame version d)))
        (λ (d : Sent). units_of (rate_of rates d.tariff) (length (sent_frame version d)))
        (λ d. ap (units_of (rate_of rates d.tariff)) (sent_frame-seen version d)) ds

    costs-seen : sum_by (sent_cost version rates) (map (seen_sent f) ds)
        + torn_cost rates p (option_map (seen_torn f) torn)
        ≡ sum_by (sent_cost version rates) ds + torn_cost rates p torn
    costs-seen =
        ap (λ n. n + torn_cost rates p (option_map (seen_torn f) torn))
        (sum-seen f (sent_cost version rates) (sent_cost version rates)
        (λ d. ap (cost rates d.tariff) (sent_frame-seen version d)) ds)
        ∙ ap (λ n. sum_by (sent_cost version rates) ds + n) (torn_cost-seen f rates p torn)

  abbrev sums_in : List Rate → Version → Option TornFrame → ℕ → List Sent → Sums
  sums_in rates version torn flow ds =
      four_sums (length ds) (sum_by (λ (d : Sent). length (sent_frame version d)) ds)
      (sum_by (λ (d : Sent). units_of (rate_of rates d.tariff) (length (sent_frame version d))) ds)
      (sum_by (sent_cost version rates) ds + torn_cost rates (nat_eq flow) torn)

  sums-seen : (rates : List Rate) (s : State) (flow : ℕ) → sums_of rates (seen_state f s) flow ≡ sums_of rates s flow
  sums-seen rates s flow =
      let version = s.live.version in
      let ds = sent_by flow s.done in
      let torn = option_map (seen_torn f) s.torn in
      ap (λ (es : List Sent). sums_in rates version torn flow es) (sent_by-seen f flow s.done)
      ∙ same_sums (length (map (seen_sent f) ds))
      (sum_by (λ (d : Sent). length (sent_frame version d)) (map (seen_sent f) ds))
      (sum_by (λ (d : Sent). units_of (rate_of rates d.tariff) (length (sent_frame version d))) (map (seen_sent f) ds))
      (sum_by (sent_cost version rates) (map (seen_sent f) ds) + torn_cost rates (nat_eq flow) torn)
      (length ds) (sum_by (λ (d : Sent). length (sent_frame version d)) ds)
      (sum_by (λ (d : Sent). units_of (rate_of rates d.tariff) (length (sent_frame version d))) ds)
      (sum_by (sent_cost version rates) ds + torn_cost rates (nat_eq flow) s.torn)
      (length-map ds (seen_sent f)) (bytes-seen rates version (nat_eq flow) s.torn ds)
      (units-seen rates version (nat_eq flow) s.torn ds) (costs-seen rates version (nat_eq flow) s.torn ds)

  -- ---- Rows

  rows_with-seen : (rates : List Rate) (s : State) (ts : List TenantFlow)
      → map (row_of rates (seen_state f s)) ts ≡ map (row_of rates s) ts
  rows_with-seen rates s [] = refl
  rows_with-seen rates s (t ∷ ts) =
      ap (λ (x : Sums). row_with t x ∷ map (row_of rates (seen_state f s)) ts) (sums-seen rates s t.flow)
      ∙ ap (λ (rows : List TenantBill). row_of rates s t ∷ rows) (rows_with-seen rates s ts)

  opened-seen : (e : Event) (o : Outcome) → opened_by (seen_event f e) o ≡ opened_by e o
  opened-seen (Commanded c) o = refl
  opened-seen (Arrived flow body) o = refl
  opened-seen (Written k) o = refl
  opened-seen Faulted o = refl

  tenants-seen : (rates : List Rate) (s : State) (es : List Event)
      → tenants_in rates (seen_state f s) (map (seen_event f) es) ≡ tenants_in rates s es
  unfolding tenants_in
  tenants-seen rates s [] = refl
  tenants-seen rates s (e ∷ es) =
      let later = tenants_in rates (step rates (seen_state f s) (seen_event f e)) (map (seen_event f) es) in
      ap (λ (o : Outcome). opened_by (seen_event f e) o ++ later) (outcome-seen f keeps rates s e)
      ∙ (ap (λ (ts : List TenantFlow). ts ++ later) (opened-seen e (outcome rates s e))
      ∙ (ap (λ (now : State). opened_by e (outcome rates s e) ++ tenants_in rates now (map (seen_event f) es))
      (step-seen f keeps rates s e)
      ∙ ap (λ (ts : List TenantFlow). opened_by e (outcome rates s e) ++ ts) (tenants-seen rates (step rates s e) es)))

-- ---- Lengths alone

pub rows-measured : (rates : List Rate) (es : List Event) → rows_of rates (measured es) ≡ rows_of rates es
rows-measured rates es =
    ap (λ (s : State). map (row_of rates s) (tenants_in rates (empty_state Two) (measured es)))
    (state_after-seen zeros_for zeros-keep rates (empty_state Two) es)
    ∙ (rows_with-seen zeros_for zeros-keep rates (run Two rates es) (tenants_in rates (empty_state Two) (measured es))
    ∙ ap (map (row_of rates (run Two rates es))) (tenants-seen zeros_for zeros-keep rates (empty_state Two) es))

pub rows-same : (rates : List Rate) (one other : List Event) → measured one ≡ measured other
    → rows_of rates one ≡ rows_of rates other
rows-same rates one other same =
    sym (rows-measured rates one) ∙ (ap (rows_of rates) same ∙ rows-measured rates other)
