-- The receipts of a clerk beside the entries of a journal.
use Rattle.std.specs.Prelude.{◌≡◌, ◌≢◌, ◌≤◌, ℕ, suc, ◌+◌, Bool, true, false, List, [], ◌∷◌, ◌++◌, length}
use Rattle.std.specs.Prelude.{nat_eq, slice_get, Some, if◌then◌else◌}
use Rattle.std.proofs.Common.{refl, sym, ap, ◌∙◌, subst, arith, append_assoc}
use Rattle.std.proofs.lemmas.Bool.{eqb-true}
use Rattle.std.proofs.lemmas.List.{append_cancel_left, length-append}
use Rattle.share_base.specs.declared.command.Command.{Command}
use Rattle.share_base.specs.declared.command.Event.{Event}
use Rattle.share_base.specs.declared.command.Event.TheVariants.{Commanded, Arrived, Written, Faulted}
use Rattle.share_base.specs.declared.command.Outcome.{Outcome}
use Rattle.share_base.specs.declared.command.Outcome.TheVariants.{Replied, Turned}
use Rattle.share_base.specs.declared.command.Reply.{Reply}
use Rattle.share_model.specs.lists.Each.{Each}
use Rattle.share_journal.specs.declared.entry.Entry.{Entry}
use Rattle.share_journal.specs.declared.entry.Source.{Source}
use Rattle.share_journal.specs.declared.entry.Source.TheVariants.{Clerk, Worker, Link}
use Rattle.share_journal.specs.Entries.{command_entry, entry_at}
use Rattle.share_locked.specs.declared.clerk.Receipt.{Receipt}
use Rattle.share_locked.specs.Receipts.{is_from, receipt_by, receipt_in, receipts_of, Agrees, StandsInJournal, Ascend}
use Rattle.share_locked.specs.Views.{ClerkView, receipt}

-- The receipts, read along the entries

-- the receipts that are left are those of the rest of the entries if and only if all are those of all
pub record AgreesSoFar (receipts : List Receipt) (entries : List Entry) (clerk k : ℕ) (left : List Receipt)
    (rest : List Entry) : Type 0 where
  pub on : left ≡ receipts_of clerk k rest → receipts ≡ receipts_of clerk 0 entries
  pub back : receipts ≡ receipts_of clerk 0 entries → left ≡ receipts_of clerk k rest

pub goes_first : (receipts : List Receipt) (entries : List Entry) (clerk : ℕ)
    → AgreesSoFar receipts entries clerk 0 receipts entries
goes_first receipts entries clerk = record { on = λ e. e; back = λ e. e }

module _ (receipts : List Receipt) (entries : List Entry) (clerk k : ℕ) (left : List Receipt) (rest : List Entry)
    (goes : AgreesSoFar receipts entries clerk k left rest) where
  pub goes_more : (e : Entry) (after : List Entry) (fewer : List Receipt) (m : ℕ) → rest ≡ e ∷ after → m ≡ k + 1
      → left ≡ receipt_in clerk m e ++ fewer → AgreesSoFar receipts entries clerk m fewer after
  goes_more e after fewer m rest_is m_is left_is =
      let next : m ≡ suc k = omega (arith, m_is) in
      let held : left ≡ receipt_in clerk (suc k) e ++ fewer =
      left_is ∙ ap (λ n. receipt_in clerk n e ++ fewer) next in
      subst (λ n. AgreesSoFar receipts entries clerk n fewer after) (sym next) (record {
        on = λ is. goes.on (held ∙ ap (λ r. receipt_in clerk (suc k) e ++ r) is
            ∙ sym (ap (receipts_of clerk k) rest_is));
        back = λ is. append_cancel_left (receipt_in clerk (suc k) e) fewer (receipts_of clerk (suc k) after)
            (sym held ∙ goes.back is ∙ ap (receipts_of clerk k) rest_is);
      })

  pub goes_wrong : (e : Entry) (after : List Entry) (m : ℕ) → rest ≡ e ∷ after → m ≡ k + 1
      → ((more : List Receipt) → left ≢ receipt_in clerk m e ++ more) → receipts ≢ receipts_of clerk 0 entries
  goes_wrong e after m rest_is m_is other is =
      let next : m ≡ suc k = omega (arith, m_is) in
      other (receipts_of clerk (suc k) after)
      (goes.back is ∙ ap (receipts_of clerk k) rest_is
      ∙ ap (λ n. receipt_in clerk n e ++ receipts_of clerk (suc k) after) (sym next))

  pub goes_end : rest ≡ [] → left ≡ [] → receipts ≡ receipts_of clerk 0 entries
  goes_end none gone = goes.on (gone ∙ sym (ap (receipts_of clerk k) none))

  pub goes_left : rest ≡ [] → left ≢ [] → receipts ≢ receipts_of clerk 0 entries
  goes_left none some is = some (goes.back is ∙ ap (receipts_of clerk k) none)

-- The places of receipts

at_seam : (before es : List Entry) (e : Entry) → slice_get (before ++ e ∷ es) (length before) ≡ Some e
at_seam [] es e = refl
at_seam (b ∷ before) es e = at_seam before es e

command_stands : (entries : List Entry) (clerk number n : ℕ) (e : Entry) (c : Command) (reply : Reply)
    → entry_at entries number ≡ Some e → e ≡ command_entry n c reply → nat_eq n clerk ≡ true
    → StandsInJournal entries clerk (receipt number c reply)
command_stands entries clerk number n e c reply found is from =
    found ∙ ap (λ (x : Entry). Some x) is ∙ ap (λ m. Some (command_entry m c reply)) (eqb-true n clerk from)

booked_stand : (entries : List Entry) (clerk number : ℕ) (source : Source) (event : Event) (outcome : Outcome)
    → entry_at entries number ≡ Some (record { event = event; reply = outcome; source = source })
    → (more : List Receipt) → Each (StandsInJournal entries clerk) more
    → Each (StandsInJournal entries clerk)
    ((if is_from clerk source then receipt_by number event outcome else []) ++ more)
booked_stand entries clerk number (Worker n) event outcome found more rest = rest
booked_stand entries clerk number Link event outcome found more rest = rest
booked_stand entries clerk number (Clerk n) event outcome found more rest =
    by (nat_eq n clerk) refl event outcome found
  where
    by : (t : Bool) → nat_eq n clerk ≡ t → (event : Event) (outcome : Outcome)
        → entry_at entries number ≡ Some (record { event = event; reply = outcome; source = Clerk n })
        → Each (StandsInJournal entries clerk) ((if t then receipt_by number event outcome else []) ++ more)
    by false from event outcome found = rest
    by true from (Commanded c) (Replied reply) found =
        (command_stands entries clerk number n _ c reply found refl from, rest)
    by true from (Commanded c) (Turned turn) found = rest
    by true from (Arrived flow body) outcome found = rest
    by true from (Written k) outcome found = rest
    by true from Faulted outcome found = rest

receipts_stand : (clerk k : ℕ) (before es : List Entry) → length before ≡ k
    → Each (StandsInJournal (before ++ es) clerk) (receipts_of clerk k es)
receipts_stand clerk k before [] long = tt
receipts_stand clerk k before (e ∷ es) long =
    let seam : slice_get (before ++ e ∷ es) k ≡ Some e =
    ap (slice_get (before ++ e ∷ es)) (sym long) ∙ at_seam before es e in
    let longer : length (before ++ e ∷ []) ≡ suc k =
    let both = length-append before (e ∷ []) in omega (arith, both, long) in
    booked_stand (before ++ e ∷ es) clerk (suc k) e.source e.event e.reply seam (receipts_of clerk (suc k) es)
    (subst (λ all. Each (StandsInJournal all clerk) (receipts_of clerk (suc k) es)) (append_assoc before (e ∷ []) es)
    (receipts_stand clerk (suc k) (before ++ e ∷ []) es longer))

-- the receipts of a clerk that agrees stand in the journal
pub agreed_stand : (entries : List Entry) (c : ClerkView) → Agrees entries c
    → Each (StandsInJournal entries c.number) c.receipts
agreed_stand entries c agrees =
    subst (Each (StandsInJournal entries c.number)) (sym agrees) (receipts_stand c.number 0 [] entries refl)

-- Their numbers

lower : (least more : ℕ) (rs : List Receipt) → least ≤ more → Ascend more rs → Ascend least rs
lower least more [] few ascend = tt
lower least more (r ∷ rs) few ascend = (omega (arith, few, ascend.0), ascend.1)

booked_ascend : (clerk k : ℕ) (t : Bool) (event : Event) (outcome : Outcome) (more : List Receipt)
    → Ascend (suc k) more → Ascend k ((if t then receipt_by (suc k) event outcome else []) ++ more)
booked_ascend clerk k false event outcome more rest = lower k (suc k) more (omega arith) rest
booked_ascend clerk k true (Commanded c) (Replied reply) more rest = (omega arith, rest)
booked_ascend clerk k true (Commanded c) (Turned turn) more rest = lower k (suc k) more (omega arith) rest
booked_ascend clerk k true (Arrived flow body) outcome more rest = lower k (suc k) more (omega arith) rest
booked_ascend clerk k true (Written n) outcome more rest = lower k (suc k) more (omega arith) rest
booked_ascend clerk k true Faulted outcome more rest = lower k (suc k) more (omega arith) rest

receipts_ascend : (clerk k : ℕ) (es : List Entry) → Ascend k (receipts_of clerk k es)
receipts_ascend clerk k [] = tt
receipts_ascend clerk k (e ∷ es) =
    booked_ascend clerk k (is_from clerk e.source) e.event e.reply (receipts_of clerk (suc k) es)
    (receipts_ascend clerk (suc k) es)

pub agreed_ascend : (entries : List Entry) (c : ClerkView) → Agrees entries c → Ascend 0 c.receipts
agreed_ascend entries c agrees = subst (Ascend 0) (sym agrees) (receipts_ascend c.number 0 entries)

-- One receipt taken from the front

pub front_is : (receipts rest held : List Receipt) (first due : Receipt) → receipts ≡ first ∷ rest → first ≡ due
    → held ≡ due ∷ [] → receipts ≡ held ++ rest
front_is receipts rest held first due is same held_is =
    is ∙ ap (λ (r : Receipt). r ∷ rest) same ∙ sym (ap (λ (rs : List Receipt). rs ++ rest) held_is)
