-- Nothing is lost in the life of a gateway's books.
use Rattle.std.proofs.Common.{◌≡◌, ◌≤◌, ℕ, ◌+◌, ◌-◌, Bool, true, false, List, [], ◌∷◌, ◌++◌, length, take, drop, min}
use Rattle.std.proofs.Common.{arith, refl, ap, sym, subst, ◌∙◌, length-append, length-drop}
use Rattle.std.specs.Prelude.{bytes_eq, Option, None, Some, MatchBool}
use Rattle.std.proofs.lemmas.List.{append-nil, take_at}
use Rattle.share_base.specs.declared.command.Command.TheVariants.{Hold as HoldFlow, Resume as ResumeFlow}
use Rattle.share_model.specs.declared.rates.Rate.{Rate}
use Rattle.share_model.specs.funding.Graph.{NameBytes}
use Rattle.share_model.specs.link.Turns.{sending}
use Rattle.share_gateway.specs.Plan.{PlanView, TenantView, IsInLimits}
use Rattle.share_gateway.specs.PlanChanges.{with_hold}
use Rattle.share_book.specs.Audited.{Audited}
use Rattle.share_book.specs.Book.{BookView, Takes}
use Rattle.share_book.specs.BookHistory.{
  CarriesAll,
  History,
  IsCut,
  amended,
  carried,
  drained,
  drained_by,
  held,
  next_payload,
  opened,
  payload_if,
  resumed,
  sent,
  tenant_limit,
  took as book_took,
  waiting_in,
  without_last,
}
use Rattle.share_book.specs.Carry.{left_for}
use Rattle.share_book.specs.Closed.{ClosedView, closed_of}
use Rattle.share_book.specs.OpenBook.{IsOpenBook}
use Rattle.share_book.specs.declared.book.Taken.TheVariants.{Packet}
use Rattle.share_book.specs.declared.book.Turned.{Turned}
use Rattle.share_book.specs.declared.book.Turned.TheVariants.{NoText, NoRoom, Spent, Idle, Wrote}
use Rattle.share_book.specs.declared.book_text.TextKind.{TextKind}
use Rattle.share_settings.specs.Settings.{SettingsView}
use Rattle.share_transit.specs.Transit.{TransitView, TurnsInto}
use Rattle.share_transit.proofs.PacedLemmas.{is_wrote, stays_is}
use Rattle.share_orders.specs.Obeys.{Does, Obeys, takes_no_event, waits}
use Rattle.share_orders.specs.declared.orders.Order.{Order}
use Rattle.share_orders.specs.declared.orders.Order.TheVariants.{Report, Status, Hold, Resume, Amend, Rotate}
use Rattle.share_orders.specs.declared.orders.Order.TheVariants.{Reload, End}
use Rattle.share_orders.specs.declared.obeying.Obeyed.{Obeyed}
use Rattle.share_orders.specs.declared.obeying.Obeyed.TheVariants.{Replied, Asks, Waits}
use Rattle.share_lives.specs.LifeHistory.{
  LifeHistory,
  LosesNothing,
  Splits,
  began,
  followed,
  handed,
  left,
  nothing,
  obeyed,
  planned,
  scheduled_at,
  took,
  turned,
  waiting_at,
}
use Rattle.share_lives.specs.Lives.{
  Begins,
  IsNextAfter,
  LifeView,
  ObeysAt,
  OpensFirst,
  TurnsAt,
  drained_at,
  frame_of,
  next_plan,
  next_rates,
}
use Rattle.share_lives.specs.NextBooks.{text_kind}
use Rattle.share_lives.specs.declared.stage.Phase.{Phase}
use Rattle.share_lives.specs.declared.stage.Phase.TheVariants.{Open, Carrying, Over}
use Rattle.share_lives.proofs.SplitLemmas.{Fewer, first-kept, more-kept}

-- the payloads that were not dropped are those of a history of books; after the end all of them were scheduled
abbrev KeptAt : NameBytes → List (List ℕ) → List (List ℕ) → Phase → Type 0
KeptAt name some scheduled (Open b) = History name some scheduled b
KeptAt name some scheduled (Carrying b c) = ⊥
KeptAt name some scheduled Over = some ≡ scheduled

record Keeps (name : NameBytes) (taken : List (List ℕ)) (dropped : ℕ) (scheduled : List (List ℕ)) (stage : Phase)
    : Type 0 where
  some : List (List ℕ)
  others : List (List ℕ)
  splits : Splits taken some others
  count : length others ≡ dropped
  history : KeptAt name some scheduled stage

began_at : (name : NameBytes) (s : SettingsView) (stage : Phase) → IsInLimits s.plan → OpensFirst s stage
    → Keeps name [] 0 [] stage
began_at name s (Open b) limits first = record {
  some = [];
  others = [];
  splits = nothing;
  count = refl;
  history = opened s.tariffs s.plan s.books.events (text_kind s.books.text) b limits first;
}
began_at name s (Carrying b c) limits first = absurd first
began_at name s Over limits first = absurd first

module _ (name : NameBytes) (taken : List (List ℕ)) (dropped : ℕ) (scheduled : List (List ℕ)) where
  -- ---- The open book changes

  with_history : (stage : Phase) (k : Keeps name taken dropped scheduled stage) (more : List (List ℕ)) (new : Phase)
      → KeptAt name k.some more new → Keeps name taken dropped more new
  with_history stage k more new history =
      record { some = k.some; others = k.others; splits = k.splits; count = k.count; history = history }

  took_at : (b : BookView) (tenant payload : List ℕ) (seq : ℕ) (new : Audited)
      → Keeps name taken dropped scheduled (Open b) → Takes b.audited tenant payload (Packet seq) new
      → Keeps name (taken ++ payload_if (bytes_eq name tenant) payload) dropped scheduled
      (Open (record b { audited = new }))
  took_at b tenant payload seq new k did = record {
    some = k.some ++ payload_if (bytes_eq name tenant) payload;
    others = k.others;
    splits = more-kept taken k.some k.others (payload_if (bytes_eq name tenant) payload) k.splits;
    count = k.count;
    history = book_took k.some scheduled b tenant payload seq new k.history did;
  }

  same_plan : (b n : BookView) (some more : List (List ℕ)) → n.plan ≡ b.plan
      → History name some more (record b { audited = n.audited }) → History name some more n
  same_plan b n some more plan history =
      subst (λ (p : PlanView). History name some more (record { audited = n.audited; plan = p })) (sym plan) history

  unturned : (b n : BookView) (t : TransitView) (answer : Turned) (after : TransitView) → is_wrote answer ≡ false
      → Keeps name taken dropped scheduled (Open b) → TurnsInto t b.audited answer after n.audited → n.plan ≡ b.plan
      → Keeps name taken dropped (scheduled ++ []) (Open n)
  unturned b n t answer after none k did plan =
      let same : n.audited ≡ b.audited = (stays_is b.audited t.outbox answer n.audited did.outbox none did.turns).0 in
      subst (λ ps. Keeps name taken dropped ps (Open n)) (sym (append-nil scheduled))
      (with_history (Open b) k scheduled (Open n)
      (same_plan b n k.some scheduled plan
      (subst (λ (a : Audited). History name k.some scheduled (record b { audited = a })) (sym same) k.history)))

  turned_book : (b n : BookView) (t : TransitView) (answer : Turned) (after : TransitView)
      → Keeps name taken dropped scheduled (Open b) → TurnsInto t b.audited answer after n.audited → n.plan ≡ b.plan
      → Keeps name taken dropped (scheduled ++ scheduled_at name (Open b) (frame_of answer)) (Open n)
  turned_book b n t (Wrote flow seq count) after k did plan =
      with_history (Open b) k (scheduled ++ next_payload b.plan name (sending b.audited.link.live)) (Open n)
      (same_plan b n k.some (scheduled ++ next_payload b.plan name (sending b.audited.link.live)) plan
      (sent k.some scheduled b t.outbox flow seq count n.audited did.outbox k.history did.turns))
  turned_book b n t NoText after k did plan = unturned b n t NoText after refl k did plan
  turned_book b n t NoRoom after k did plan = unturned b n t NoRoom after refl k did plan
  turned_book b n t Spent after k did plan = unturned b n t Spent after refl k did plan
  turned_book b n t Idle after k did plan = unturned b n t Idle after refl k did plan

  turned_at : (stage new : Phase) (t : TransitView) (answer : Turned) (after : TransitView)
      → Keeps name taken dropped scheduled stage → TurnsAt stage t answer new after
      → Keeps name taken dropped (scheduled ++ scheduled_at name stage (frame_of answer)) new
  turned_at (Open b) (Open n) t answer after k did = turned_book b n t answer after k did.0 did.1
  turned_at (Open b) (Carrying n c) t answer after k did = absurd did
  turned_at (Open b) Over t answer after k did = absurd did
  turned_at (Carrying b c) new t answer after k did = absurd k.history
  turned_at Over new t answer after k did =
      subst (λ ps. Keeps name taken dropped ps new) (sym (append-nil scheduled))
      (subst (Keeps name taken dropped scheduled) (sym did.1) k)

  did_order : (b n : BookView) (order : Order) (answer : Obeyed) → Keeps name taken dropped scheduled (Open b)
      → Does b order answer n → Keeps name taken dropped scheduled (Open n)
  did_order b n Report (Replied reply) k did = absurd did
  did_order b n Report (Asks duty) k did =
      subst (λ (n : BookView). Keeps name taken dropped scheduled (Open n)) (sym did.1) k
  did_order b n Report Waits k did = absurd did
  did_order b n Status (Replied reply) k did = absurd did
  did_order b n Status (Asks duty) k did =
      subst (λ (n : BookView). Keeps name taken dropped scheduled (Open n)) (sym did.1) k
  did_order b n Status Waits k did = absurd did
  did_order b n (Hold tenant) (Replied reply) k did =
      with_history (Open b) k scheduled (Open n) (held k.some scheduled b tenant reply n k.history did)
  did_order b n (Hold tenant) (Asks duty) k did = absurd did
  did_order b n (Hold tenant) Waits k did = absurd did
  did_order b n (Resume tenant) (Replied reply) k did =
      with_history (Open b) k scheduled (Open n) (resumed k.some scheduled b tenant reply n k.history did)
  did_order b n (Resume tenant) (Asks duty) k did = absurd did
  did_order b n (Resume tenant) Waits k did = absurd did
  did_order b n (Amend tenant number amount) (Replied reply) k did =
      with_history (Open b) k scheduled (Open n)
      (amended k.some scheduled b tenant number amount reply n k.history did)
  did_order b n (Amend tenant number amount) (Asks duty) k did = absurd did
  did_order b n (Amend tenant number amount) Waits k did = absurd did
  did_order b n Rotate (Replied reply) k did = absurd did
  did_order b n Rotate (Asks duty) k did =
      subst (λ (n : BookView). Keeps name taken dropped scheduled (Open n)) (sym did.1) k
  did_order b n Rotate Waits k did = absurd did
  did_order b n Reload (Replied reply) k did = absurd did
  did_order b n Reload (Asks duty) k did =
      subst (λ (n : BookView). Keeps name taken dropped scheduled (Open n)) (sym did.1) k
  did_order b n Reload Waits k did = absurd did
  did_order b n End (Replied reply) k did = absurd did
  did_order b n End (Asks duty) k did =
      subst (λ (n : BookView). Keeps name taken dropped scheduled (Open n)) (sym did.1) k
  did_order b n End Waits k did = absurd did

  obeyed_book : (b n : BookView) (order : Order) (answer : Obeyed) (waiting : Bool)
      → Keeps name taken dropped scheduled (Open b)
      → MatchBool waiting ((answer ≡ Waits) × (n ≡ b)) (Does b order answer n)
      → Keeps name taken dropped scheduled (Open n)
  obeyed_book b n order answer true k did =
      subst (λ (n : BookView). Keeps name taken dropped scheduled (Open n)) (sym did.1) k
  obeyed_book b n order answer false k did = did_order b n order answer k did

  obeyed_at : (fails : Bool) (stage new : Phase) (order : Order) (answer : Obeyed)
      → Keeps name taken dropped scheduled stage → ObeysAt fails stage order answer new
      → Keeps name taken dropped scheduled new
  obeyed_at fails (Open b) (Open n) order answer k did =
      obeyed_book b n order answer (waits fails (takes_no_event b) order) k did
  obeyed_at fails (Open b) (Carrying n c) order answer k did = absurd did
  obeyed_at fails (Open b) Over order answer k did = absurd did
  obeyed_at fails (Carrying b c) new order answer k did = absurd k.history
  obeyed_at fails Over new order answer k did = subst (Keeps name taken dropped scheduled) (sym did.1) k

  handed_at : (n : ℕ) (stage : Phase) → Keeps name taken dropped scheduled stage
      → Keeps name taken dropped scheduled (drained_at n stage)
  handed_at n (Open b) k =
      with_history (Open b) k scheduled (Open (record b { audited = drained_by b.audited n }))
      (drained k.some scheduled b n k.history)
  handed_at n (Carrying b c) k = absurd k.history
  handed_at n Over k = k

  -- ---- One book after another, and the end

  module _ (in_order : (some scheduled : List (List ℕ)) (b : BookView) → History name some scheduled b
      → some ≡ scheduled ++ waiting_in b name) where
    -- the last n payloads that were kept are dropped
    without : (stage : Phase) (k : Keeps name taken dropped scheduled stage) (n : ℕ) → n ≤ length k.some → (new : Phase)
        → KeptAt name (without_last n k.some) scheduled new → Keeps name taken (dropped + n) scheduled new
    without stage k n few new history =
        let fewer : Fewer taken (take (length k.some - n) k.some) k.others (length k.some - (length k.some - n)) =
        first-kept taken k.some k.others (length k.some - n) k.splits in
        let count = fewer.count in
        let was = k.count in
        record {
          some = without_last n k.some;
          others = fewer.gone;
          splits = fewer.splits;
          count = omega (arith, count, was, few);
          history = history;
        }

    followed_book : (old b : BookView) (rates : List Rate) (p : PlanView) (events : ℕ) (kind : TextKind) (new : Audited)
        (after : ClosedView) → Keeps name taken dropped scheduled (Open old) → IsInLimits p
        → IsOpenBook rates p events kind b → CarriesAll b.audited p.tenants (closed_of old) new after
        → IsCut name (tenant_limit p name) old (record b { audited = new }) after
        → Keeps name taken (dropped + length (left_for after name)) scheduled (Open (record b { audited = new }))
    followed_book old b rates p events kind new after k limits begun did cut =
        let order = ap length (in_order k.some scheduled old k.history)
        ∙ length-append scheduled (waiting_in old name) in
        let rest = ap length cut.dropped ∙ length-drop (tenant_limit p name) (waiting_in old name) in
        without (Open old) k (length (left_for after name)) (omega (arith, order, rest))
        (Open (record b { audited = new }))
        (carried k.some scheduled old rates p events kind b new after k.history limits begun did)

    left_at : (b : BookView) → Keeps name taken dropped scheduled (Open b)
        → Keeps name taken (dropped + length (waiting_in b name)) scheduled Over
    left_at b k =
        let is = in_order k.some scheduled b k.history in
        let order = ap length is ∙ length-append scheduled (waiting_in b name) in
        let first : length k.some - length (waiting_in b name) ≡ length scheduled = omega (arith, order) in
        without (Open b) k (length (waiting_in b name)) (omega (arith, order)) Over
        ((λ i. take (first i) (is i)) ∙ take_at scheduled (waiting_in b name) (length scheduled) refl)

    loses_at : (stage : Phase) → Keeps name taken dropped scheduled stage
        → LosesNothing taken dropped scheduled (waiting_at stage name)
    loses_at (Open b) k = record {
      others = k.others;
      splits = subst (λ ps. Splits taken ps k.others) (in_order k.some scheduled b k.history) k.splits;
      count = k.count;
    }
    loses_at (Carrying b c) k = absurd k.history
    loses_at Over k = record {
      others = k.others;
      splits = subst (λ ps. Splits taken ps k.others) (k.history ∙ sym (append-nil scheduled)) k.splits;
      count = k.count;
    }

module _ (in_order : (name : NameBytes) (some scheduled : List (List ℕ)) (b : BookView) → History name some scheduled b
    → some ≡ scheduled ++ waiting_in b name)
    (cut_by : (name : NameBytes) (some scheduled : List (List ℕ)) (old : BookView) (rates : List Rate) (p : PlanView)
    (events : ℕ) (kind : TextKind) (b : BookView) (new : Audited) (after : ClosedView)
    → History name some scheduled old → IsInLimits p → IsOpenBook rates p events kind b
    → CarriesAll b.audited p.tenants (closed_of old) new after
    → IsCut name (tenant_limit p name) old (record b { audited = new }) after) where
  followed_at : (name : NameBytes) (taken : List (List ℕ)) (dropped : ℕ) (scheduled : List (List ℕ)) (l : LifeView)
      (old b : BookView) (new : Audited) (after : ClosedView) → Keeps name taken dropped scheduled (Open old)
      → IsInLimits (next_plan old.plan l.next) → IsNextAfter (Open old) l b
      → CarriesAll b.audited b.plan.tenants (closed_of old) new after
      → Keeps name taken (dropped + length (left_for after name)) scheduled (Open (record b { audited = new }))
  followed_at name taken dropped scheduled l old b new after k limits next did =
      let rates : List Rate = next_rates l.rates l.next in
      let p : PlanView = next_plan old.plan l.next in
      let all : CarriesAll b.audited p.tenants (closed_of old) new after =
      subst (λ (p : PlanView). CarriesAll b.audited p.tenants (closed_of old) new after) next.plan did in
      followed_book name taken dropped scheduled (in_order name) old b rates p l.events (text_kind l.kind) new after k
      limits next all
      (cut_by name k.some scheduled old rates p l.events (text_kind l.kind) b new after k.history limits next all)

  keeps : (name : NameBytes) (taken : List (List ℕ)) (dropped : ℕ) (scheduled : List (List ℕ)) (l : LifeView)
      → LifeHistory name taken dropped scheduled l → Keeps name taken dropped scheduled l.stage
  keeps name _ _ _ _ (began s l limits begins) = began_at name s l.stage limits begins.book
  keeps name _ _ _ _ (took taken dropped scheduled l b tenant payload seq new was is did) =
      took_at name taken dropped scheduled b tenant payload seq new
      (subst (Keeps name taken dropped scheduled) is (keeps name taken dropped scheduled l was)) did
  keeps name _ _ _ _ (turned taken dropped scheduled l before frame new after was did) =
      subst (λ frame. Keeps name taken dropped (scheduled ++ scheduled_at name l.stage frame) new.stage)
      (sym did.frame_is)
      (turned_at name taken dropped scheduled l.stage new.stage before did.turned after
      (keeps name taken dropped scheduled l was) did.turns)
  keeps name _ _ _ _ (obeyed taken dropped scheduled l waiting order answer stage was did) =
      obeyed_at name taken dropped scheduled waiting l.stage stage order answer
      (keeps name taken dropped scheduled l was) did
  keeps name _ _ _ _ (handed taken dropped scheduled l n was) =
      handed_at name taken dropped scheduled n l.stage (keeps name taken dropped scheduled l was)
  keeps name _ _ _ _ (planned taken dropped scheduled l next was) = keeps name taken dropped scheduled l was
  keeps name _ _ _ _ (followed taken dropped scheduled l old b new after was is limits next did) =
      followed_at name taken dropped scheduled l old b new after
      (subst (Keeps name taken dropped scheduled) is (keeps name taken dropped scheduled l was)) limits
      (subst (λ stage. IsNextAfter stage l b) is next) did
  keeps name _ _ _ _ (left taken dropped scheduled l b was is) =
      left_at name taken dropped scheduled (in_order name) b
      (subst (Keeps name taken dropped scheduled) is (keeps name taken dropped scheduled l was))

  pub life-loses : (name : NameBytes) (taken : List (List ℕ)) (dropped : ℕ) (scheduled : List (List ℕ)) (l : LifeView)
      → LifeHistory name taken dropped scheduled l
      → LosesNothing taken dropped scheduled (waiting_at l.stage name)
  life-loses name taken dropped scheduled l history =
      loses_at name taken dropped scheduled (in_order name) l.stage (keeps name taken dropped scheduled l history)
