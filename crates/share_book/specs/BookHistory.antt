-- Books that follow one another, as one tenant sees them: each begins with the packets that the one before it left.
use Rattle.std.specs.Prelude.{◌≡◌, ◌-◌, ℕ, Bool, true, false, List, [], ◌∷◌, ◌++◌, length, take, drop, find, nat_eq}
use Rattle.std.specs.Prelude.{bytes_eq, Option, None, Some, if◌then◌else◌}
use Rattle.share_base.specs.declared.command.Command.TheVariants.{Hold, Resume}
use Rattle.share_base.specs.declared.command.Reply.{Reply}
use Rattle.share_model.specs.declared.rates.Rate.{Rate}
use Rattle.share_model.specs.funding.Graph.{NameBytes}
use Rattle.share_model.specs.link.Turns.{Sending, sending}
use Rattle.share_book.specs.Audited.{Audited}
use Rattle.share_book.specs.Book.{BookView, Takes, Turns}
use Rattle.share_book.specs.Carry.{Carries, left_for}
use Rattle.share_book.specs.Changes.{Changes, Amends}
use Rattle.share_book.specs.Closed.{ClosedView, closed_of}
use Rattle.share_book.specs.OpenBook.{IsOpenBook}
use Rattle.share_book.specs.Texts.{after_drain}
use Rattle.share_book.specs.declared.book.Taken.TheVariants.{Packet}
use Rattle.share_book.specs.declared.book.Turned.TheVariants.{Wrote}
use Rattle.share_book.specs.declared.book.carrying.Carried.TheVariants.{More, Done}
use Rattle.share_book.specs.declared.book_text.TextKind.{TextKind}
use Rattle.share_gateway.specs.Outbox.{OutboxView}
use Rattle.share_gateway.specs.Plan.{PlanView, TenantView, IsInLimits}
use Rattle.share_gateway.specs.PlanChanges.{is_tenant, tenant_flow, with_hold}

-- ---- The packets that wait

-- the payloads of a tenant that wait in a book
abbrev pub waiting_in : BookView → NameBytes → List (List ℕ)
waiting_in b name = left_for (closed_of b) name

-- the limit of a tenant's buffer, and 0 for another name
abbrev pub limit_by : Option TenantView → ℕ
limit_by None = 0
limit_by (Some t) = t.limit

abbrev pub tenant_limit : PlanView → NameBytes → ℕ
tenant_limit p name = limit_by (find (is_tenant name) p.tenants)

-- ---- Carrying over

-- the first bytes of the text were drained
abbrev pub drained_by : Audited → ℕ → Audited
drained_by a n = record a { text = after_drain a.text n }

-- calls of `carry` on a new book up to the one that is done; between them, and before the first, text is drained
pub data CarriesAll : Audited → List TenantView → ClosedView → Audited → ClosedView → Type 0 where
  all_done : (old : Audited) (tenants : List TenantView) (before : ClosedView) (dropped : ℕ) (new : Audited)
      (after : ClosedView)
      → Carries old tenants before (Done dropped) new after → CarriesAll old tenants before new after
  then_more : (old : Audited) (tenants : List TenantView) (before : ClosedView) (between : Audited) (left : ClosedView)
      (new : Audited) (after : ClosedView)
      → Carries old tenants before More between left → CarriesAll between tenants left new after
      → CarriesAll old tenants before new after
  then_drained : (old : Audited) (tenants : List TenantView) (before : ClosedView) (n : ℕ) (new : Audited)
      (after : ClosedView)
      → CarriesAll (drained_by old n) tenants before new after → CarriesAll old tenants before new after

-- the first of a tenant's packets wait in the new book, as many as its buffer has room for; the others are left
pub record IsCut (name : NameBytes) (limit : ℕ) (old : BookView) (new : BookView) (after : ClosedView) : Type 0 where
  pub carried : waiting_in new name ≡ take limit (waiting_in old name)
  pub dropped : left_for after name ≡ drop limit (waiting_in old name)

-- ---- Histories

abbrev pub payload_if : Bool → List ℕ → List (List ℕ)
payload_if own payload = if own then payload ∷ [] else []

-- the payload of the next frame, if that is one of the tenant's flow
abbrev pub next_payload : PlanView → NameBytes → Option Sending → List (List ℕ)
next_payload p name None = []
next_payload p name (Some s) = payload_if (nat_eq (tenant_flow p name) s.head.flow) s.head.payload

-- without the last n
abbrev pub without_last : ℕ → List (List ℕ) → List (List ℕ)
without_last n payloads = take (length payloads - n) payloads

-- The calls on books from the first one on, as the tenant of a name sees them. First come the payloads that were taken
-- of it, but for the latest ones, which were dropped when a book was carried over. Then come those of its frames that
-- were written whole, and the open book as it is.
pub data History (name : NameBytes) : List (List ℕ) → List (List ℕ) → BookView → Type 0 where
  opened : (rates : List Rate) (p : PlanView) (events : ℕ) (kind : TextKind) (b : BookView)
      → IsInLimits p → IsOpenBook rates p events kind b → History name [] [] b
  took : (taken written : List (List ℕ)) (b : BookView) (tenant payload : List ℕ) (seq : ℕ) (new : Audited)
      → History name taken written b → Takes b.audited tenant payload (Packet seq) new
      → History name (taken ++ payload_if (bytes_eq name tenant) payload) written (record b { audited = new })
  sent : (taken written : List (List ℕ)) (b : BookView) (before : OutboxView) (flow seq count : ℕ) (new : Audited)
      (after : OutboxView)
      → History name taken written b → Turns b.audited before (Wrote flow seq count) new after
      → History name taken (written ++ next_payload b.plan name (sending b.audited.link.live))
      (record b { audited = new })
  held : (taken written : List (List ℕ)) (b : BookView) (tenant : NameBytes) (reply : Reply) (new : BookView)
      → History name taken written b → Changes b (Hold tenant) (with_hold tenant true b.plan) reply new
      → History name taken written new
  resumed : (taken written : List (List ℕ)) (b : BookView) (tenant : NameBytes) (reply : Reply) (new : BookView)
      → History name taken written b → Changes b (Resume tenant) (with_hold tenant false b.plan) reply new
      → History name taken written new
  amended : (taken written : List (List ℕ)) (b : BookView) (grantee : NameBytes) (number amount : ℕ) (reply : Reply)
      (new : BookView)
      → History name taken written b → Amends b grantee number amount reply new → History name taken written new
  drained : (taken written : List (List ℕ)) (b : BookView) (n : ℕ) → History name taken written b
      → History name taken written (record b { audited = drained_by b.audited n })
  carried : (taken written : List (List ℕ)) (old : BookView) (rates : List Rate) (p : PlanView) (events : ℕ)
      (kind : TextKind) (b : BookView) (new : Audited) (after : ClosedView)
      → History name taken written old → IsInLimits p → IsOpenBook rates p events kind b
      → CarriesAll b.audited p.tenants (closed_of old) new after
      → History name (without_last (length (left_for after name)) taken) written (record b { audited = new })
