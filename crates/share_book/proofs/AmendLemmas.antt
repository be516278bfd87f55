-- The outcome of an amend.
use Rattle.std.specs.Prelude.{◌≡◌, ◌-◌, ℕ, true, false, Ok, Err}
use Rattle.share_base.specs.declared.command.Command.TheVariants.{Amend}
use Rattle.share_base.specs.declared.command.Reply.{Reply}
use Rattle.share_base.specs.declared.command.Reply.TheVariants.{Refused}
use Rattle.share_base.specs.declared.refusal.Refusal.{Refusal}
use Rattle.share_base.specs.declared.refusal.Refusal.TheVariants.{Spent}
use Rattle.share_model.specs.funding.Graph.{NameBytes}
use Rattle.share_model.specs.link.Calls.{is_spent}
use Rattle.share_gateway.specs.GrantTickets.{grant_ticket}
use Rattle.share_gateway.specs.PlanChanges.{with_amount}
use Rattle.share_book.specs.Book.{BookView}
use Rattle.share_book.specs.Changes.{Amends, IsChange}

module _ (old new : BookView) (name : NameBytes) (j amount : ℕ) (reply : Reply) where
  pub amends-spent : is_spent old.audited.link ≡ true → reply ≡ Refused Spent → new ≡ old
      → Amends old name j amount reply new
  amends-spent spent is same = rw spent (is, same)

  -- there is no such grant
  pub amends-none : (why : Refusal) → is_spent old.audited.link ≡ false → grant_ticket old.plan name j ≡ Err why
      → reply ≡ Refused why → new ≡ old → Amends old name j amount reply new
  amends-none why living none is same = rw (living, none) (is, same)

  pub amends-made : (ticket : ℕ) → is_spent old.audited.link ≡ false → grant_ticket old.plan name j ≡ Ok ticket
      → IsChange old (Amend ticket amount) (with_amount name (j - 1) amount old.plan) reply new
      → Amends old name j amount reply new
  amends-made ticket living is did = rw (living, is) did
