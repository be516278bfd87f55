use Rattle.std.proofs.Common.{◌≡◌, ℕ, nat_eq, IsTrue, sym, ◌∙◌, arith}
use Rattle.std.proofs.lemmas.Bool.Decides.{nat_tests}
use Rattle.share_model.specs.declared.funding.Ticket.{Ticket}
use Rattle.share_ledger.proofs.NumberLemmas.{stands-at}
use Rattle.share_ledger.proofs.tickets.stands_at.Goals as goal

equal : (m n : ℕ) → IsTrue (nat_eq m n) → n ≡ m
equal m n same = grind (arith, nat_tests)

pub returns-then-place-tickets : goal.returns-then-place-tickets
returns-then-place-tickets c = λ stands.
    stands-at (λ (t : Ticket). t.number) c.requires.0 c.args.tickets.now c.requires.1 c.args.number c.args.place
    c.index-tickets-place.result c.if-place-tickets.true
    (sym c.number.ensures ∙ sym c.from.ensures ∙ equal c.args.number c.from.result stands)
