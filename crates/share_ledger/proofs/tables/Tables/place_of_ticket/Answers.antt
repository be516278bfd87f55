use Rattle.std.proofs.Common.{position, sym, ap, subst, ◌∙◌}
use Rattle.share_model.specs.funding.Graph.{Graph}
use Rattle.share_model.specs.funding.Changes.{is_numbered}
use Rattle.share_model.specs.lists.Rises.{Rises}
use Rattle.share_ledger.specs.Numbers.{AreRising}
use Rattle.share_ledger.proofs.tables.Tables.place_of_ticket.Goals as goal

pub place_of-requires : goal.place_of-requires
unfolding Rises
place_of-requires c =
    subst AreRising (sym c.deref.ensures.value) (c.self.inside.next_ticket, c.self.invariant.numbered.tickets.2)

pub returns : goal.returns
returns c =
    c.place_of.ensures
    ∙ ap (position (is_numbered c.args.number)) c.deref.ensures.value
    ∙ ap (λ (g : Graph). position (is_numbered c.args.number) g.tickets) c.self.view_is
