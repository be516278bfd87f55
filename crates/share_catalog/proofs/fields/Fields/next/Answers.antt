use Rattle.std.proofs.Common.{sym, ◌∙◌, ap}
use Rattle.std.specs.Option.{option_copied}
use Rattle.share_catalog.specs.Pieces.{pieces_left}
use Rattle.share_catalog.proofs.PieceLemmas.{split_nowhere, split_first_to_end}
use Rattle.share_catalog.proofs.fields.Fields.next.Goals as goal

pub returns-in-None : goal.returns-in-None
returns-in-None g c = sym c.self.view_is ∙ ap (λ o. pieces_left g.row.SEPARATOR (option_copied o)) c.in_ok-rest.was
    ∙ split_nowhere _ _ c.in-None.ensures

pub returns-in-Some : goal.returns-in-Some
returns-in-Some g c = sym c.self.view_is ∙ ap (λ o. pieces_left g.row.SEPARATOR (option_copied o)) c.in_ok-rest.was
    ∙ split_first_to_end _ _ _ c.in-Some.ensures
