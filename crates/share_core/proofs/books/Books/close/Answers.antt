use Rattle.std.proofs.Common.{◌∙◌, ap, position}
use Rattle.std.specs.Set.{remove_key}
use Rattle.share_model.specs.link.Books.{is_book_of}
use Rattle.share_flows.proofs.FirstItemLemmas.{taken}
use Rattle.share_core.proofs.books.Books.close.Goals as goal

pub returns : goal.returns
returns c =
    let place = ap (position (is_book_of c.args.flow)) c.self.view_is ∙ c.place-place.ensures in
    c.remove.ensures.items
    ∙ (taken (is_book_of c.args.flow) _ c.place-place.result place
    ∙ ap (remove_key (is_book_of c.args.flow)) c.self.view_is)
