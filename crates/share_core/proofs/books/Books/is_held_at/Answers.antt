use Rattle.std.proofs.Common.{◌∙◌, ap, find, position, sym}
use Rattle.share_model.specs.link.Books.{is_book_of, is_held_by}
use Rattle.share_flows.proofs.FirstItemLemmas.{found}
use Rattle.share_core.proofs.books.Books.is_held_at.Goals as goal

pub returns : goal.returns
returns c =
    let place = ap (position (is_book_of c.args.flow)) c.self.view_is ∙ c.requires in
    sym (ap is_held_by (sym (ap (find (is_book_of c.args.flow)) c.self.view_is)
    ∙ found (is_book_of c.args.flow) _ _ c.index-book.result.now place c.index-book.ensures))
