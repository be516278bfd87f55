use Rattle.std.proofs.Common.{◌∙◌, ap, find, position, sym}
use Rattle.share_model.specs.link.Books.{is_book_of, tariff_in}
use Rattle.share_flows.proofs.FirstItemLemmas.{found}
use Rattle.share_core.proofs.books.Books.tariff_at.Goals as goal

pub returns : goal.returns
returns c =
    let place = ap (position (is_book_of c.args.flow)) c.self.view_is ∙ c.requires in
    sym (ap tariff_in (sym (ap (find (is_book_of c.args.flow)) c.self.view_is)
    ∙ found (is_book_of c.args.flow) _ _ c.index-book.result.now place c.index-book.ensures))
