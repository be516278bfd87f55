use Rattle.std.proofs.Common.{◌∙◌, ap, position}
use Rattle.share_model.specs.link.Books.{is_book_of, with_hold, books_with_hold}
use Rattle.share_flows.proofs.FirstItemLemmas.{changed}
use Rattle.share_core.proofs.books.Books.hold.Goals as goal

pub returns : goal.returns
returns c =
    let place = ap (position (is_book_of c.args.flow)) c.self.view_is ∙ c.place-place.ensures in
    changed (is_book_of c.args.flow) (with_hold c.args.held) _ _ c.index_mut-book.result.now _ place
    c.index_mut-book.ensures.value c.mark.ensures
    ∙ ap (λ bs. books_with_hold bs c.args.flow c.args.held) c.self.view_is
