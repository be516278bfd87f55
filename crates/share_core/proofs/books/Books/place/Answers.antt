use Rattle.std.proofs.Common.{◌∙◌, ap, sym, subst, IsSome, position, true≢false}
use Rattle.share_model.specs.link.Books.{is_book_of}
use Rattle.share_flows.proofs.FirstItemLemmas.{some_place}
use Rattle.share_core.proofs.books.Books.place.Goals as goal

pub unreachable-requires : goal.unreachable-requires
unreachable-requires c =
    let there = ap (position (is_book_of c.args.flow)) (sym (c.as_slice.ensures.value ∙ c.self.view_is))
    ∙ sym c.place_of.ensures ∙ c.in-None.is in
    true≢false (sym (subst IsSome there (some_place (is_book_of c.args.flow) c.args.self.now c.requires)))
