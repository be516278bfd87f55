use Rattle.std.proofs.Common.{◌≤◌, ap, ◌∙◌, subst, sym, position, find, Option, IsTrue, is_some}
use Rattle.share_model.specs.declared.link.Book.{Book}
use Rattle.share_model.specs.link.Tariff.{rate_at}
use Rattle.share_model.specs.link.Books.{is_book_of, units_by, with_units, books_with_units}
use Rattle.share_core.specs.Found.{IfFound}
use Rattle.share_flows.proofs.FirstItemLemmas.{changed, found}
use Rattle.share_core.proofs.books.Books.charge_at.Goals as goal

pub post-requires-clause-known : goal.post-requires-clause-known
post-requires-clause-known g c =
    let place = ap (position (is_book_of c.args.flow)) c.self.view_is ∙ c.requires.there in
    let book = sym (ap (find (is_book_of c.args.flow)) c.self.view_is)
    ∙ found (is_book_of c.args.flow) _ _ c.index_mut-book.result.now place c.index_mut-book.ensures.value in
    subst (λ (o : Option Book). IfFound o
    (λ b. IsTrue (is_some (rate_at (g.S.Rates.rates c.args.shelf.now) b.tariff)))) book c.requires.known

pub post-requires-clause-account : goal.post-requires-clause-account
post-requires-clause-account g c =
    let place = ap (position (is_book_of c.args.flow)) c.self.view_is ∙ c.requires.there in
    let book = sym (ap (find (is_book_of c.args.flow)) c.self.view_is)
    ∙ found (is_book_of c.args.flow) _ _ c.index_mut-book.result.now place c.index_mut-book.ensures.value in
    subst (λ (o : Option Book). IfFound o (λ b. b.account ≤ 4611686018427387904)) book c.requires.account

pub returns-clause-units : goal.returns-clause-units
returns-clause-units g c =
    let place = ap (position (is_book_of c.args.flow)) c.self.view_is ∙ c.requires.there in
    let book = sym (ap (find (is_book_of c.args.flow)) c.self.view_is)
    ∙ found (is_book_of c.args.flow) _ _ c.index_mut-book.result.now place c.index_mut-book.ensures.value in
    c.post.ensures.units
    ∙ sym (ap (units_by (g.S.Rates.rates c.args.shelf.now) c.args.count) book)

pub returns-clause-posted : goal.returns-clause-posted
returns-clause-posted g c =
    let place = ap (position (is_book_of c.args.flow)) c.self.view_is ∙ c.requires.there in
    changed (is_book_of c.args.flow)
    (with_units (g.S.Rates.rates c.args.shelf.now) c.post.result) _ _ c.index_mut-book.result.now _ place
    c.index_mut-book.ensures.value c.post.ensures.posted
    ∙ ap (λ bs. books_with_units (g.S.Rates.rates c.args.shelf.now) bs c.args.flow c.post.result) c.self.view_is
