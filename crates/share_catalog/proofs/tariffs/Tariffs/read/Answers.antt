use Rattle.share_catalog.proofs.TariffLemmas.{no_tariff, too_many, read_whole, some_word, not_added}
use Rattle.share_catalog.proofs.tariffs.Tariffs.read.Goals as goal

pub returns-in_err-tariff : goal.returns-in_err-tariff
returns-in_err-tariff c =
    let some = some_word c.args.word.now _ c.is_empty.ensures c.if-is_empty.false in
    rw c.from_residual.ensures (no_tariff c.args.word.now c.loop-piece.tariffs _ _ _ some c.loop-piece.invariant.1
    c.in-Some.ensures c.in_err-tariff.ensures)

pub returns-then-not-add : goal.returns-then-not-add
returns-then-not-add c =
    let some = some_word c.args.word.now _ c.is_empty.ensures c.if-is_empty.false in
    let many = not_added _ _ c.add.result c.add.ensures.test.1 c.in_ok-tariff.ensures.0 c.if-not-add.true in
    too_many c.args.word.now c.loop-piece.tariffs _ _ _ some c.loop-piece.invariant.1 c.in-Some.ensures many

pub returns : goal.returns
returns c = (
  c.loop-piece.invariant.0,
  read_whole c.args.word.now c.loop-piece.tariffs _ c.loop-piece.invariant.1 c.in_default.ensures,
)
