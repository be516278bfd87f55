use Rattle.std.proofs.Common.{◌≡◌, true, sym, ap, ◌∙◌}
use Rattle.share_spellings.specs.Amounts.{is_decimal}
use Rattle.share_spellings.proofs.AmountLemmas.{parsed}
use Rattle.share_spellings.proofs.amount.read_number.Goals as goal

pub returns : goal.returns
returns c =
    let is : is_decimal c.args.text.now ≡ true =
    ap is_decimal (sym c.as_bytes.ensures.value) ∙ sym c.if-not-is_decimal.ensures in
    c.ok.ensures.value ∙ parsed c.args.text.now c.parse.result is c.parse.ensures.value.0
