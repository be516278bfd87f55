use Rattle.std.proofs.Common.{◌<◌, ◌≤◌, ◌+◌, ◌-◌, ◌*◌, ◌^◌, length, get_or, inl, inr, arith}
use Rattle.share_catalog.proofs.NumberLemmas.{not_a_digit, too_great, not_below}
use Rattle.share_catalog.proofs.number.value_of.Goals as goal
use Rattle.share_catalog.proofs.number.value_of.Goals.{then-digit-lt48-via-then-digit-lt48}
use Rattle.share_catalog.proofs.number.value_of.Goals.{then-digit-lt48-via-else-digit-lt48+then-digit-gt57}

pub returns-then-digit-lt48 : goal.returns-then-digit-lt48
returns-then-digit-lt48 c all few =
    let inside : c.loop-digit.digit-index < length c.args.word.now = omega arith in
    absurd (elim c.then-digit-lt48.branch [
      | then-digit-lt48-via-then-digit-lt48 w ↦ let low : get_or c.args.word.now c.loop-digit.digit-index 0 < 48 =
          omega arith in not_a_digit c.args.word.now c.loop-digit.digit-index all inside (inl low)
      | then-digit-lt48-via-else-digit-lt48+then-digit-gt57 w ↦
          let high : 57 < get_or c.args.word.now c.loop-digit.digit-index 0 = omega arith in
          not_a_digit c.args.word.now c.loop-digit.digit-index all inside (inr high)
    ])

pub returns-in-None : goal.returns-in-None
returns-in-None c all few =
    let inside : c.loop-digit.digit-index < length c.args.word.now = omega arith in
    let low : 48 ≤ get_or c.args.word.now c.loop-digit.digit-index 0 = omega arith in
    let high : get_or c.args.word.now c.loop-digit.digit-index 0 ≤ 57 = omega arith in
    let great : 2 ^ 64 ≤ c.loop-digit.value * 10 + (get_or c.args.word.now c.loop-digit.digit-index 0 - 48) =
    omega (arith, c.from.ensures, not_below _ _ c.in-None.ensures) in
    absurd (too_great c.args.word.now c.loop-digit.digit-index c.loop-digit.value c.loop-digit.invariant inside low high
    great few)
