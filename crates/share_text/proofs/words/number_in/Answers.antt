use Rattle.std.proofs.Common.{◌<◌, ◌≤◌, length, get_or, inl, inr, arith, sym}
use Rattle.share_text.proofs.NumberLemmas.{not_begun, not_a_digit, read_all, too_great, not_below}
use Rattle.share_text.proofs.words.number_in.Goals as goal
use Rattle.share_text.proofs.words.number_in.Goals.{then-digit-lt48-via-then-digit-lt48}
use Rattle.share_text.proofs.words.number_in.Goals.{then-digit-lt48-via-else-digit-lt48+then-digit-gt57}

pub returns-then-not-begins_number : goal.returns-then-not-begins_number
returns-then-not-begins_number c = sym (not_begun c.args.word.now (sym c.if-not-begins_number.ensures))

pub returns-then-digit-lt48 : goal.returns-then-digit-lt48
returns-then-digit-lt48 c =
    let inside : c.loop-digit.digit-index < length c.args.word.now = omega arith in
    elim c.then-digit-lt48.branch [
      | then-digit-lt48-via-then-digit-lt48 w ↦ let low : get_or c.args.word.now c.loop-digit.digit-index 0 < 48 =
          omega arith in sym (not_a_digit c.args.word.now c.loop-digit.digit-index inside (inl low))
      | then-digit-lt48-via-else-digit-lt48+then-digit-gt57 w ↦
          let high : 57 < get_or c.args.word.now c.loop-digit.digit-index 0 = omega arith in
          sym (not_a_digit c.args.word.now c.loop-digit.digit-index inside (inr high))
    ]

pub returns : goal.returns
returns c =
    sym (read_all c.args.word.now c.loop-digit.digit-index c.loop-digit.value c.loop-digit.invariant (omega arith)
    (sym c.if-not-begins_number.ensures))

pub returns-in-None : goal.returns-in-None
returns-in-None c =
    let inside : c.loop-digit.digit-index < length c.args.word.now = omega arith in
    let low : 48 ≤ get_or c.args.word.now c.loop-digit.digit-index 0 = omega arith in
    let high : get_or c.args.word.now c.loop-digit.digit-index 0 ≤ 57 = omega arith in
    sym (too_great c.args.word.now c.loop-digit.digit-index c.loop-digit.value c.loop-digit.invariant inside low high
    (not_below _ _ c.in-None.ensures))
