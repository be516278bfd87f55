use Rattle.share_text.proofs.TextLemmas.{pushed_two_digits}
use Rattle.share_script.proofs.spool.Spool.push_two_digits.Goals as goal

pub returns-clause-bytes : goal.returns-clause-bytes
returns-clause-bytes c =
    pushed_two_digits c.args.number c.requires.two.0 c.requires.two.1 _ _ _ c.push_digit.ensures.bytes
    c.push_digit-2.ensures.bytes
