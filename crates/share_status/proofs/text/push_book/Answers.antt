use Rattle.share_status.proofs.TextLemmas.{time_is_text}
use Rattle.share_status.proofs.TokenLemmas.{four_steps}
use Rattle.share_status.specs.Status.{book_members}
use Rattle.share_status.proofs.text.push_book.Goals as goal

pub text_of-requires : goal.text_of-requires
text_of-requires c = rw c.text.ensures (time_is_text _)

pub returns : goal.returns
unfolding book_members
returns c =
    let last = rw (c.text_of.ensures, c.text.ensures) at c.string_member-3.ensures in
    four_steps c.string_member-3.result _ _ _ _ _ _ _ _ _ c.in_ok-string_member.ensures c.in_ok-string_member-2.ensures
    c.in_ok-number_members.ensures last
