use Rattle.share_messages.proofs.RunLemmas.{all_counted, never_left_out, ten_a_second}
use Rattle.share_messages.proofs.laws.limits_are_kept.Goals as goal

pub returns-clause-ten_a_second : goal.returns-clause-ten_a_second
returns-clause-ten_a_second c = ten_a_second

pub returns-clause-counted : goal.returns-clause-counted
returns-clause-counted c = all_counted

pub returns-clause-never_left_out : goal.returns-clause-never_left_out
returns-clause-never_left_out c = never_left_out
