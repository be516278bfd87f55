use Rattle.share_bill.proofs.OneBillLemmas.{one-bill, one-run, one-wrong, none-wrong}
use Rattle.share_bill.proofs.laws.texts_have_one_bill.Goals as goal

pub returns-clause-one : goal.returns-clause-one
returns-clause-one c rates bytes kind other rows others cut left is also =
    one-bill rates bytes kind other rows others cut left is also

pub returns-clause-run : goal.returns-clause-run
returns-clause-run c rates bytes kind other rows others cut left is also =
    one-run rates bytes kind other rows others cut left is also

pub returns-clause-right : goal.returns-clause-right
returns-clause-right c rates bytes kind rows cut number wrong is not =
    none-wrong rates bytes kind rows cut number wrong is not

pub returns-clause-wrong : goal.returns-clause-wrong
returns-clause-wrong c rates bytes number other wrong also is not =
    one-wrong rates bytes number other wrong also is not
