use Rattle.share_ingress.proofs.StreamLemmas.{each_has_records, records_are_one, records_in_front}
use Rattle.share_ingress.proofs.laws.streams_have_one_reading.Goals as goal

pub returns-clause-some : goal.returns-clause-some
returns-clause-some c = each_has_records

pub returns-clause-one : goal.returns-clause-one
returns-clause-one c = records_are_one

pub returns-clause-front : goal.returns-clause-front
returns-clause-front c = records_in_front
