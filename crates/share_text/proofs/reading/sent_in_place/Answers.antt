use Rattle.share_text.proofs.ReadingLemmas.{in_place_read}
use Rattle.share_text.proofs.reading.sent_in_place.Goals as goal

pub returns-in-Some : goal.returns-in-Some
returns-in-Some c version =
    in_place_read version c.args.flow c.args.digits.now _ _ c.in-Some.ensures.0 c.in-Some.ensures.1 c.in-Some.ensures.2
