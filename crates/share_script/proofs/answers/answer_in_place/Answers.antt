use Rattle.share_model.specs.declared.line.Line.TheVariants.{Send, Turn}
use Rattle.share_script.proofs.AnswerLemmas.{read_ok, answered}
use Rattle.share_script.proofs.answers.answer_in_place.Goals as goal

pub answer_line-requires-clause-in_range : goal.answer_line-requires-clause-in_range
answer_line-requires-clause-in_range g c = (c.in-Some.ensures.spelled c.args.engine.now.live.version).in_range

pub returns-in-Some-clause-says : goal.returns-in-Some-clause-says
returns-in-Some-clause-says g c =
    answered _ c.args.engine.now c.answer_line.new.engine c.args.first c.args.bytes.now (Turn c.in-Some.most)
    c.answer_line.result
    (read_ok c.args.engine.now.live.version c.args.bytes.now (Turn c.in-Some.most)
    (c.in-Some.ensures.reads c.args.engine.now.live.version)) c.answer_line.ensures.says

pub answer_line-requires-in-Some-read_packet-clause-in_range
    : goal.answer_line-requires-in-Some-read_packet-clause-in_range
answer_line-requires-in-Some-read_packet-clause-in_range g c =
    (c.in-Some-read_packet.ensures.spelled c.args.engine.now.live.version).in_range

pub answer_line-requires-in-Some-read_packet-clause-fields
    : goal.answer_line-requires-in-Some-read_packet-clause-fields
answer_line-requires-in-Some-read_packet-clause-fields g c =
    (c.in-Some-read_packet.ensures.spelled c.args.engine.now.live.version).line.fields

pub returns-in-Some-read_packet-clause-says : goal.returns-in-Some-read_packet-clause-says
returns-in-Some-read_packet-clause-says g c =
    answered _ c.args.engine.now c.answer_line-in-Some-read_packet.new.engine c.args.first c.args.bytes.now
    (Send c.in-Some-read_packet.packet.0 c.in-Some-read_packet.packet.1) c.answer_line-in-Some-read_packet.result
    (read_ok c.args.engine.now.live.version c.args.bytes.now
    (Send c.in-Some-read_packet.packet.0 c.in-Some-read_packet.packet.1)
    (c.in-Some-read_packet.ensures.reads c.args.engine.now.live.version))
    c.answer_line-in-Some-read_packet.ensures.says
