use Rattle.std.proofs.Common.{rules, ◌<◌, length}
use Rattle.share_runs.proofs.StrictLemmas.{passes_answer, passes_refusal, passes_nothing}
use Rattle.share_runs.proofs.strict.StrictWriterTellingWriter.offer.Goals as goal

pub returns-then-not-is_refusal : goal.returns-then-not-is_refusal
returns-then-not-is_refusal g c =
    let few : c.line_length-size.result < length c.args.piece.now = search rules in
    passes_answer c.line_length-size.result few (c.line_length-size.ensures.feed few) c.line_length-size.ensures.plain
    (search rules) c.pass-then-not-is_refusal.ensures.offered c.pass-then-not-is_refusal.ensures.line
    c.pass-then-not-is_refusal.ensures.mark

pub returns-then-size-gt0 : goal.returns-then-size-gt0
returns-then-size-gt0 g c =
    let few : c.line_length-size.result < length c.args.piece.now = search rules in
    passes_refusal c.line_length-size.result few (search rules) (c.line_length-size.ensures.feed few)
    c.line_length-size.ensures.plain (search rules) c.pass-then-size-gt0.ensures.offered
    c.pass-then-size-gt0.ensures.line c.pass-then-size-gt0.ensures.mark

pub returns : goal.returns
returns g c =
    let few : c.line_length-size.result < length c.args.piece.now = search rules in
    passes_nothing c.line_length-size.result (search rules) (c.line_length-size.ensures.feed few) (search rules)
