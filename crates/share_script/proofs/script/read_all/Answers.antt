use Rattle.std.proofs.lemmas.Result.{err_from_is_err_and}
use Rattle.std.proofs.Common.{◌≡◌, ◌^◌, ℕ, arith, subst}
use Rattle.share_model.specs.io.Calls.{Reads, no_reads, one_read, read_failed, too_many_reads, reading}
use Rattle.share_script.proofs.RunLemmas.{running_none, running_more, running_kept, running_part}
use Rattle.share_script.proofs.RunLemmas.{running_broke, running_whole}
use Rattle.share_script.proofs.StopLemmas.{wrote_none, wrote_more, stopped, stopped_as}
use Rattle.share_script.specs.declared.script.ScriptFault.TheVariants.{Input, Output, NoMemory}
use Rattle.share_script.proofs.script.read_all.Goals as goal
use Rattle.share_script.proofs.script.read_all.Goals.{in-Bytes+in_ok-answer_chunk-in-Bytes, in-Interrupted}

pub loop-reads-init : goal.loop-reads-init
loop-reads-init g c = (running_none _ _ _ _ _ c.requires.none, no_reads, wrote_none _ _ _ _, c.requires.nothing)

pub returns-in_err-answer_chunk-in-Bytes-clause-fed : goal.returns-in_err-answer_chunk-in-Bytes-clause-fed
returns-in_err-answer_chunk-in-Bytes-clause-fed g c =
    let given = g.met.I.TellingReader.tells _ _ _ _ c.in-Bytes.ensures in
    let p = err_from_is_err_and c.from_residual.result c.from_residual.ensures.1 in
    rw p.1 (running_broke _ _ _ _ _ _ _ c.args.session.now _ _ _ c.loop-reads.invariant.0 given.2
    c.in_err-answer_chunk-in-Bytes.ensures.fed)

pub returns-in_err-answer_chunk-in-Bytes-clause-input : goal.returns-in_err-answer_chunk-in-Bytes-clause-input
returns-in_err-answer_chunk-in-Bytes-clause-input g c is =
    stopped_as _ _ _ _ _ _ _ _ _ _ _ Input is c.from_residual.ensures.1
    (stopped _ _ _ _ _ _ _ _ _ _ _ _ _
    (reading _ (omega arith) (one_read _ _ _ _ _ c.loop-reads.invariant.1 c.in-Bytes.ensures tt))
    c.loop-reads.invariant.2 c.in_err-answer_chunk-in-Bytes.ensures.calls)

pub returns-in_err-answer_chunk-in-Bytes-clause-output : goal.returns-in_err-answer_chunk-in-Bytes-clause-output
returns-in_err-answer_chunk-in-Bytes-clause-output g c is =
    stopped_as _ _ _ _ _ _ _ _ _ _ _ Output is c.from_residual.ensures.1
    (stopped _ _ _ _ _ _ _ _ _ _ _ _ _
    (reading _ (omega arith) (one_read _ _ _ _ _ c.loop-reads.invariant.1 c.in-Bytes.ensures tt))
    c.loop-reads.invariant.2 c.in_err-answer_chunk-in-Bytes.ensures.calls)

pub returns-in_err-answer_chunk-in-Bytes-clause-memory : goal.returns-in_err-answer_chunk-in-Bytes-clause-memory
returns-in_err-answer_chunk-in-Bytes-clause-memory g c is =
    stopped_as _ _ _ _ _ _ _ _ _ _ _ NoMemory is c.from_residual.ensures.1
    (stopped _ _ _ _ _ _ _ _ _ _ _ _ _
    (reading _ (omega arith) (one_read _ _ _ _ _ c.loop-reads.invariant.1 c.in-Bytes.ensures tt))
    c.loop-reads.invariant.2 c.in_err-answer_chunk-in-Bytes.ensures.calls)

pub returns-in-Failed-clause-fed : goal.returns-in-Failed-clause-fed
returns-in-Failed-clause-fed g c =
    let given = g.met.I.TellingReader.tells _ _ _ _ c.in-Failed.ensures in
    running_part _ _ _ _ _ c.args.session.now _ _
    (running_kept _ _ _ _ _ _ c.args.session.now _ _ c.loop-reads.invariant.0 given)

pub returns-in-End-clause-fed : goal.returns-in-End-clause-fed
returns-in-End-clause-fed g c =
    let given = g.met.I.TellingReader.tells _ _ _ _ c.in-End.ensures in
    running_whole _ _ _ _ _ _ c.args.session.now _ _ c.loop-reads.invariant.0 given

pub returns-in-Failed-clause-input : goal.returns-in-Failed-clause-input
returns-in-Failed-clause-input g c is =
    (read_failed _ _ _ c.loop-reads.invariant.1 (omega arith) c.in-Failed.ensures, c.loop-reads.invariant.2.offers)

pub returns-clause-fed : goal.returns-clause-fed
returns-clause-fed g c = running_part _ _ _ _ _ c.args.session.now _ _ c.loop-reads.invariant.0

pub returns-clause-input : goal.returns-clause-input
returns-clause-input g c is =
    let all : c.loop-reads.reads ≡ 2 ^ 32 = omega arith in
    let P : ℕ → Type 0 = λ n. Reads g.I.TellingReader.gives c.args.input.now n c.loop-reads.input in
    (too_many_reads (subst P all c.loop-reads.invariant.1), c.loop-reads.invariant.2.offers)

pub loop-reads-preserved : goal.loop-reads-preserved
loop-reads-preserved g c = elim c.match-take_bytes.branch [
  | in-Bytes+in_ok-answer_chunk-in-Bytes w ↦ rw (w.session-is, w.pending-is, w.output-is) (
      let given = g.met.I.TellingReader.tells _ _ _ _ w.in-Bytes.ensures in (
        running_more _ _ _ _ _ _ _ c.args.session.now _ _ _ _ _ c.loop-reads.invariant.0 given.2
            w.in_ok-answer_chunk-in-Bytes.ensures.fed,
        one_read _ _ _ _ _ c.loop-reads.invariant.1 w.in-Bytes.ensures tt,
        wrote_more c.loop-reads.invariant.2 w.in_ok-answer_chunk-in-Bytes.ensures.calls,
        w.in_ok-answer_chunk-in-Bytes.ensures.nothing,
      ))
  | in-Interrupted w ↦ rw (w.session-is, w.pending-is, w.output-is) (
      let given = g.met.I.TellingReader.tells _ _ _ _ w.in-Interrupted.ensures in (
        running_kept _ _ _ _ _ _ c.args.session.now _ _ c.loop-reads.invariant.0 given,
        one_read _ _ _ _ _ c.loop-reads.invariant.1 w.in-Interrupted.ensures tt,
        c.loop-reads.invariant.2,
        c.loop-reads.invariant.3,
      ))
]
