use Rattle.std.proofs.Common.{◌≡◌, []}
use Rattle.share_model.specs.io.Calls.{Reads}
use Rattle.share_model.specs.io.Printing.{bytes_told}
use Rattle.share_script.specs.Script.{Running, Wrote}
use Rattle.share_script.proofs.script.read_all.Given as goal

abbrev pub invariant-loop-reads : goal.invariant-loop-reads
invariant-loop-reads g l =
    Running g.W.TellingWriter.told (g.I.TellingReader.left l.initial.input) (g.I.TellingReader.left l.input)
    (bytes_told (g.O.TellingWriter.told l.initial.output)) (bytes_told (g.O.TellingWriter.told l.output))
    l.initial.session
    l.session l.pending.carry
    × Reads g.I.TellingReader.gives l.initial.input l.reads l.input
    × Wrote g.W.TellingWriter.answers g.O.TellingWriter.answers l.initial.session.link.writer l.session.link.writer
    l.initial.output l.output
    × (l.pending.spool ≡ [])
