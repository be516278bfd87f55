use Rattle.std.proofs.Common.{sym, ◌∙◌}
use Rattle.share_journal.proofs.RunLemmas.{run-new, same_version}
use Rattle.share_journal.proofs.recorder.Recorder.new.Goals as goal

pub invariant_of-result : goal.invariant_of-result
invariant_of-result g c = (
  sym c.life-else-len-ne0.ensures ∙ (sym c.if-life.false ∙ c.life.ensures),
  sym c.version-2.ensures
      ∙ (sym (same_version _ _ (sym c.is_same_version.ensures ∙ c.if-not-is_same_version.false)) ∙ c.version.ensures),
  run-new _ _ _ _ _ c.events.ensures.range c.requires.nothing
      (c.events.ensures.sound.fresh (sym c.events.ensures.events ∙ c.if-events-ne0.false))
      (sym c.len.ensures.count ∙ c.if-len-ne0.false),
)
