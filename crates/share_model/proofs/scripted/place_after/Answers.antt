use Rattle.std.proofs.Common.{sym}
use Rattle.std.proofs.Math.Seq.{drop-drop}
use Rattle.share_model.proofs.scripted.place_after.Goals as goal

pub returns-then-at-script : goal.returns-then-at-script
returns-then-at-script g c = sym (drop-drop 1 c.args.at c.args.script.now)
