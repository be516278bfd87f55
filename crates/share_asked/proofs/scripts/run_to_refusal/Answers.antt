use Rattle.std.proofs.Common.{◌≡◌, false, inr, refl, rules}
use Rattle.share_asked.proofs.scripts.run_to_refusal.Goals as goal

pub returns : goal.returns
returns g c =
    let refused : c.in_ok-run_strictly.field-0 ≡ false = search rules in
    inr (refl, c.in_ok-run_strictly.ensures.read refused, c.in_ok-run_strictly.ensures.stops refused)
