use Rattle.std.proofs.Common.{◌∙◌, map, sym}
use Rattle.share_reload.specs.Rosters.{clashes, numbered}
use Rattle.share_reload.proofs.ListLemmas.{found_in_front, found_behind}
use Rattle.share_reload.proofs.roster.clashing.Goals as goal

pub returns-in-Some : goal.returns-in-Some
returns-in-Some c =
    sym (found_in_front (clashes c.args.tenant.now) c.args.known.now (map numbered c.args.before.now)
    c.in-Some.other.now (sym c.in-Some.ensures))

pub returns-in-None : goal.returns-in-None
returns-in-None c =
    c.clashing_before.ensures
    ∙ sym (found_behind (clashes c.args.tenant.now) c.args.known.now (map numbered c.args.before.now)
    (sym c.in-None.ensures))
