use Rattle.std.proofs.Common.{◌≡◌, ◌∙◌, sym, refl, rules}
use Rattle.share_ingress.specs.Gathers.{RefusesToGather}
use Rattle.share_locked.proofs.SettlingLemmas.{agreed_of, settled_of, unsettles_of}
use Rattle.share_locked.specs.Settles.{IsJoined}
use Rattle.share_locked.proofs.locked.settling.settle.Goals as goal

pub returns-in-Ok-clause-ok : goal.returns-in-Ok-clause-ok
returns-in-Ok-clause-ok g c =
    let joined : IsJoined c.args.locked c.args.ends.items c.in-Ok.settled.recorder c.in-Ok.settled.tallies.items
    c.in-Ok.settled.arrivals c.in-Ok.settled.commands =
    first_of (assumption (c.in-Ok.ensures.ok), search (rules, c.in-Ok.ensures.ok), grind rules) in
    settled_of c.args.locked c.args.ends.items c.args.clerks.items _ _ _ _
    (sym c.is_unsent.ensures ∙ c.if-is_unsent.false)
    (agreed_of c.args.locked c.args.clerks.items c.as_slice.result.now c.agrees.result c.if-not-agrees.false
    c.as_slice.ensures.value c.agrees.ensures) joined

pub returns-in-Err-clause-back : goal.returns-in-Err-clause-back
returns-in-Err-clause-back g c =
    let back : (c.in-Err.locked ≡ c.args.locked) × (c.in-Err.ends.items ≡ c.args.ends.items)
    × RefusesToGather c.in-Err.why c.args.locked.intake c.args.ends.items =
    first_of (assumption (c.in-Err.ensures.back), search (rules, c.in-Err.ensures.back), grind rules) in (
      back.0,
      back.1,
      refl,
      unsettles_of c.args.locked c.args.ends.items c.args.clerks.items c.in-Err.why c.why_of.result c.why_of.ensures
          (sym c.is_unsent.ensures ∙ c.if-is_unsent.false)
          (agreed_of c.args.locked c.args.clerks.items c.as_slice.result.now c.agrees.result c.if-not-agrees.false
          c.as_slice.ensures.value c.agrees.ensures)
          back.2,
    )
