use Rattle.std.proofs.Common.{◌∙◌, sym, refl, subst, List}
use Rattle.std.proofs.lemmas.Result.{err_from_is_err_and}
use Rattle.share_base.specs.declared.version.Version.TheVariants.{Two}
use Rattle.share_model.specs.link.Live.{Live, empty_link}
use Rattle.share_gateway.specs.declared.openings.PlanCommand.{PlanCommand}
use Rattle.share_gateway.proofs.OpenedLemmas.{GoesOn, goes-start, made-goes_on, unmade-is_not, done-is_opened}
use Rattle.share_gateway.proofs.opened.make_all.Goals as goal

pub loop-command-init : goal.loop-command-init
loop-command-init g c =
    let rates = c.args.engine.now.rates in
    let p = c.args.plan.now in
    let life = c.args.engine.now.life in (
      refl,
      refl,
      subst (λ (l : Live). GoesOn rates p life l c.opening-commands.result) (sym c.requires.new)
          (subst (λ (cs : List PlanCommand). GoesOn rates p life (empty_link Two) cs) (sym c.opening-commands.ensures)
          (goes-start rates p life c.tenants.ensures.limits)),
    )

pub loop-command-preserved : goal.loop-command-preserved
loop-command-preserved g c =
    let was = c.loop-command.invariant in
    let made = c.in_ok-make.ensures.ok in (
      made.rest.life ∙ was.0,
      made.rest.rates ∙ was.1,
      made-goes_on c.args.engine.now.rates c.args.plan.now c.args.engine.now.life c.loop-command.engine
          c.make.new.engine
          c.loop-command.commands was.1 was.2 c.requires.lasts c.in-Some.command c.next.new.self c.in-Some.ensures made,
    )

pub returns-in_err-make-clause-not : goal.returns-in_err-make-clause-not
returns-in_err-make-clause-not g c =
    let was = c.loop-command.invariant in
    let p = err_from_is_err_and c.from_residual.result c.from_residual.ensures.1 in
    rw (p.1, p.2) (unmade-is_not c.args.engine.now.rates c.args.plan.now c.args.engine.now.life c.loop-command.engine
    c.loop-command.engine c.loop-command.commands was.1 was.2 c.requires.lasts c.in-Some.command c.next.new.self
    c.in-Some.ensures c.in_err-make.field-0.0 c.in_err-make.ensures.not)

pub returns-clause-ok : goal.returns-clause-ok
returns-clause-ok g c =
    let was = c.loop-command.invariant in
    done-is_opened c.args.engine.now.rates c.args.plan.now c.args.engine.now.life c.loop-command.engine
    c.loop-command.engine
    c.loop-command.commands was.1 was.2 c.requires.lasts was.0 c.in_default.ensures c.events.ensures.range
