use Rattle.std.proofs.Common.{◌∙◌, ap, sym, arith}
use Rattle.share_model.specs.link.Commands.{waiting_of}
use Rattle.share_model.specs.link.View.{LinkView}
use Rattle.share_model.proofs.lemmas.stride.LevellingLemmas.{is_there-level_one}
use Rattle.share_model.proofs.lemmas.run.SoundClosingLemmas.{sound-close_flow}
use Rattle.share_core.proofs.ArrivalLemmas.{stands-joined, stands-buffered, stands-booked}
use Rattle.share_core.proofs.ClosingLemmas.{closable, levelled-idle, can-close, past_few}
use Rattle.share_core.proofs.LifeLemmas.{living}
use Rattle.share_core.proofs.link.Link.close.Goals as goal

pub level-requires-clause-there : goal.level-requires-clause-there
level-requires-clause-there g c =
    stands-joined c.self.invariant.1 c.args.flow (closable _ _ _ c.self.view_is c.requires.may).stands

pub remove-requires-clause-there : goal.remove-requires-clause-there
remove-requires-clause-there g c =
    let there = stands-joined c.self.invariant.1 c.args.flow (closable _ _ _ c.self.view_is c.requires.may).stands in
    rw (c.level.ensures) (is_there-level_one c.self.inside.queue c.args.flow 0 c.args.flow there ∙ there)

pub remove-requires-clause-idle : goal.remove-requires-clause-idle
remove-requires-clause-idle g c = rw (c.level.ensures) (levelled-idle c.self.inside.queue c.args.flow)

pub close-requires : goal.close-requires
close-requires g c =
    stands-buffered c.self.invariant.1 c.args.flow (closable _ _ _ c.self.view_is c.requires.may).stands

pub close-requires-2 : goal.close-requires-2
close-requires-2 g c =
    stands-booked c.self.invariant.1 c.args.flow (closable _ _ _ c.self.view_is c.requires.may).stands

pub overflow_add-self-3 : goal.overflow_add-self-3
overflow_add-self-3 g c =
    omega (arith, c.account-account.ensures, past_few c.self.invariant.1 c.self.invariant.0.0 c.args.flow)

pub level_from_scratch-requires : goal.level_from_scratch-requires
level_from_scratch-requires g c =
    rw (c.remove.ensures, c.level.ensures, c.remove_flow.ensures)
    (can-close c.self.invariant.1 c.args.flow (closable _ _ _ c.self.view_is c.requires.may).stands)

pub invariant_of-self : goal.invariant_of-self
invariant_of-self g c =
    let sound = c.self.invariant.1 in
    let may = closable _ _ _ c.self.view_is c.requires.may in
    let dropped = c.waiting_of-dropped.ensures
    ∙ ap (λ (k : LinkView (Unit {0})). waiting_of k.live c.args.flow) (sym c.self.view_is) in (
      (c.self.invariant.0.0, c.level_from_scratch.ensures.levelled_with),
      rw (
        c.level_from_scratch.ensures.queue,
        c.remove.ensures,
        c.level.ensures,
        c.remove_flow.ensures,
        c.close.ensures.after,
        c.close-2.ensures,
        c.without_torn-self-inside.ensures,
        c.from.ensures,
        dropped,
        c.account-account.ensures,
      )
          (sound-close_flow sound (living _ _ c.self.view_is c.requires.living sound) c.args.flow may),
    )
