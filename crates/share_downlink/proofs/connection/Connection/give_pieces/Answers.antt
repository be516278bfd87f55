use Rattle.std.proofs.Common.{arith, refl, ◌∙◌, rules}
use Rattle.share_downlink.proofs.GivenLemmas.{passes_come, passes_cut, passes_nothing, passes_same}
use Rattle.share_downlink.proofs.connection.Connection.give_pieces.Goals as goal

pub pieces-init : goal.pieces-init
pieces-init g c = record {
  given = passes_nothing g.D.Deliver.delivers _ _ _;
  over = refl;
  ready =
      λ some. absurd (omega arith);
}

pub returns-in-Some-clause-given : goal.returns-in-Some-clause-given
returns-in-Some-clause-given g c =
    passes_cut g.D.Deliver.delivers _ _ _ _ _ _ _ _ _ c.pieces.invariant.given c.give_all.ensures.given

pub returns-in_err-read-clause-given : goal.returns-in_err-read-clause-given
returns-in_err-read-clause-given g c =
    passes_same g.D.Deliver.delivers _ _ _ _ _ _ _
    (passes_cut g.D.Deliver.delivers _ _ _ _ _ _ _ _ _ c.pieces.invariant.given c.give_all.ensures.given)
    c.in_err-read.ensures.came.0

pub returns-then-not-branch-clause-given : goal.returns-then-not-branch-clause-given
returns-then-not-branch-clause-given g c =
    passes_come g.D.Deliver.delivers _ _ _ _ _ _ _
    (passes_cut g.D.Deliver.delivers _ _ _ _ _ _ _ _ _ c.pieces.invariant.given c.give_all.ensures.given)
    c.in_ok-read.ensures.came

pub pieces-preserved : goal.pieces-preserved
pieces-preserved g c = record {
  given =
      passes_come g.D.Deliver.delivers _ _ _ _ _ _ _
      (passes_cut g.D.Deliver.delivers _ _ _ _ _ _ _ _ _ c.pieces.invariant.given c.give_all.ensures.given)
      c.in_ok-read.ensures.came;
  over = c.read.ensures.over ∙ c.pieces.invariant.over;
  ready = λ some. search rules;
}
