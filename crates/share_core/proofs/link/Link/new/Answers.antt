use Rattle.std.proofs.Common.{◌≡◌, None, arith, refl}
use Rattle.std.proofs.lemmas.Bool.Decides.{nat_tests}
use Rattle.share_model.proofs.lemmas.run.SoundCommandLemmas.{sound-empty}
use Rattle.share_core.specs.Life.{life_refusal}
use Rattle.share_core.proofs.NoMemoryLemmas.{refused-memory}
use Rattle.share_core.proofs.link.Link.new.Goals as goal

pub invariant_of-result : goal.invariant_of-result
invariant_of-result g c = (
  (omega arith, rw (c.in_ok-ledger.ensures.made) refl),
  rw (
    c.in_ok-ledger.ensures.made,
    c.in_ok-queue.ensures.ok,
    c.in_ok-buffers.ensures.ok,
    c.in_ok-books.ensures,
  )
      (sound-empty _ _ _),
)

pub returns-in_err-books-clause-refused : goal.returns-in_err-books-clause-refused
returns-in_err-books-clause-refused g c =
    let allowed : life_refusal c.args.life ≡ None =
    grind (arith, nat_tests, c.if-life-lt1.false, c.if-life-gt-MAX_LIFE.false) in
    refused-memory _ (life_refusal c.args.life) allowed c.from_residual.ensures
