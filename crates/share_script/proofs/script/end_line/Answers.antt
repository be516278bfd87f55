use Rattle.std.proofs.Common.{◌≡◌, ◌++◌, ◌∙◌, ap, take}
use Rattle.std.proofs.lemmas.Result.{err_from_is_err_and}
use Rattle.share_model.specs.text.Lines.{reading}
use Rattle.share_script.proofs.FeedLemmas.{printed_same, part_same}
use Rattle.share_script.proofs.LineLemmas.{reading_cut}
use Rattle.share_script.proofs.script.end_line.Goals as goal

pub returns-in_err-answer_and_print-clause-printed : goal.returns-in_err-answer_and_print-clause-printed
returns-in_err-answer_and_print-clause-printed g c =
    let p = err_from_is_err_and c.from_residual.result c.from_residual.ensures.1 in
    let line : c.as_slice.result.now ≡ take 20481 (c.args.pending.now.carry ++ c.args.piece.now) = c.as_slice.ensures
    ∙ c.add.ensures in
    rw p.1 (part_same _ _ _ _ c.args.session.now c.as_slice.result.now (c.args.pending.now.carry ++ c.args.piece.now)
    (λ version. ap (reading version) line ∙ reading_cut (c.args.pending.now.carry ++ c.args.piece.now) version)
    c.in_err-answer_and_print.ensures.printed)

pub returns-clause-printed : goal.returns-clause-printed
returns-clause-printed g c =
    let line : c.as_slice.result.now ≡ take 20481 (c.args.pending.now.carry ++ c.args.piece.now) = c.as_slice.ensures
    ∙ c.add.ensures in
    printed_same _ _ _ _ _ c.args.session.now c.as_slice.result.now (c.args.pending.now.carry ++ c.args.piece.now) _
    (λ version. ap (reading version) line ∙ reading_cut (c.args.pending.now.carry ++ c.args.piece.now) version)
    c.in_ok-answer_and_print.ensures.printed
