use Rattle.std.proofs.Common.{◌≡◌, ◌++◌, true, length, take, List, ℕ, is_ok, rules, ap, ◌∙◌}
use Rattle.share_script.proofs.AnswerLemmas.{added}
use Rattle.share_script.proofs.carry.Carry.add.Goals as goal

pub returns : goal.returns
returns c =
    let ok : is_ok c.extend_from_slice.result ≡ true = search rules in
    let n : c.len-room.result ≡ length c.self.inside.bytes.items = search rules in
    let items = rw ok at c.extend_from_slice.ensures.items in
    let kept = rw n at c.first_bytes.ensures in
    items ∙ ap (λ (r : List ℕ). c.self.inside.bytes.items ++ r) kept
    ∙ added c.self.inside.bytes.items c.args.piece.now c.self.invariant.1
    ∙ ap (λ (r : List ℕ). take 20481 (r ++ c.args.piece.now)) c.self.view_is
