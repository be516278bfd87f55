use Rattle.std.proofs.Common.{◌≡◌, ◌≤◌, ◌∙◌, ℕ, List, length, replicate, sym, ap, subst, arith}
use Rattle.std.proofs.lemmas.List.{take-replicate, length-replicate}
use Rattle.share_base.specs.Body.{BodyView}
use Rattle.share_base.proofs.BodyLemmas.{room_alone, zeros_alone}
use Rattle.share_base.proofs.parcel.Body.as_slice.Goals as goal

pub returns-then-self-gt0-clause-value : goal.returns-then-self-gt0-clause-value
returns-then-self-gt0-clause-value c =
    let many = c.self.inside.zeros in
    let bytes = c.self.inside.bytes.items in
    let alone = room_alone many (length bytes) (omega (arith, c.if-self-gt0.true)) c.self.invariant.3 in
    take-replicate many 9000 0 (omega (arith, alone, c.self.invariant.2))
    ∙ sym (zeros_alone many bytes alone)
    ∙ ap (λ (body : BodyView). body.payload) c.self.view_is

pub returns-then-self-gt0-clause-few : goal.returns-then-self-gt0-clause-few
returns-then-self-gt0-clause-few c =
    let many = c.self.inside.zeros in
    let bytes = c.self.inside.bytes.items in
    let alone = room_alone many (length bytes) (omega (arith, c.if-self-gt0.true)) c.self.invariant.3 in
    let size : length (replicate many 0) ≡ many = length-replicate {A = ℕ} many 0 in
    let seen : replicate many 0 ≡ c.args.self.now.payload =
    sym (zeros_alone many bytes alone) ∙ ap (λ (body : BodyView). body.payload) c.self.view_is in
    subst (λ (bs : List ℕ). length bs ≤ 9000) seen (omega (arith, size, alone, c.self.invariant.2))
