use Rattle.std.proofs.Common.{◌≡◌, ◌<◌, ◌∙◌, ◌+◌, ◌-◌, ◌++◌, ◌&&◌, ℕ, List, [], ◌∷◌, suc, length, take, replicate}
use Rattle.std.proofs.Common.{set, get_or, ap, sym, arith}
use Rattle.std.proofs.lemmas.List.{append_assoc, length-take-le}
use Rattle.std.proofs.lemmas.List.Folds.{list_all_more}
use Rattle.std.proofs.Math.Seq.{take-suc, set-append_seam}
use Rattle.share_base.specs.Name.{is_name_byte}
use Rattle.share_base.proofs.naming.copy_of.Goals as goal

-- the next byte replaces the first zero after those before it
copied_on : (bytes copy : List ℕ) (n zeros : ℕ) → n < length bytes → 16 - n ≡ suc zeros
    → copy ≡ take n bytes ++ replicate (16 - n) 0
    → set copy n (get_or bytes n 0) ≡ take (suc n) bytes ++ replicate zeros 0
copied_on bytes copy n zeros inside room is =
    let before = length-take-le n bytes (omega (arith, inside)) in
    let byte = get_or bytes n 0 in
    ap (λ (bs : List ℕ). set bs n byte) (is ∙ ap (λ k. take n bytes ++ replicate k 0) room)
    ∙ ap (λ k. set (take n bytes ++ 0 ∷ replicate zeros 0) k byte) (sym before)
    ∙ set-append_seam (take n bytes) 0 (replicate zeros 0) byte
    ∙ sym (append_assoc (take n bytes) (byte ∷ []) (replicate zeros 0))
    ∙ ap (λ bs. bs ++ replicate zeros 0) (sym (take-suc bytes n 0 inside))

-- one more byte is copied, and may be in a name
pub loop-place-preserved : goal.loop-place-preserved
loop-place-preserved c =
    let n = c.loop-place.place in
    let bytes = c.args.bytes.now in
    let inside = c.loop-place-test.true in
    let zeros = 16 - (n + 1) in
    let room : 16 - n ≡ suc zeros = omega (arith, inside, c.requires) in
    let more : n + 1 ≡ suc n = omega arith in (
      copied_on bytes c.loop-place.copy n zeros inside room c.loop-place.invariant.0
          ∙ ap (λ k. take k bytes ++ replicate zeros 0) (sym more),
      list_all_more is_name_byte bytes n 0 inside
          ∙ ap (λ good. good && is_name_byte (get_or bytes n 0)) c.loop-place.invariant.1
          ∙ sym c.is_name_byte.ensures
          ∙ c.if-not-is_name_byte.false,
    )
