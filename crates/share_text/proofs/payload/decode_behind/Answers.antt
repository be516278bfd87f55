use Rattle.std.proofs.Common.{◌≡◌, ◌≤◌, ◌+◌, ◌-◌, ◌++◌, ◌∙◌, ℕ, List, [], length, take, drop, None, Some, MatchOption}
use Rattle.std.proofs.Common.{ap, sym, subst, arith}
use Rattle.std.proofs.lemmas.List.{length-take-le, length-drop, drop_all, append-nil}
use Rattle.std.proofs.Math.Seq.{drop-append_seam}
use Rattle.share_model.specs.text.Lines.{payload_of}
use Rattle.share_text.proofs.payload.decode_behind.Goals as goal

-- the bytes that are written after the first ones, up to the end, are those after them
behind : (bytes written : List ℕ) → 17 ≤ length bytes
    → drop 17 (take 17 bytes ++ (written ++ drop (length bytes - 17) (drop 17 bytes))) ≡ written
behind bytes written room =
    let rest = drop (length bytes - 17) (drop 17 bytes) in
    let none : rest ≡ [] = drop_all (length bytes - 17) (drop 17 bytes) (rw (length-drop 17 bytes) (omega arith)) in
    ap (λ n. drop n (take 17 bytes ++ (written ++ rest))) (sym (length-take-le 17 bytes room))
    ∙ drop-append_seam (take 17 bytes) (written ++ rest)
    ∙ ap (λ bs. written ++ bs) none
    ∙ append-nil written

pub returns-clause-payload : goal.returns-clause-payload
returns-clause-payload c =
    let bytes = c.args.bytes.now in
    subst (λ (bs : List ℕ). MatchOption c.decode.result (payload_of c.args.word.now ≡ None)
    (λ count. payload_of c.args.word.now ≡ Some (take count bs)))
    (sym (behind bytes c.decode.new.bytes (omega (arith, c.requires)))) c.decode.ensures.payload
