use Rattle.std.proofs.Common.{◌≡◌, ℕ, List, [], ◌∷◌, ◌++◌, map, map-id, chars, ap, sym, ◌∙◌, arith, rules}
use Rattle.std.specs.Prelude.{encode_utf8, encode_utf8_all}
use Rattle.std.proofs.lemmas.Grind.{common_steps, put_two}
use Rattle.std.proofs.lemmas.Iterator.{YieldsList-from_chars}
use Rattle.std.proofs.lemmas.Iterator.Consumers.{YieldsList-end}
use Rattle.std.proofs.Output.{has_written_of_eq}
use Rattle.std.proofs.lemmas.Str.{encodes-append}
use Rattle.share_messages.specs.Lines.{shown_char, shown_text}
use Rattle.share_messages.proofs.line.write_shown.Goals as goal

-- one more character
one_more : (cs : List ℕ) (c : ℕ)
    → encode_utf8_all (map shown_char cs) ++ encode_utf8 (shown_char c)
    ≡ encode_utf8_all (map shown_char (cs ++ c ∷ []))
one_more cs c = grind (arith, common_steps, encodes-append)

pub chars-preserved : goal.chars-preserved
chars-preserved g c =
    λ plain.
    let before = c.chars.invariant plain in
    put_two _ _ _ _ _ _ _ before (c.write_char.ensures.writes before.plain (search rules))
    (rw c.shown.ensures (one_more _ _))

pub returns : goal.returns
unfolding shown_text
returns g c =
    λ plain _.
    let all = YieldsList-from_chars c.args.text.now c.utf8.text (cc) in
    let end = YieldsList-end all c.chars.yielded _ c.chars.yielded_by _ _ c.in-None.is c.next.ensures.steps in
    let text : c.chars.yielded ≡ chars c.args.text.now = sym (map-id c.chars.yielded) ∙ end.0 in
    has_written_of_eq _ _ _ _ _ (ap (λ cs. encode_utf8_all (map shown_char cs)) text) (c.chars.invariant plain)
