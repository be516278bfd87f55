-- The spelling of a line is read as that line.
use Rattle.std.proofs.Common.{◌≡◌, ℕ, true, false, List, ◌∷◌, ◌++◌, Ok, Err, ◌∙◌, ap, cond}
use Rattle.std.specs.Prelude.{codes}
use Rattle.share_base.specs.declared.refusal.Refusal.TheVariants.{Range}
use Rattle.share_base.specs.declared.version.Version.{Version}
use Rattle.share_model.specs.declared.line.Line.{Line}
use Rattle.share_model.proofs.lemmas.text.LineFeedLemmas.{lines-written}
use Rattle.share_model.specs.text.Lines.{spelling_of, reading, is_in_range, IsLine}
use Rattle.share_model.proofs.lemmas.text.LineLemmas.{reading-line}
use Rattle.share_model.specs.text.Talk.{lines_of}

-- a line that is written is a line of its own
pub written-apart : (l : Line) (rest : List ℕ) → IsLine l
    → lines_of ((spelling_of l ++ codes "\n") ++ rest) ≡ spelling_of l ∷ lines_of rest
written-apart l rest line = lines-written l rest line.fields

-- and is read as what was written, if it is in range
pub read-written : (version : Version) (l : Line) → IsLine l → is_in_range version l ≡ true
    → reading version (spelling_of l) ≡ Ok l
read-written version l line r = reading-line version l line ∙ ap (λ b. cond b (Ok l) (Err Range)) r

pub refused-written : (version : Version) (l : Line) → IsLine l → is_in_range version l ≡ false
    → reading version (spelling_of l) ≡ Err Range
refused-written version l line r = reading-line version l line ∙ ap (λ b. cond b (Ok l) (Err Range)) r
