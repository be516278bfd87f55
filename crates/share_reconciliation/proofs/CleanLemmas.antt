-- The lines of a text have no line feed.
use Rattle.std.specs.Prelude.{◌≡◌, ℕ, Bool, true, false, List, [], ◌∷◌, ◌++◌, codes, decimal, if◌then◌else◌}
use Rattle.std.specs.List.{slice_split, onto_first, AllByRecursion}
use Rattle.std.proofs.Common.{refl, subst}
use Rattle.std.proofs.Math.Seq.{drop-append_seam}
use Rattle.std.proofs.lemmas.List.Elements.{All-from_recursion, All-append, All-drop}
use Rattle.share_base.specs.declared.command.Command.TheVariants.{CloseFlow}
use Rattle.share_model.specs.declared.line.Line.{Line}
use Rattle.share_model.specs.declared.line.Line.TheVariants.{Change, Turn}
use Rattle.share_model.specs.lists.Each.{Each}
use Rattle.share_model.specs.text.Audit.{written_line}
use Rattle.share_model.specs.text.Lines.{HasFields, IsName, IsNumber, spelling_of}
use Rattle.share_model.specs.text.Talk.{is_feed, last_line, lines_of, without_empty_end}
use Rattle.share_model.proofs.lemmas.text.LineFeedLemmas.{lines-written}
use Rattle.share_script.specs.Script.{NoFeed}

-- ---- The lines of any bytes

abbrev NoFeeds : List ℕ → Type 0
NoFeeds w = AllByRecursion (λ b. is_feed b ≡ false) w

onto_clean : (b : ℕ) → is_feed b ≡ false → (ws : List (List ℕ)) → Each NoFeeds ws → Each NoFeeds (onto_first b ws)
onto_clean b other [] clean = ((other, tt), tt)
onto_clean b other (w ∷ ws) clean = ((other, clean.0), clean.1)

cut_clean : (b : ℕ) (ws : List (List ℕ)) → Each NoFeeds ws → (test : Bool) → is_feed b ≡ test
    → Each NoFeeds (if test then [] ∷ ws else onto_first b ws)
cut_clean b ws clean true feed = (tt, clean)
cut_clean b ws clean false other = onto_clean b other ws clean

split_clean : (bs : List ℕ) → Each NoFeeds (slice_split is_feed bs)
split_clean [] = (tt, tt)
split_clean (b ∷ bs) = cut_clean b (slice_split is_feed bs) (split_clean bs) (is_feed b) refl

end_clean : (w : List ℕ) → NoFeeds w → Each NoFeeds (last_line w)
end_clean [] clean = tt
end_clean (b ∷ bs) clean = (clean, tt)

whole_clean : (ws : List (List ℕ)) → Each NoFeeds ws → Each NoFeeds (without_empty_end ws)
whole_clean [] clean = tt
whole_clean (w ∷ []) clean = end_clean w clean.0
whole_clean (w ∷ v ∷ ws) clean = (clean.0, whole_clean (v ∷ ws) clean.1)

lines_clean : (bs : List ℕ) → Each NoFeeds (lines_of bs)
lines_clean bs = whole_clean (slice_split is_feed bs) (split_clean bs)

-- ---- Lines that are spelled

pub spelled-clean : (l : Line) → HasFields l → NoFeed (spelling_of l)
spelled-clean l fields =
    let all = subst (Each NoFeeds) (lines-written l [] fields) (lines_clean (written_line l ++ [])) in
    All-from_recursion (λ b. is_feed b ≡ false) (spelling_of l) all.0

-- the end of a clean text is clean
clean_end : (front rest : List ℕ) → NoFeed (front ++ rest) → NoFeed rest
clean_end front rest clean =
    subst NoFeed (drop-append_seam front rest) (All-drop (λ b. is_feed b ≡ false) _ (front ++ rest) clean)

name_clean : (name : List ℕ) → IsName name → NoFeed name
name_clean name is = clean_end (codes "close ") name (spelled-clean (Change (CloseFlow name)) is)

number_clean : (n : ℕ) → IsNumber n → NoFeed (decimal n)
number_clean n is = clean_end (codes "turn ") (decimal n) (spelled-clean (Turn n) is)

-- the line of a packet whose length is named
pub packet-clean : (name : List ℕ) (n : ℕ) → IsName name → IsNumber n
    → NoFeed (codes "send " ++ (name ++ 32 ∷ decimal n))
packet-clean name n is_name is_number =
    All-append (λ b. is_feed b ≡ false) (codes "send ") (name ++ 32 ∷ decimal n)
    (All-from_recursion (λ b. is_feed b ≡ false) (codes "send ") (refl, (refl, (refl, (refl, (refl, tt))))))
    (All-append (λ b. is_feed b ≡ false) name (32 ∷ decimal n) (name_clean name is_name)
    (All-append (λ b. is_feed b ≡ false) (32 ∷ []) (decimal n)
    (All-from_recursion (λ b. is_feed b ≡ false) (32 ∷ []) (refl, tt)) (number_clean n is_number)))
