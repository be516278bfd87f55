-- The lengths of lines.
use Rattle.std.proofs.Common.{◌≡◌, ◌<◌, ◌≤◌, ◌+◌, ◌-◌, ◌^◌, ℕ, suc, ℤ, pos, negsuc, List, [], ◌∷◌}
use Rattle.std.proofs.Common.{◌++◌, length, arith, ◌∙◌, lit<, codes}
use Rattle.std.specs.Prelude.{decimal, unsigned_abs}
use Rattle.std.specs.List.{join_with_byte}
use Rattle.std.specs.Fmt.{signed_decimal}
use Rattle.std.proofs.lemmas.Fmt.{length-decimal-le_wide}
use Rattle.std.proofs.lemmas.List.{length-append, length-replicate}
use Rattle.share_model.specs.declared.link.FlowLine.{FlowLine}
use Rattle.share_report.specs.declared.text.Column.{Column}
use Rattle.share_report.specs.declared.text.Column.TheVariants.{Left, Right}
use Rattle.share_report.specs.Columns.{spaces, at_left, at_right, column_text, width_of}
use Rattle.share_model.specs.declared.link.Standing.{Standing}
use Rattle.share_model.specs.declared.link.Standing.TheVariants.{In, Out, Held}
use Rattle.share_model.specs.text.Report.{total_line, standing_word, flow_line}
use Rattle.share_report.specs.Widths.{FitsColumns}

pub length-column_text : (c : Column) (text : List ℕ) → length text ≤ width_of c → length (column_text c text)
    ≡ width_of c
unfolding at_left at_right
length-column_text (Left width) text fits =
    let both = length-append text (spaces (width - length text)) in
    let rest = length-replicate {A = ℕ} (width - length text) 32 in omega (arith, both, rest)
length-column_text (Right width) text fits =
    let both = length-append (spaces (width - length text)) text in
    let rest = length-replicate {A = ℕ} (width - length text) 32 in omega (arith, both, rest)

pub length-total_line : (key value : List ℕ) → length key ≤ 8 → length value ≤ 26
    → length (total_line (key, value)) ≡ 35
unfolding total_line
length-total_line key value short narrow =
    let first = length-column_text (Left 8) key short in
    let second = length-column_text (Right 26) value narrow in
    let both = length-append (column_text (Left 8) key) (column_text (Right 26) value) in
    let all = length-append (column_text (Left 8) key ++ column_text (Right 26) value) (codes "\n") in
    omega (arith, first, second, both, all)

standing_fits : (s : Standing) → length (standing_word s) ≤ 3
standing_fits In = omega arith
standing_fits Out = omega arith
standing_fits Held = omega arith

place_fits : (z : ℤ) → unsigned_abs z < 10 ^ 25 → length (signed_decimal z) ≤ 26
place_fits (pos n) small =
    let wide : n < 10 ^ 64 = omega (arith, small) in
    let short = length-decimal-le_wide 25 n (lit< tt) small wide in omega (arith, short)
place_fits (negsuc n) small =
    let wide : suc n < 10 ^ 64 = omega (arith, small) in
    let short = length-decimal-le_wide 25 (suc n) (lit< tt) small wide in omega (arith, short)

length-joined : (a b c d e f g : List ℕ)
    → length (join_with_byte 32 (codes "flow" ∷ a ∷ b ∷ c ∷ d ∷ e ∷ f ∷ g ∷ []) ++ codes "\n")
    ≡ 12 + length a + length b + length c + length d + length e + length f + length g
length-joined a b c d e f g = simp length-append (omega arith)

pub length-flow_line : (f : FlowLine) → FitsColumns f → length (flow_line f) ≡ 93
unfolding flow_line
length-flow_line f fits =
    let flow = length-column_text (Right 8) (decimal f.flow)
    (length-decimal-le_wide 8 f.flow (lit< tt) fits.flow (omega (arith, fits.flow))) in
    let name = length-column_text (Left 16) f.name fits.name in
    let tickets = length-column_text (Right 7) (decimal f.tickets)
    (length-decimal-le_wide 7 f.tickets (lit< tt) fits.tickets (omega (arith, fits.tickets))) in
    let waiting = length-column_text (Right 4) (decimal f.waiting)
    (length-decimal-le_wide 4 f.waiting (lit< tt) fits.waiting (omega (arith, fits.waiting))) in
    let account = length-column_text (Right 17) (decimal f.account)
    (length-decimal-le_wide 17 f.account (lit< tt) fits.account (omega (arith, fits.account))) in
    let standing = length-column_text (Left 3) (standing_word f.standing) (standing_fits f.standing) in
    let place = length-column_text (Right 26) (signed_decimal f.place) (place_fits f.place fits.place) in
    length-joined _ _ _ _ _ _ _
    ∙ omega (arith, flow, name, tickets, waiting, account, standing, place)
