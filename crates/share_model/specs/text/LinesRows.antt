-- Lines, checked against worked examples: each equation holds by computation alone.
use Rattle.std.specs.Prelude.{◌≡◌, ℕ, List, [], ◌∷◌, ◌++◌, map, replicate, Result, Ok, Err, codes, refl}
use Rattle.std.specs.Fmt.{digits}
use Rattle.share_base.specs.Body.{unstamped}
use Rattle.share_base.specs.declared.refusal.Refusal.{Refusal}
use Rattle.share_base.specs.declared.refusal.Refusal.TheVariants.{Syntax, Range}
use Rattle.share_base.specs.declared.command.Command.TheVariants.{MakeCurrency, RemoveCurrency, MakeTicket}
use Rattle.share_base.specs.declared.command.Command.TheVariants.{RemoveTicket, FundCurrency, FundFlow, Unfund}
use Rattle.share_base.specs.declared.command.Command.TheVariants.{OpenFlow, CloseFlow}
use Rattle.share_base.specs.declared.version.Version.TheVariants.{One, Two}
use Rattle.share_model.specs.declared.line.Line.{Line}
use Rattle.share_model.specs.declared.line.Line.TheVariants.{Change, Send, Turn, Torn, Report, Audit}
use Rattle.share_model.specs.text.Lines.{number_of, line_by, reading, spelling_of}

read : List (List ℕ) → List (Result Line Refusal)
read lines = map (reading One) lines

lines_are_read : read (
    codes "open a 4 1" ∷ codes "mktkt 10 base" ∷ codes "fund 1 flow a"
    ∷ codes "send a 6869" ∷ codes "turn 65535" ∷ codes "torn" ∷ codes "close a" ∷ [])
    ≡ Ok (Change (OpenFlow (codes "a") 4 1)) ∷ Ok (Change (MakeTicket 10 (codes "base")))
    ∷ Ok (Change (FundFlow 1 (codes "a")))
    ∷ Ok (Send (codes "a") (unstamped (104 ∷ 105 ∷ []))) ∷ Ok (Turn 65535) ∷ Ok Torn
    ∷ Ok (Change (CloseFlow (codes "a"))) ∷ []
unfolding read reading line_by number_of digits
lines_are_read = refl

funding_is_read : read (
    codes "mkcur x" ∷ codes "rmcur x" ∷ codes "rmtkt 7" ∷ codes "fund 1 cur x" ∷ codes "unfund 2" ∷ [])
    ≡ Ok (Change (MakeCurrency (codes "x"))) ∷ Ok (Change (RemoveCurrency (codes "x")))
    ∷ Ok (Change (RemoveTicket 7)) ∷ Ok (Change (FundCurrency 1 (codes "x"))) ∷ Ok (Change (Unfund 2)) ∷ []
unfolding read reading line_by number_of digits
funding_is_read = refl

reports_and_audits_are_read : read (codes "report" ∷ codes "audit 1" ∷ codes "audit 2" ∷ [])
    ≡ Ok Report ∷ Ok (Audit One) ∷ Ok (Audit Two) ∷ []
unfolding read reading line_by
reports_and_audits_are_read = refl

-- a version that does not exist, and other spellings of those that do
other_audits_are_syntax : read (
    codes "audit" ∷ codes "audit 3" ∷ codes "audit 01" ∷ codes "audit 02" ∷ codes "audit 2 " ∷ codes "audit 11"
    ∷ codes "audit 1 " ∷ codes "audit 1 1" ∷ codes "audit  1" ∷ codes "audit 0" ∷ codes "report 1" ∷ codes "reports"
    ∷ codes "report " ∷ [])
    ≡ replicate 13 (Err Syntax)
unfolding read reading line_by
other_audits_are_syntax = refl

limits_are_read : read (codes "open a-1_z 0 18446744073709551615" ∷ codes "send z 00ff" ∷ [])
    ≡ Ok (Change (OpenFlow (codes "a-1_z") 0 18446744073709551615))
    ∷ Ok (Send (codes "z") (unstamped (0 ∷ 255 ∷ []))) ∷ []
unfolding read reading line_by number_of digits
limits_are_read = refl

-- a number of 2^64, a leading zero, a sign, an upper-case digit, an odd number of digits, a missing payload, and too
-- many spaces. An empty line, a carriage return, a NUL, malformed names and kinds, and words too many
faults_are_syntax : read (
    codes "turn 18446744073709551616" ∷ codes "fund 01 flow a" ∷ codes "turn +1" ∷ codes "send a 6A" ∷ codes "send a 6"
    ∷ codes "send a " ∷ codes "send a" ∷ codes "open  a 4 1" ∷ codes "open a 4 1 " ∷ codes " torn"
    ∷ codes "torn torn" ∷ [] ∷ codes "torn\r" ∷ (codes "torn" ++ 0 ∷ [])
    ∷ codes "open A 4 1" ∷ codes "fund 1 cow a" ∷ codes "mkcur X" ∷ codes "mkcur x y" ∷ codes "rmcur"
    ∷ codes "rmtkt x" ∷ codes "unfund 1 x" ∷ codes "fund 1 currency x" ∷ codes "close" ∷ codes "close a 1" ∷ [])
    ≡ replicate 24 (Err Syntax)
unfolding read reading line_by number_of digits
faults_are_syntax = refl

turns_out_of_range : read (codes "turn 0" ∷ codes "turn 65536" ∷ codes "turn 18446744073709551615" ∷ [])
    ≡ replicate 3 (Err Range)
unfolding read reading line_by number_of digits
turns_out_of_range = refl

lines_are_spelled : map spelling_of (
    Change (OpenFlow (codes "a") 4 1) ∷ Change (FundFlow 1 (codes "a")) ∷ Change (FundCurrency 1 (codes "x"))
    ∷ Change (MakeCurrency (codes "x")) ∷ Change (RemoveCurrency (codes "x")) ∷ Change (RemoveTicket 1)
    ∷ Change (Unfund 1) ∷ Change (CloseFlow (codes "a")) ∷ Send (codes "a") (unstamped (104 ∷ 255 ∷ [])) ∷ Torn
    ∷ Report ∷ Audit One ∷ Audit Two ∷ [])
    ≡ codes "open a 4 1" ∷ codes "fund 1 flow a" ∷ codes "fund 1 cur x" ∷ codes "mkcur x" ∷ codes "rmcur x"
    ∷ codes "rmtkt 1" ∷ codes "unfund 1" ∷ codes "close a" ∷ codes "send a 68ff" ∷ codes "torn"
    ∷ codes "report" ∷ codes "audit 1" ∷ codes "audit 2" ∷ []
unfolding digits
lines_are_spelled = refl
