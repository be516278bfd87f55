-- Whole scripts, from their bytes to the text that they are answered with, checked against worked examples: each
-- equation holds by computation alone. The entries of a finite map do not compute, so no row asks for the next flow:
-- scripts that send are run by tests.
use Rattle.std.specs.Prelude.{◌≡◌, ℕ, true, Bool, List, [], ◌∷◌, ◌++◌, codes, refl}
use Rattle.std.specs.Fmt.{digits}
use Rattle.std.proofs.Common.{ap}
use Rattle.share_base.specs.Body.{unstamped}
use Rattle.share_base.specs.declared.command.Command.TheVariants.{MakeCurrency, MakeTicket, FundFlow, OpenFlow}
use Rattle.share_base.specs.declared.command.Command.TheVariants.{CloseFlow}
use Rattle.share_base.specs.declared.command.Event.TheVariants.{Commanded, Arrived}
use Rattle.share_base.specs.declared.version.Version.TheVariants.{Two}
use Rattle.share_model.specs.declared.rates.Rate.{Rate}
use Rattle.share_model.specs.lists.Change.{change_first}
use Rattle.share_model.specs.funding.Graph.{funding}
use Rattle.share_model.specs.text.Lines.{number_of, line_by, reading}
use Rattle.share_model.specs.text.ReportRows.{zero_report, new_link_shows}
use Rattle.share_model.specs.text.Texts.{line_text}
use Rattle.share_model.specs.text.Events.{made_of, events_of}
use Rattle.share_model.specs.text.Talk.{start_of_script, answer, talk, after, lines_of}

-- the program's shelf
shelf : List Rate
shelf =
    record { cell = 1; overhead = 0; price = 1 } ∷ record { cell = 48; overhead = 16; price = 2 }
    ∷ record { cell = 1024; overhead = 0; price = 1 } ∷ record { cell = 2048; overhead = 1024; price = 3 } ∷ []

printed : List Bool → List ℕ → List ℕ
printed lacks script = talk 65536 shelf start_of_script lacks (lines_of script)

one_packet : List ℕ
one_packet = codes "open a 4 1\nmktkt 10 base\nfund 1 flow a\nsend a 6869\nclose a"

one_packet_prints : printed [] one_packet ≡ codes "flow 1\nticket 1\nok\npacket 1 1\nclosed 1 1 0\n"
unfolding printed one_packet shelf talk answer line_text reading line_by number_of digits change_first funding
one_packet_prints = refl

one_packet_runs : events_of 65536 shelf start_of_script [] (lines_of one_packet)
    ≡ Commanded (OpenFlow (codes "a") 4 1) ∷ Commanded (MakeTicket 10 (codes "base"))
    ∷ Commanded (FundFlow 1 (codes "a")) ∷ Arrived (codes "a") (unstamped (104 ∷ 105 ∷ []))
    ∷ Commanded (CloseFlow (codes "a")) ∷ []
unfolding one_packet shelf made_of answer reading line_by number_of digits change_first funding
one_packet_runs = refl

nothing_prints : printed [] [] ≡ []
unfolding printed talk
nothing_prints = refl

-- memory that is lacking for the first line alone; a line that takes none does not lack it
no_memory_prints : printed (true ∷ true ∷ []) (codes "open a 4 1\nclose a\nmktkt 1 base\nfund 1 flow a\nsend a 68")
    ≡ codes "no 1 NoMemory\nno 7 NoFlow\nticket 1\nno 7 NoFlow\nno 7 NoFlow\n"
unfolding printed shelf talk answer line_text reading line_by number_of digits change_first funding
no_memory_prints = refl

full_buffer : List ℕ
full_buffer = codes "open a 1 1\nsend a 61\nsend a 62\nclose a\nopen a 1 1\nsend a 62\n"

full_buffer_prints : printed [] full_buffer
    ≡ codes "flow 1\npacket 1 1\nno 19 BufferFull\nclosed 1 1 0\nflow 2\npacket 2 1\n"
unfolding printed full_buffer shelf talk answer line_text reading line_by number_of digits change_first funding
full_buffer_prints = refl

-- in a spent life a line that is no fault of spelling is Spent
spent_life : List ℕ
spent_life = codes "open a 4 1\nmktkt 0 nope\nopen a 4 1\nturn 0\nturn 5\ntorn\nsend a 61\nturn 01\nclose a\n"

spent_life_prints : talk 2 shelf start_of_script [] (lines_of spent_life)
    ≡ codes "flow 1\nno 4 Range\nno 2 Spent\nno 2 Spent\nno 2 Spent\nno 2 Spent\nno 2 Spent\nno 3 Syntax\n"
    ++ codes "no 2 Spent\n"
unfolding spent_life shelf talk answer line_text reading line_by number_of digits change_first funding
spent_life_prints = refl

fresh_link : List ℕ
fresh_link =
    codes "mktkt 0 nope\nmktkt 1048577 base\nfund 9 flow zz\nopen a 0 9\nopen a 1 9\nclose zz\n"
    ++ codes "fund 01 flow a\nsend a 6\nturn 0\n\nsend a 61"

fresh_link_prints : printed [] fresh_link
    ≡ codes "no 4 Range\nno 4 Range\nno 6 NoTicket\nno 4 Range\nno 8 NoTariff\nno 7 NoFlow\n"
    ++ codes "no 3 Syntax\nno 3 Syntax\nno 4 Range\nno 3 Syntax\nno 7 NoFlow\n"
unfolding printed fresh_link shelf talk answer line_text reading line_by number_of digits change_first funding
fresh_link_prints = refl

-- the report of a new link; and the line of an audit in another place than the first
report_prints : printed [] (codes "report\naudit 1\n") ≡ zero_report ++ codes "no 3 Syntax\n"
unfolding printed shelf talk answer line_text reading line_by digits
report_prints = ap (λ text. text ++ codes "no 3 Syntax\n") new_link_shows

report_is_no_event : events_of 65536 shelf start_of_script [] (lines_of (codes "report\nmkcur x\naudit 1\n"))
    ≡ Commanded (MakeCurrency (codes "x")) ∷ []
unfolding shelf made_of answer reading line_by change_first funding
report_is_no_event = refl

audit_prints : printed [] (codes "audit 1\nmkcur x") ≡ codes "ok\n"
unfolding printed shelf talk answer line_text reading line_by change_first funding
audit_prints = refl

audit_alone_prints : printed [] (codes "audit 1") ≡ []
unfolding printed shelf talk answer reading line_by
audit_alone_prints = refl

-- the line of an audit counts as a line, so a second one is Syntax, of the other version too
audits_print : printed [] (codes "audit 1\naudit 1\naudit 2\n") ≡ codes "no 3 Syntax\nno 3 Syntax\n"
unfolding printed shelf talk answer line_text reading line_by digits
audits_print = refl

audit_of_the_other_prints : printed [] (codes "audit 2\naudit 1\nmkcur x\n") ≡ codes "no 3 Syntax\nok\n"
unfolding printed shelf talk answer line_text reading line_by digits change_first funding
audit_of_the_other_prints = refl

-- a version that there is not is a fault of spelling, and so the script is of version 1
unknown_audit_prints : printed [] (codes "audit 3\nmkcur x\n") ≡ codes "no 3 Syntax\nok\n"
unfolding printed shelf talk answer line_text reading line_by digits change_first funding
unknown_audit_prints = refl

-- the link is one of the version that the first line names
audit_two_chooses : (after 65536 shelf start_of_script [] (lines_of (codes "audit 2\nmkcur x\n"))).state.live.version
    ≡ Two
unfolding shelf after answer reading line_by change_first funding
audit_two_chooses = refl

-- a fault of spelling counts as a line too
late_audit_prints : printed [] (codes "audit 01\naudit 1\n") ≡ codes "no 3 Syntax\nno 3 Syntax\n"
unfolding printed shelf talk answer line_text reading line_by digits
late_audit_prints = refl

-- in a spent life too a report is answered, and the line of an audit is a fault of spelling
spent_report_prints : talk 1 shelf start_of_script [] (lines_of (codes "mkcur x\nreport\naudit 1\nmkcur y\n"))
    ≡ codes "ok\n" ++ zero_report ++ codes "no 3 Syntax\nno 2 Spent\n"
unfolding shelf talk answer line_text reading line_by digits change_first funding
spent_report_prints = ap (λ text. codes "ok\n" ++ text ++ codes "no 3 Syntax\nno 2 Spent\n") new_link_shows
