-- An audit, checked against the worked example: the equation holds by computation alone.
use Rattle.std.specs.Prelude.{◌≡◌, List, [], ◌∷◌, codes, refl}
use Rattle.std.specs.Fmt.{digits}
use Rattle.share_base.specs.Body.{unstamped}
use Rattle.share_base.specs.declared.command.Command.TheVariants.{MakeCurrency, MakeTicket, FundFlow, OpenFlow}
use Rattle.share_base.specs.declared.command.Event.{Event}
use Rattle.share_base.specs.declared.command.Event.TheVariants.{Commanded, Arrived, Written, Faulted}
use Rattle.share_base.specs.declared.version.Version.TheVariants.{One, Two}
use Rattle.share_model.specs.text.Audit.{audit}

torn_packet : List Event
torn_packet =
    Commanded (OpenFlow (codes "a") 4 2) ∷ Commanded (MakeTicket 1 (codes "base")) ∷ Commanded (FundFlow 1 (codes "a"))
    ∷ Arrived (codes "a") (unstamped (codes "hi")) ∷ Written 7 ∷ Faulted ∷ Commanded (MakeCurrency (codes "x")) ∷ []

torn_packet_audit : audit One torn_packet
    ≡ codes "audit 1\nopen a 4 2\nmktkt 1 base\nfund 1 flow a\nsend a 6869\nturn 7\ntorn\nmkcur x\n"
unfolding torn_packet audit digits
torn_packet_audit = refl

torn_packet_audit_two : audit Two torn_packet
    ≡ codes "audit 2\nopen a 4 2\nmktkt 1 base\nfund 1 flow a\nsend a 6869\nturn 7\ntorn\nmkcur x\n"
unfolding torn_packet audit digits
torn_packet_audit_two = refl

nothing_audit : audit One [] ≡ codes "audit 1\n"
unfolding audit
nothing_audit = refl
