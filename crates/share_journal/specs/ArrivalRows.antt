-- Arrivals, checked against a worked example: each equation holds by computation alone.
use Rattle.std.specs.Prelude.{◌≡◌, List, [], ◌∷◌, ◌++◌, codes, true, refl}
use Rattle.share_base.specs.declared.command.Command.TheVariants.{Unfund}
use Rattle.share_base.specs.declared.command.Reply.TheVariants.{Done, Packet, Refused}
use Rattle.share_base.specs.declared.command.Turn.TheVariants.{Wrote, Idle}
use Rattle.share_base.specs.declared.refusal.Refusal.TheVariants.{BufferFull}
use Rattle.share_model.specs.ingress.Queue.{offer}
use Rattle.share_journal.specs.declared.entry.Entry.{Entry}
use Rattle.share_journal.specs.Arrivals.{arrivals, arrivals_of}
use Rattle.share_journal.specs.Entries.{command_entry, arrival_entry, turn_entries}

-- worker 1 brings two packets for flow a and worker 2 one between them, which is refused; a command and turns are among
-- them
settled : List Entry
settled =
    arrival_entry 1 (codes "a") (codes "a") (Packet 1 1)
    ∷ command_entry 1 (Unfund 1) Done
    ∷ turn_entries (Wrote 1 1 13 true)
    ++ arrival_entry 2 (codes "a") (codes "c") (Refused BufferFull)
    ∷ turn_entries Idle
    ++ arrival_entry 1 (codes "a") (codes "b") (Packet 1 2)
    ∷ []

settled_brings : arrivals settled
    ≡ offer 1 1 (codes "a") (codes "a") ∷ offer 2 1 (codes "a") (codes "c") ∷ offer 1 2 (codes "a") (codes "b") ∷ []
unfolding arrivals settled
settled_brings = refl

first_brings : arrivals_of 1 settled ≡ offer 1 1 (codes "a") (codes "a") ∷ offer 1 2 (codes "a") (codes "b") ∷ []
unfolding arrivals settled
first_brings = refl

second_brings : arrivals_of 2 settled ≡ offer 2 1 (codes "a") (codes "c") ∷ []
unfolding arrivals settled
second_brings = refl

third_brings_none : arrivals_of 3 settled ≡ []
unfolding arrivals settled
third_brings_none = refl
