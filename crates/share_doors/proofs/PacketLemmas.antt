-- The outcome of the packets of a packet port, call by call.
use Rattle.std.proofs.Common.{◌≡◌, ℕ, Bool, true, false, length, refl, ◌∙◌, ap, sym, subst, if◌then◌else◌}
use Rattle.share_base.specs.Body.{is_payload_length}
use Rattle.share_model.specs.funding.Graph.{NameBytes}
use Rattle.share_book.specs.Audited.{Audited}
use Rattle.share_doors.specs.Packets.{PortGives, PortTakes, ReaderView, ReadsMore, ReadsOne, came_of}
use Rattle.share_doors.specs.declared.sender.Came.{Came}
use Rattle.share_doors.specs.declared.sender.Came.TheVariants.{Packet, Dropped, Nothing, More, Over}

-- a packet that was read is a payload, or is dropped
pub reads_one : (n : ℕ) (answer : Came) (old new : ReaderView) → answer ≡ came_of n → length new.packet ≡ n
    → ReadsMore old new → ReadsOne old answer new
reads_one n answer old new is count more =
    subst (λ (x : Came). ReadsOne old x new) (sym is) (by_length (is_payload_length n) refl)
  where
    by_length : (b : Bool) → is_payload_length n ≡ b → ReadsOne old (if b then Packet n else Dropped) new
    by_length true in_range = (count, ap is_payload_length count ∙ in_range, more)
    by_length false in_range = (ap is_payload_length count ∙ in_range, more)

-- the outcome of a payload that was read
pub port_gives : (name : NameBytes) (n : ℕ) (answer : Came) (old new : ReaderView) (before after : Audited)
    → ReadsOne old (Packet n) new → PortTakes name new.packet before answer after
    → PortGives name old before answer new after
port_gives name n (Packet m) old new before after reads took = (reads.2, took)
port_gives name n Dropped old new before after reads took = (reads.2, took)
port_gives name n Nothing old new before after reads took = absurd took
port_gives name n More old new before after reads took = absurd took
port_gives name n (Over why) old new before after reads took = absurd took
