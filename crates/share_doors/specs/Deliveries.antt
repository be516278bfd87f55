-- Packets that are given to the ports and the connections of a tenant.
use Rattle.std.specs.Prelude.{◌≡◌, ◌≢◌, ℕ, Option, None, Some, IsSomeAnd}
use Rattle.slab.specs.Slab.{Slab, get}
use Rattle.share_doors.specs.Door.{one_more}
use Rattle.share_doors.specs.declared.packet_port.PacketPort.{PacketPort}
use Rattle.share_doors.specs.declared.sender.Sender.{Sender}

-- the number of packets given, and the number lost
pub record DeliveriesView : Type 0 where
  pub given : ℕ
  pub lost : ℕ

-- the port that was there was given one packet more
abbrev pub PortIsGiven : Option PacketPort → Option PacketPort → Type 0
PortIsGiven None after = after ≡ None
PortIsGiven (Some p) after = IsSomeAnd after (λ q. q.given ≡ one_more p.given)

-- each port was
abbrev pub EachPortIsGiven : Slab PacketPort → Slab PacketPort → Type 0
EachPortIsGiven before after = (key : ℕ) → PortIsGiven (get before key) (get after key)

-- the one at this key was, and no other
pub record PortIsGivenAt (key : ℕ) (before after : Slab PacketPort) : Type 0 where
  pub here : PortIsGiven (get before key) (get after key)
  pub others : (other : ℕ) → other ≢ key → get after other ≡ get before other

-- the connection that was there was given one packet more
abbrev pub SenderIsGiven : Option Sender → Option Sender → Type 0
SenderIsGiven None after = after ≡ None
SenderIsGiven (Some p) after = IsSomeAnd after (λ q. q.given ≡ one_more p.given)

-- each connection was
abbrev pub EachSenderIsGiven : Slab Sender → Slab Sender → Type 0
EachSenderIsGiven before after = (key : ℕ) → SenderIsGiven (get before key) (get after key)

-- the one at this key was, and no other
pub record SenderIsGivenAt (key : ℕ) (before after : Slab Sender) : Type 0 where
  pub here : SenderIsGiven (get before key) (get after key)
  pub others : (other : ℕ) → other ≢ key → get after other ≡ get before other
