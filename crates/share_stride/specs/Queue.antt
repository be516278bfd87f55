-- The values that a queue keeps beside its value.
use Rattle.std.specs.Prelude.{◌≡◌, ℕ, ◌+◌, ◌-◌, ◌*◌, ◌/◌}
use Rattle.share_model.specs.declared.stride.GlobalPart.{GlobalPart}
use Rattle.share_model.specs.stride.Moves.{Stride, stride_of, total}
use Rattle.share_model.specs.stride.Bound.{IsSound}
use Rattle.share_stride.specs.Table.{Clients}

-- the queue: its clients and what they share
abbrev pub state_of : Clients → GlobalPart → Stride
state_of clients global =
    record { clients = clients.by_flow; pass = global.pass; last = global.last; clock = global.clock }

-- the kept total is that of the tickets of the clients that compete, and each client is within its bound
pub record IsInStep (tickets : ℕ) (s : Stride) : Type 0 where
  pub total : tickets ≡ total s.clients
  pub sound : IsSound s

abbrev pub AreInStep : Clients → GlobalPart → Type 0
AreInStep clients global = IsInStep global.tickets (state_of clients global)

-- the global pass moves on by what was charged since the last update
abbrev pub after_update : GlobalPart → GlobalPart
after_update global =
    record global {
      pass = global.pass + stride_of global.tickets * (global.clock - global.last) / 1024;
      last = global.clock;
    }
