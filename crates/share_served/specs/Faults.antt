-- The faults of a run of the server, in the order in which they are reported, and their reasons.
use Rattle.std.specs.Prelude.{Bool, false, List, [], ◌∷◌, Option, None, Some, if◌then◌else◌}
use Rattle.share_served.specs.declared.faults.FoundFaults.{FoundFaults}
use Rattle.share_connections.specs.declared.reason.Reason.{Reason}
use Rattle.share_served.specs.declared.faults.Reasons.{Reasons}
use Rattle.share_served.specs.declared.faults.RunFault.{RunFault}
use Rattle.share_served.specs.declared.faults.ServeFault.{ServeFault}
use Rattle.share_served.specs.declared.faults.ServeFault.TheVariants.{Accept, Thread, Uplink, Life, Unsent, LeftOver}
use Rattle.share_served.specs.declared.faults.ServeFault.TheVariants.{Mismatch, NoMemory, Audit, Output}

-- the fault of the first test that holds
abbrev pub first_of : List (Bool × ServeFault) → Option ServeFault
first_of [] = None
first_of (row ∷ rows) = if row.0 then Some row.1 else first_of rows

-- all faults, in their order
abbrev pub faults_of : FoundFaults → List (Bool × ServeFault)
faults_of f =
    (f.accept, Accept)
    ∷ (f.thread, Thread)
    ∷ (f.uplink, Uplink)
    ∷ (f.life, Life)
    ∷ (f.unsent, Unsent)
    ∷ (f.left_over, LeftOver)
    ∷ (f.mismatch, Mismatch)
    ∷ (f.memory, NoMemory)
    ∷ (f.audit, Audit)
    ∷ (f.output, Output)
    ∷ []

abbrev pub no_fault : FoundFaults
no_fault = record {
  accept = false;
  thread = false;
  uplink = false;
  life = false;
  unsent = false;
  left_over = false;
  mismatch = false;
  memory = false;
  audit = false;
  output = false;
}

-- the reason of the system for a fault: only accepting and the uplink have one
abbrev pub reason_of : Reasons → ServeFault → Option Reason
reason_of r Accept = r.accept
reason_of r Uplink = r.uplink
reason_of r Thread = None
reason_of r Life = None
reason_of r Unsent = None
reason_of r LeftOver = None
reason_of r Mismatch = None
reason_of r NoMemory = None
reason_of r Audit = None
reason_of r Output = None

-- a fault without a reason
abbrev pub bare : ServeFault → RunFault
bare kind = record { kind = kind; reason = None }
