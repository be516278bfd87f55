-- The findings when a link is settled after its service, and the outcome of its run.
use Rattle.std.specs.Prelude.{◌≡◌, ◌⊎◌, ◌||◌, ◌&&◌, ◌≤◌, ℕ, Bool, true, false, not, List, length, nat_eq}
use Rattle.std.specs.Prelude.{Option, None, Some, Result, Err, MatchResult, IfErr}
use Rattle.std.specs.Io.KnownBytes.{Appends}
use Rattle.share_base.specs.declared.version.Version.TheVariants.{Two}
use Rattle.share_ingress.specs.Ends.{EndView}
use Rattle.share_journal.specs.Entries.{JournalView}
use Rattle.share_journal.specs.Records.{RecorderView, IsRunNow, is_same_version}
use Rattle.share_locked.specs.Settles.{IsSettled, IsAccounted, Unsettles}
use Rattle.share_locked.specs.Views.{LockedView, ClerkView}
use Rattle.share_locked.specs.declared.locked.settling.WhyUnsettled.{WhyUnsettled}
use Rattle.share_locked.specs.declared.locked.settling.WhyUnsettled.TheVariants.{Unsent, Mismatch, LeftOver, NoMemory}
use Rattle.share_model.specs.declared.writer.Answer.{Answer}
use Rattle.share_model.specs.declared.writer.PlainWriter.{PlainWriter}
use Rattle.share_model.specs.io.Calls.{Offers, OfferRefused}
use Rattle.share_model.specs.io.Printing.{bytes_told, AppendsPart}
use Rattle.share_model.specs.io.Told.{Told}
use Rattle.share_model.specs.text.Report.{report}
use Rattle.share_served.specs.Faults.{first_of, faults_of, no_fault, reason_of}
use Rattle.share_served.specs.declared.faults.FoundFaults.{FoundFaults}
use Rattle.share_served.specs.declared.faults.Reasons.{Reasons}
use Rattle.share_served.specs.declared.faults.RunFault.{RunFault}
use Rattle.share_served.specs.declared.faults.ServeFault.{ServeFault}
use Rattle.share_served.specs.declared.faults.ServeFault.TheVariants.{Accept, Thread, Uplink as TornUplink, Life}
use Rattle.share_served.specs.declared.faults.ServeFault.TheVariants.{Unsent as UnsentFault}
use Rattle.share_served.specs.declared.faults.ServeFault.TheVariants.{LeftOver as LeftOverFault}
use Rattle.share_served.specs.declared.faults.ServeFault.TheVariants.{Mismatch as MismatchFault}
use Rattle.share_served.specs.declared.faults.ServeFault.TheVariants.{NoMemory as NoMemoryFault, Audit, Output}
use Rattle.share_connections.specs.declared.uplink.Uplink.{Uplink}

-- the journal of a recorder
abbrev pub journal_of : {W : Type 0} → RecorderView W → JournalView
journal_of r = record { life = r.link.life; version = r.link.live.version; entries = r.entries }

-- the faults, and why a link was not settled
abbrev pub with_want : FoundFaults → WhyUnsettled → FoundFaults
with_want f Unsent = record f { unsent = true }
with_want f Mismatch = record f { mismatch = true }
with_want f LeftOver = record f { left_over = true }
with_want f NoMemory = record f { memory = true }

-- whether a reason why the link was not settled is among the faults
abbrev pub is_unsettled : FoundFaults → Bool
is_unsettled f = f.unsent || (f.left_over || (f.mismatch || f.memory))

-- the faults, and whether the uplink is torn, and the audit and the report were lost
abbrev pub with_end : FoundFaults → Bool → Bool → Bool → FoundFaults
with_end f uplink audit output = record f { uplink = uplink; audit = audit; output = output }

-- no contract knows the bytes that a served link wrote
abbrev pub untold : {W : Type 0} → W → Option Told
untold writer = None

-- The link was settled: what the worker of each end queued is what was admitted of it. The audit of the journal, run as
-- a script, is answered by the journal's replies.
pub record LinkWasSettled {W : Type 0} (l : LockedView W) (ends : List EndView) (clerks : List ClerkView) : Type 0 where
  pub recorder : RecorderView W
  pub tallies : List ℕ
  pub arrivals : ℕ
  pub commands : ℕ
  pub settled : IsSettled l ends clerks recorder tallies arrivals commands
  pub accounts : IsAccounted untold recorder ends

-- the link was settled, and its faults are those of its run; or it was not, and why is a fault too
abbrev pub Settling : {W : Type 0} → LockedView W → List EndView → List ClerkView → FoundFaults → FoundFaults → Type 0
Settling l ends clerks found known =
    (LinkWasSettled l ends clerks × (known ≡ found))
    ⊎ ((why : WhyUnsettled) × Unsettles why l ends clerks × (known ≡ with_want found why))

-- the text was written, and every offer of it accepted. Or it was lost, if a beginning of it was written, and an offer
-- of it was refused
abbrev pub IsWritten : {O : Type 0} → (O → Option Told) → (O → List ℕ → Answer → O → Type 0) → O → O → List ℕ → Bool
    → Type 0
IsWritten told answers old new text false =
    Appends (bytes_told (told old)) (bytes_told (told new)) text × Offers answers old new
IsWritten told answers old new text true =
    AppendsPart (bytes_told (told old)) (bytes_told (told new)) text × OfferRefused answers old new

-- The findings when a link is closed. They are its settling, whether its uplink is torn, and whether the audit of its
-- own journal and its report were lost. Its frames are of version 2, and the journal is its run.
pub record IsClosing {W K O : Type 0} (kept : K → JournalView → Bool → Type 0) (told : O → Option Told)
    (answers : O → List ℕ → Answer → O → Type 0) (l : LockedView W) (ends : List EndView) (clerks : List ClerkView)
    (keep : K) (old new : O) (found closed : FoundFaults) : Type 0 where
  pub known : FoundFaults
  pub settling : Settling l ends clerks found known
  pub faults : closed ≡ with_end known l.recorder.link.live.broken closed.audit closed.output
  pub audit : kept keep (journal_of l.recorder) (not closed.audit)
  pub output : IsWritten told answers old new (report l.recorder.link.live) closed.output
  pub version : l.recorder.link.live.version ≡ Two
  pub run : IsRunNow untold l.recorder.link l.recorder.entries

-- the result of a run with these faults: the first of them, and Ok if there is none
abbrev pub IsResultOf : {X : Type 0} → FoundFaults → Result X RunFault → Type 0
IsResultOf f result = MatchResult result (λ _. f ≡ no_fault) (λ fault. first_of (faults_of f) ≡ Some fault.kind)

-- the fault of a result has its own reason of these, and no other
abbrev pub HasItsReason : {X : Type 0} → Reasons → Result X RunFault → Type 0
HasItsReason reasons result = IfErr result (λ fault. fault.reason ≡ reason_of reasons fault.kind)

-- the writer of a served link
abbrev pub UplinkWriter : Type 0
UplinkWriter = PlainWriter Uplink

-- a run came to its end: its link was closed, and the result is the first fault that was found
pub record IsRunClosed {X K O : Type 0} (kept : K → JournalView → Bool → Type 0) (told : O → Option Told)
    (answers : O → List ℕ → Answer → O → Type 0) (keep : K) (old new : O) (result : Result X RunFault) : Type 0 where
  pub locked : LockedView UplinkWriter
  pub ends : List EndView
  pub clerks : List ClerkView
  pub found : FoundFaults
  pub closed : FoundFaults
  pub reasons : Reasons
  pub closing : IsClosing kept told answers locked ends clerks keep old new found closed
  pub result_is : IsResultOf closed result
  pub reason_is : HasItsReason reasons result

-- A run without a fault. Its link was settled and is not broken, its frames are of version 2, and the journal is its
-- run. All of the journal's audit and of the link's report was written.
pub record WasServed {K O : Type 0} (kept : K → JournalView → Bool → Type 0) (told : O → Option Told)
    (answers : O → List ℕ → Answer → O → Type 0) (keep : K) (old new : O) : Type 0 where
  pub locked : LockedView UplinkWriter
  pub ends : List EndView
  pub clerks : List ClerkView
  pub settled : LinkWasSettled locked ends clerks
  pub unbroken : locked.recorder.link.live.broken ≡ false
  pub version : locked.recorder.link.live.version ≡ Two
  pub run : IsRunNow untold locked.recorder.link locked.recorder.entries
  pub audit : kept keep (journal_of locked.recorder) true
  pub output : IsWritten told answers old new (report locked.recorder.link.live) false

-- a journal of version 2 without an entry
abbrev pub is_new : JournalView → Bool
is_new journal = nat_eq (length journal.entries) 0 && is_same_version Two journal.version

-- Why a run does not begin: memory was refused, the listeners cannot be shut down by another handle, or the journal is
-- not new.
abbrev pub RefusesToBegin : JournalView → ServeFault → Type 0
RefusesToBegin journal NoMemoryFault = Unit {0}
RefusesToBegin journal Accept = Unit {0}
RefusesToBegin journal MismatchFault = is_new journal ≡ false
RefusesToBegin journal Thread = ⊥
RefusesToBegin journal TornUplink = ⊥
RefusesToBegin journal Life = ⊥
RefusesToBegin journal UnsentFault = ⊥
RefusesToBegin journal LeftOverFault = ⊥
RefusesToBegin journal Audit = ⊥
RefusesToBegin journal Output = ⊥

-- a run did not begin, and nothing was written
pub record HasNotBegun {X O : Type 0} (journal : JournalView) (old new : O) (result : Result X RunFault) : Type 0
  where
    pub fault : RunFault
    pub result_is : result ≡ Err fault
    pub why : RefusesToBegin journal fault.kind
    pub unwritten : new ≡ old

-- the number of connections of each kind that a server accepts
abbrev pub CanServe : ℕ → ℕ → Type 0
CanServe workers clerks = (1 ≤ workers) × (workers ≤ 8) × (1 ≤ clerks) × (clerks ≤ 8)
