-- The outcome of a link that is settled after its service.
use Rattle.std.specs.Prelude.{◌≡◌, ◌≢◌, ◌&&◌, ◌⊎◌, ◌≤◌, ℕ, Option, Bool, true, false, not, List, length, sum}
use Rattle.std.specs.Prelude.{is_some, Any}
use Rattle.share_model.specs.ingress.Queue.{IsWorker}
use Rattle.share_model.specs.io.Told.{Told}
use Rattle.share_model.specs.link.Calls.{is_spent}
use Rattle.share_model.specs.link.Turns.{sending}
use Rattle.share_model.specs.link.View.{LinkView}
use Rattle.share_model.specs.lists.Each.{Each}
use Rattle.share_model.specs.text.Audit.{audit}
use Rattle.share_model.specs.text.Talk.{start_of_script, talk, lines_of, FoundMemory}
use Rattle.share_ingress.specs.Ends.{EndView, IntakeView}
use Rattle.share_ingress.specs.Gathers.{AllThere, IsMissing, IsTaken, HasLeft, IsWhole, Gathered}
use Rattle.share_ingress.specs.declared.ends.gather.WhyNot.{WhyNot}
use Rattle.share_ingress.specs.declared.ends.gather.WhyNot.TheVariants.{Mismatch as EndMissing}
use Rattle.share_ingress.specs.declared.ends.gather.WhyNot.TheVariants.{LeftOver as EndLeftOver}
use Rattle.share_ingress.specs.declared.ends.gather.WhyNot.TheVariants.{NoMemory as EndNoMemory}
use Rattle.share_journal.specs.Arrivals.{arrivals}
use Rattle.share_journal.specs.Entries.{events_in}
use Rattle.share_journal.specs.Records.{RecorderView}
use Rattle.share_journal.specs.Replays.{IsReplayOf, audit_lines_of}
use Rattle.share_locked.specs.declared.locked.settling.WhyUnsettled.{WhyUnsettled}
use Rattle.share_locked.specs.declared.locked.settling.WhyUnsettled.TheVariants.{Unsent, Mismatch, LeftOver, NoMemory}
use Rattle.share_locked.specs.Receipts.{Agrees, Disagrees, StandsInJournal, Ascend, commands_in, receipts_in, has_clerk}
use Rattle.share_locked.specs.Views.{LockedView, ClerkView}

-- there is a frame to send, the link is not broken, and its life is not spent
abbrev pub is_unsent : {W : Type 0} → LinkView W → Bool
is_unsent s = not (is_spent s) && (not s.live.broken && is_some (sending s.live))

-- all clerks are there
abbrev pub AreClerks : ℕ → List ClerkView → Type 0
AreClerks count clerks = (n : ℕ) → IsWorker count n → has_clerk n clerks ≡ true

-- a clerk is missing
abbrev pub ClerkIsMissing : ℕ → List ClerkView → Type 0
ClerkIsMissing count clerks = (n : ℕ) × IsWorker count n × (has_clerk n clerks ≡ false)

-- all clerks are there, the receipts of each are its commands in the journal, and together they are all commands
pub record AreAgreed {W : Type 0} (l : LockedView W) (clerks : List ClerkView) : Type 0 where
  pub there : AreClerks l.clerks clerks
  pub agreed : Each (Agrees l.recorder.entries) clerks
  pub all : receipts_in clerks ≡ commands_in l.recorder.entries

-- a clerk is missing, the receipts of one are not its commands in the journal, or together they are not all commands
pub data Disagreed {W : Type 0} (l : LockedView W) (clerks : List ClerkView) : Type 0 where
  clerk_missing : ClerkIsMissing l.clerks clerks → Disagreed l clerks
  clerk_differs : Any (Disagrees l.recorder.entries) clerks → Disagreed l clerks
  clerks_differ : receipts_in clerks ≢ commands_in l.recorder.entries → Disagreed l clerks

-- why a link is not settled, if this is why its ends were not joined
abbrev pub why_of : WhyNot → WhyUnsettled
why_of EndMissing = Mismatch
why_of EndLeftOver = LeftOver
why_of EndNoMemory = NoMemory

-- why a link was not settled, in the order of the tests
abbrev pub Unsettles : {W : Type 0} → WhyUnsettled → LockedView W → List EndView → List ClerkView → Type 0
Unsettles Unsent l ends clerks = is_unsent l.recorder.link ≡ true
Unsettles Mismatch l ends clerks =
    (is_unsent l.recorder.link ≡ false)
    × (Disagreed l clerks ⊎ (AreAgreed l clerks × IsMissing l.intake.workers ends))
Unsettles LeftOver l ends clerks =
    (is_unsent l.recorder.link ≡ false) × AreAgreed l clerks × AllThere l.intake.workers ends
    × Any (HasLeft l.intake.popped) ends
Unsettles NoMemory l ends clerks =
    (is_unsent l.recorder.link ≡ false) × AreAgreed l clerks × AllThere l.intake.workers ends
    × Each (IsTaken l.intake.popped) ends

-- The ends were joined to the intake, so the queue holds nothing and can get nothing more. The arrivals of each worker
-- in the journal are what it queued, whole and in order, and the tallies count these.
pub record IsJoined {W : Type 0} (l : LockedView W) (ends : List EndView) (recorder : RecorderView W) (tallies : List ℕ)
    (arrived commands : ℕ) : Type 0 where
  pub recorder_is : recorder ≡ l.recorder
  pub joined : IntakeView
  pub gathered : Gathered l.intake ends joined tallies
  pub whole : Each (IsWhole (arrivals l.recorder.entries)) ends
  pub arrived_is : arrived ≡ length (arrivals l.recorder.entries)
  pub total : sum tallies ≡ arrived
  pub commands_are : commands ≡ commands_in l.recorder.entries

-- A settled link: nothing is left to send, the recorder is that of the lock, and the ends were joined. The receipts of
-- the clerks are all commands of the journal: each is there under its number, and the numbers of a clerk rise.
pub record IsSettled {W : Type 0} (l : LockedView W) (ends : List EndView) (clerks : List ClerkView)
    (recorder : RecorderView W) (tallies : List ℕ) (arrived commands : ℕ) : Type 0 where
  pub sent : is_unsent l.recorder.link ≡ false
  pub agreed : AreAgreed l clerks
  pub stand : Each (λ (c : ClerkView). Each (StandsInJournal l.recorder.entries c.number) c.receipts) clerks
  pub ascend : Each (λ (c : ClerkView). Ascend 0 c.receipts) clerks
  pub ends_joined : IsJoined l ends recorder tallies arrived commands

-- The audit of a recorder's journal is run as a script in a life that is not shorter. It gives its writer's bytes
-- again, if no line of the output says that there was no memory.
abbrev pub Replays : {W : Type 0} → (W → Option Told) → RecorderView W → Type 0
Replays told r =
    (life : ℕ) (lacks : List Bool) → r.link.life ≤ life
    → FoundMemory (talk life r.link.rates start_of_script lacks (audit_lines_of r.link r.entries))
    → IsReplayOf told r.link r.entries life lacks

-- The items that each worker queued are those that were admitted of it, and the audit gives the writer's bytes.
pub record IsAccounted {W : Type 0} (told : W → Option Told) (recorder : RecorderView W) (ends : List EndView) : Type 0
  where
    pub queued : Each (IsWhole (arrivals recorder.entries)) ends
    pub replays : Replays told recorder
