-- The findings when a link is closed.
use Rattle.std.proofs.Common.{◌≡◌, ◌&&◌, Bool, true, false, not, refl, subst, inl, inr}
use Rattle.std.proofs.Common.{arith, ℕ, List, length, nat_eq, Option, Result, Ok, Err}
use Rattle.std.specs.Prelude.{is_err}
use Rattle.share_base.specs.declared.version.Version.TheVariants.{Two}
use Rattle.share_ingress.specs.Ends.{EndView}
use Rattle.share_journal.specs.Entries.{JournalView}
use Rattle.share_journal.specs.Records.{RecorderView, IsRunNow, are_new}
use Rattle.share_locked.specs.Settles.{IsSettled, IsAccounted, Unsettles}
use Rattle.share_locked.specs.Views.{LockedView, ClerkView}
use Rattle.share_locked.specs.declared.locked.settling.WhyUnsettled.{WhyUnsettled}
use Rattle.share_model.specs.declared.writer.Answer.{Answer}
use Rattle.share_model.specs.io.Printing.{WritesText}
use Rattle.share_model.specs.io.Told.{Told}
use Rattle.share_model.specs.link.View.{LinkView}
use Rattle.share_model.specs.text.Report.{report}
use Rattle.share_served.specs.Shutdown.{journal_of, with_want, with_end, IsWritten, LinkWasSettled}
use Rattle.share_served.specs.Shutdown.{Settling, IsClosing, is_new}
use Rattle.share_served.specs.Shutdown.{untold}
use Rattle.share_served.specs.declared.faults.FoundFaults.{FoundFaults}

-- whether a text was written, from the result of the call that wrote it
pub is_written_of : {O X E : Type 0} (told : O → Option Told) (answers : O → List ℕ → Answer → O → Type 0)
    (old new : O) (text : List ℕ) (r : Result X E) → WritesText told answers old new text r
    → IsWritten told answers old new text (is_err r)
is_written_of told answers old new text (Ok x) did = did
is_written_of told answers old new text (Err e) did = did

nat_eq_same : (n : ℕ) → nat_eq n n ≡ true
nat_eq_same n = grind arith

and_true : (a : Bool) → (a && true) ≡ a
and_true true = refl
and_true false = refl

-- a link of version 2 without an event, and a journal of its life, are new if the journal is
pub new_of : {W : Type 0} (link : LinkView W) (journal : JournalView) → link.live.counts.events ≡ 0
    → link.life ≡ journal.life → link.live.version ≡ Two → are_new link journal ≡ is_new journal
new_of link journal none same version =
    let entries = nat_eq (length journal.entries) 0 in
    rw (none, version, same, nat_eq_same journal.life, and_true entries) refl

-- The findings of the close of a link

module _ {W K O : Type 0} (kept : K → JournalView → Bool → Type 0) (told : O → Option Told)
    (answers : O → List ℕ → Answer → O → Type 0) (l : LockedView W) (ends : List EndView) (clerks : List ClerkView)
    (keep : K) (old new : O) (found closed : FoundFaults) where
  closing : (known : FoundFaults) → Settling l ends clerks found known
      → closed ≡ with_end known l.recorder.link.live.broken closed.audit closed.output
      → kept keep (journal_of l.recorder) (not closed.audit)
      → IsWritten told answers old new (report l.recorder.link.live) closed.output → l.recorder.link.live.version ≡ Two
      → IsRunNow untold l.recorder.link l.recorder.entries
      → IsClosing kept told answers l ends clerks keep old new found closed
  closing known settling faults audit output version run =
      record {
        known = known;
        settling = settling;
        faults = faults;
        audit = audit;
        output = output;
        version = version;
        run = run;
      }

  -- the link was settled, and finished with its own recorder
  pub closing_settled : (r : RecorderView W) (tallies : List ℕ) (arrivals commands : ℕ)
      → IsSettled l ends clerks r tallies arrivals commands → IsAccounted untold r ends
      → closed ≡ with_end found r.link.live.broken closed.audit closed.output
      → kept keep (journal_of r) (not closed.audit)
      → IsWritten told answers old new (report r.link.live) closed.output → l.recorder.link.live.version ≡ Two
      → IsRunNow untold l.recorder.link l.recorder.entries
      → IsClosing kept told answers l ends clerks keep old new found closed
  closing_settled r tallies arrivals commands settled accounts faults audit output =
      let same = settled.ends_joined.recorder_is in
      let was : LinkWasSettled l ends clerks = record {
        recorder = r;
        tallies = tallies;
        arrivals = arrivals;
        commands = commands;
        settled = settled;
        accounts = accounts;
      } in
      let P : RecorderView W → Type 0 = λ x. closed ≡ with_end found x.link.live.broken closed.audit closed.output in
      let Q : RecorderView W → Type 0 = λ x. kept keep (journal_of x) (not closed.audit) in
      let R : RecorderView W → Type 0 = λ x. IsWritten told answers old new (report x.link.live) closed.output in
      closing found (inl (was, refl)) (subst P same faults) (subst Q same audit) (subst R same output)

  -- it was not, and finished as it came back
  pub closing_unsettled : (why : WhyUnsettled) (back : LockedView W) → back ≡ l → Unsettles why l ends clerks
      → closed ≡ with_end (with_want found why) back.recorder.link.live.broken closed.audit closed.output
      → kept keep (journal_of back.recorder) (not closed.audit)
      → IsWritten told answers old new (report back.recorder.link.live) closed.output
      → l.recorder.link.live.version ≡ Two → IsRunNow untold l.recorder.link l.recorder.entries
      → IsClosing kept told answers l ends clerks keep old new found closed
  closing_unsettled why back same unsettles faults audit output =
      let P : LockedView W → Type 0 =
      λ x. closed ≡ with_end (with_want found why) x.recorder.link.live.broken closed.audit closed.output in
      let Q : LockedView W → Type 0 = λ x. kept keep (journal_of x.recorder) (not closed.audit) in
      let R : LockedView W → Type 0 =
      λ x. IsWritten told answers old new (report x.recorder.link.live) closed.output in
      closing (with_want found why) (inr (why, unsettles, refl)) (subst P same faults) (subst Q same audit)
      (subst R same output)
