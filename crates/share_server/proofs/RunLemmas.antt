-- The outcome of a run.
use Rattle.std.proofs.Common.{◌≡◌, ◌||◌, ◌∙◌, Bool, true, false, not, refl, sym, ap, subst, true≢false, inl, inr}
use Rattle.std.proofs.Common.{ℕ, List, Option, Result, Ok, Err}
use Rattle.std.specs.Prelude.{OnOk, ◌⊎◌}
use Rattle.share_ingress.specs.Ends.{EndView}
use Rattle.share_journal.specs.Entries.{JournalView}
use Rattle.share_locked.specs.Views.{LockedView, ClerkView}
use Rattle.share_locked.specs.declared.locked.settling.WhyUnsettled.{WhyUnsettled}
use Rattle.share_locked.specs.declared.locked.settling.WhyUnsettled.TheVariants.{Unsent, Mismatch, LeftOver, NoMemory}
use Rattle.share_model.specs.declared.writer.Answer.{Answer}
use Rattle.share_model.specs.io.Told.{Told}
use Rattle.share_model.specs.text.Report.{report}
use Rattle.share_served.specs.Faults.{no_fault, bare}
use Rattle.share_served.specs.Shutdown.{journal_of, with_want, is_unsettled, IsWritten, LinkWasSettled, Settling}
use Rattle.share_served.specs.Shutdown.{IsRunClosed, WasServed, HasNotBegun}
use Rattle.share_served.specs.declared.faults.FoundFaults.{FoundFaults}
use Rattle.share_served.specs.declared.faults.RunFault.{RunFault}
use Rattle.share_served.specs.declared.faults.ServeFault.TheVariants.{NoMemory as NoMemoryFault}

or_right : (a b : Bool) → b ≡ true → (a || b) ≡ true
or_right true b is = refl
or_right false b is = is

-- a want is among the faults
want_told : (f : FoundFaults) (why : WhyUnsettled) → is_unsettled (with_want f why) ≡ true
want_told f Unsent = refl
want_told f LeftOver = or_right f.unsent _ refl
want_told f Mismatch = or_right f.unsent _ (or_right f.left_over _ refl)
want_told f NoMemory = or_right f.unsent _ (or_right f.left_over _ (or_right f.mismatch _ refl))

-- if a reason is a fault, there is one
settled_if : {W : Type 0} (l : LockedView W) (ends : List EndView) (clerks : List ClerkView) (found known : FoundFaults)
    → Settling l ends clerks found known → is_unsettled known ≡ false → LinkWasSettled l ends clerks
settled_if l ends clerks found known (inl settled) none = settled.0
settled_if l ends clerks found known (inr (why, unsettled, is)) none =
    absurd (true≢false (sym (ap is_unsettled is ∙ want_told found why) ∙ none))

-- a link that is closed without a fault was served
pub was_served : {K O : Type 0} {kept : K → JournalView → Bool → Type 0} {told : O → Option Told}
    {answers : O → List ℕ → Answer → O → Type 0} {keep : K} {old new : O} {X : Type 0} (r : Result X RunFault)
    → IsRunClosed kept told answers keep old new r → OnOk r (WasServed kept told answers keep old new)
was_served {kept = kept} {told = told} {answers = answers} {keep = keep} {old = old} {new = new} (Ok x) run =
    let c = run.closing in
    let none : run.closed ≡ no_fault = run.result_is in
    let text = report run.locked.recorder.link.live in
    let P : Bool → Type 0 = λ b. kept keep (journal_of run.locked.recorder) (not b) in
    let Q : Bool → Type 0 = λ b. IsWritten told answers old new text b in
    record {
      locked = run.locked;
      ends = run.ends;
      clerks = run.clerks;
      settled = settled_if run.locked run.ends run.clerks run.found c.known c.settling
          (sym (ap is_unsettled c.faults) ∙ ap is_unsettled none);
      unbroken = sym (ap (λ (f : FoundFaults). f.uplink) c.faults) ∙ ap (λ (f : FoundFaults). f.uplink) none;
      version = c.version;
      run = c.run;
      audit = subst P (ap (λ (f : FoundFaults). f.audit) none) c.audit;
      output = subst Q (ap (λ (f : FoundFaults). f.output) none) c.output;
    }
was_served (Err fault) run = tt

module _ {X K O : Type 0} {kept : K → JournalView → Bool → Type 0} {told : O → Option Told}
    {answers : O → List ℕ → Answer → O → Type 0} {keep : K} {old new : O} (r : Result X RunFault) where
  pub served_if : IsRunClosed kept told answers keep old new r ⊎ ((r ≡ Err (bare NoMemoryFault)) × (new ≡ old))
      → OnOk r (WasServed kept told answers keep old new)
  served_if (inl run) = was_served r run
  served_if (inr none) = let P : Result X RunFault → Type 0 = λ x. OnOk x (WasServed kept told answers keep old new) in
      subst P (sym none.0) tt

  pub ends_so : (journal : JournalView)
      → IsRunClosed kept told answers keep old new r ⊎ ((r ≡ Err (bare NoMemoryFault)) × (new ≡ old))
      → IsRunClosed kept told answers keep old new r ⊎ HasNotBegun journal old new r
  ends_so journal (inl run) = inl run
  ends_so journal (inr none) =
      inr (record { fault = bare NoMemoryFault; result_is = none.0; why = tt; unwritten = none.1 })
