-- The outcome of settling a link.
use Rattle.std.specs.Prelude.{◌≡◌, ℕ, Bool, true, false, MatchBool, List, length, count_by}
use Rattle.std.proofs.Common.{refl, sym, ap, ◌∙◌, subst, inr}
use Rattle.share_model.specs.lists.Each.{Each}
use Rattle.share_model.proofs.lemmas.lists.FirstItemLemmas.{each_map}
use Rattle.share_ingress.specs.Ends.{EndView, IntakeView}
use Rattle.share_ingress.specs.Gathers.{Gathered, RefusesToGather, IsWhole}
use Rattle.share_ingress.specs.declared.ends.gather.WhyNot.{WhyNot}
use Rattle.share_ingress.specs.declared.ends.gather.WhyNot.TheVariants.{Mismatch, LeftOver, NoMemory}
use Rattle.share_journal.specs.Arrivals.{arrivals}
use Rattle.share_journal.specs.Records.{RecorderView}
use Rattle.share_locked.proofs.ReceiptLemmas.{agreed_stand, agreed_ascend}
use Rattle.share_locked.proofs.ArrivalCountLemmas.{arrivals_count}
use Rattle.share_locked.proofs.CallLemmas.{stands}
use Rattle.share_locked.specs.Receipts.{Agrees, StandsInJournal, Ascend, is_arrival, commands_in}
use Rattle.share_locked.specs.Settles.{is_unsent, AreAgreed, Disagreed, IsJoined, IsSettled, Unsettles, why_of}
use Rattle.share_locked.specs.Views.{LockedView, ClerkView}
use Rattle.share_locked.specs.declared.locked.settling.WhyUnsettled.{WhyUnsettled}

pub joined_of : {W : Type 0} (recorder : RecorderView W) (i : IntakeView) (clerks : ℕ) (ends : List EndView)
    (after : IntakeView) (tallies : List ℕ) (arrived commands : ℕ) → arrivals recorder.entries ≡ i.popped
    → Gathered i ends after tallies → arrived ≡ count_by is_arrival recorder.entries
    → commands ≡ commands_in recorder.entries
    → IsJoined (stands recorder i clerks) ends recorder tallies arrived commands
joined_of recorder i clerks ends after tallies arrived commands popped gathered arrived_is commands_are =
    let count : arrived ≡ length (arrivals recorder.entries) = arrived_is ∙ sym (arrivals_count recorder.entries) in
    record {
      recorder_is = refl;
      joined = after;
      gathered = gathered;
      whole = subst (λ os. Each (IsWhole os) ends) (sym popped) gathered.whole;
      arrived_is = count;
      total = gathered.total ∙ ap (λ os. length os) (sym popped) ∙ sym count;
      commands_are = commands_are;
    }

pub agreed_of : {W : Type 0} (l : LockedView W) (clerks slice : List ClerkView) (t : Bool) → t ≡ true
    → slice ≡ clerks → MatchBool t (AreAgreed l slice) (Disagreed l slice) → AreAgreed l clerks
agreed_of l clerks slice true passed same agrees = subst (AreAgreed l) same agrees
agreed_of l clerks slice false passed same agrees = absurd (cc)

pub settled_of : {W : Type 0} (l : LockedView W) (ends : List EndView) (clerks : List ClerkView)
    (recorder : RecorderView W) (tallies : List ℕ) (arrived commands : ℕ) → is_unsent l.recorder.link ≡ false
    → AreAgreed l clerks → IsJoined l ends recorder tallies arrived commands
    → IsSettled l ends clerks recorder tallies arrived commands
settled_of l ends clerks recorder tallies arrived commands sent agreed joined = record {
  sent = sent;
  agreed = agreed;
  stand = each_map (Agrees l.recorder.entries)
      (λ (c : ClerkView). Each (StandsInJournal l.recorder.entries c.number) c.receipts)
      (agreed_stand l.recorder.entries) clerks agreed.agreed;
  ascend = each_map (Agrees l.recorder.entries) (λ (c : ClerkView). Ascend 0 c.receipts)
      (agreed_ascend l.recorder.entries) clerks agreed.agreed;
  ends_joined = joined;
}

pub unsettles_of : {W : Type 0} (l : LockedView W) (ends : List EndView) (clerks : List ClerkView) (why : WhyNot)
    (told : WhyUnsettled) → told ≡ why_of why → is_unsent l.recorder.link ≡ false → AreAgreed l clerks
    → RefusesToGather why l.intake ends → Unsettles told l ends clerks
unsettles_of l ends clerks why told is sent agreed refuses =
    subst (λ (w : WhyUnsettled). Unsettles w l ends clerks) (sym is) (by why refuses)
  where
    by : (why : WhyNot) → RefusesToGather why l.intake ends → Unsettles (why_of why) l ends clerks
    by Mismatch refuses = (sent, inr (agreed, refuses))
    by LeftOver refuses = (sent, agreed, refuses.0, refuses.1)
    by NoMemory refuses = (sent, agreed, refuses.0, refuses.1)
