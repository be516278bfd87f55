-- The calls of a run follow one another, up to what stopped it.
use Rattle.std.specs.Prelude.{◌≡◌, ℕ, true, List, Result, Err}
use Rattle.std.specs.Result.{IsErrAnd}
use Rattle.std.proofs.Common.{sym, subst}
use Rattle.share_model.specs.declared.reader.Got.{Got}
use Rattle.share_model.specs.declared.writer.Answer.{Answer}
use Rattle.share_model.specs.io.Calls.{ReadFails, HasRead, Offers, no_offers, OfferRefused, CallFailed, no_call}
use Rattle.share_model.proofs.lemmas.io.CallLemmas.{offers_more, refused_later, called_more, call_failed_later}
use Rattle.share_model.specs.link.View.{LinkView}
use Rattle.share_script.specs.Session.{SessionView}
use Rattle.share_script.specs.Script.{Wrote, IsStop, FoundNone}
use Rattle.share_script.specs.declared.script.ScriptFault.{ScriptFault}
use Rattle.share_script.specs.declared.script.ScriptFault.TheVariants.{Input, Output, NoMemory}

pub wrote_none : {W O : Type 0} (answers : W → List ℕ → Answer → W → Type 0)
    (accepts : O → List ℕ → Answer → O → Type 0)
    (w : W) (o : O) → Wrote answers accepts w w o o
wrote_none answers accepts w o = record { called = no_call; offers = no_offers }

module _ {W O : Type 0} {answers : W → List ℕ → Answer → W → Type 0} {accepts : O → List ℕ → Answer → O → Type 0} where
  pub wrote_more : {u v w : W} {a b c : O} → Wrote answers accepts u v a b → Wrote answers accepts v w b c
      → Wrote answers accepts u w a c
  wrote_more f g = record { called = called_more f.called g.called; offers = offers_more f.offers g.offers }

  -- the output accepted more
  pub wrote_offers : {u v : W} {a b c : O} → Wrote answers accepts u v a b → Offers accepts b c
      → Wrote answers accepts u v a c
  wrote_offers f offers = record { called = f.called; offers = offers_more f.offers offers }

-- The reason that stopped a run

pub stop_later : {W O : Type 0} (answers : W → List ℕ → Answer → W → Type 0)
    (accepts : O → List ℕ → Answer → O → Type 0)
    (u v w : W) (a b c : O) (fault : ScriptFault) → Wrote answers accepts u v a b
    → IsStop answers v w accepts b c fault → IsStop answers u w accepts a c fault
stop_later answers accepts u v w a b c Input f stop = stop
stop_later answers accepts u v w a b c Output f stop = refused_later f.offers stop
stop_later answers accepts u v w a b c NoMemory f stop =
    (call_failed_later f.called stop.0, offers_more f.offers stop.1)

-- the output refused an offer
pub stop_refused : {W O : Type 0} (answers : W → List ℕ → Answer → W → Type 0)
    (accepts : O → List ℕ → Answer → O → Type 0)
    (u v : W) (a b c : O) (fault : ScriptFault) → fault ≡ Output → Wrote answers accepts u v a b
    → OfferRefused accepts b c
    → IsStop answers u v accepts a c fault
stop_refused answers accepts u v a b c fault is f refused =
    subst (λ x. IsStop answers u v accepts a c x) (sym is) (refused_later f.offers refused)

-- the fault of a run is that of the call that stopped it
pub told_fault : {X : Type 0} {r : Result X ScriptFault} {fault other : ScriptFault} → r ≡ Err other
    → IsErrAnd r (λ y. y ≡ fault) → fault ≡ other
told_fault {fault = fault} is told = sym (subst (λ x. IsErrAnd x (λ y. y ≡ fault)) is told)

-- a read failed, or as many were made as a run may make; or another reason stops a run, at most as many reads later
abbrev pub IsReadingStop : {R W O : Type 0} → (R → List ℕ → Got → R → Type 0) → ℕ → R → R
    → (W → List ℕ → Answer → W → Type 0) → W → W → (O → List ℕ → Answer → O → Type 0) → O → O → ScriptFault → Type 0
IsReadingStop gives most input rest answers writer now accepts output last Input =
    ReadFails gives most input rest × Offers accepts output last
IsReadingStop gives most input rest answers writer now accepts output last Output =
    HasRead gives most input rest × OfferRefused accepts output last
IsReadingStop gives most input rest answers writer now accepts output last NoMemory =
    HasRead gives most input rest × CallFailed answers writer now × Offers accepts output last

module _ {R W O : Type 0} (gives : R → List ℕ → Got → R → Type 0) (most : ℕ) (i j : R)
    (answers : W → List ℕ → Answer → W → Type 0) (accepts : O → List ℕ → Answer → O → Type 0) where
  -- a run stopped after this many reads
  pub stopped : (u v w : W) (a b c : O) (fault : ScriptFault) → HasRead gives most i j → Wrote answers accepts u v a b
      → IsStop answers v w accepts b c fault → IsReadingStop gives most i j answers u w accepts a c fault
  stopped u v w a b c Input read f stop = absurd stop
  stopped u v w a b c Output read f stop = (read, refused_later f.offers stop)
  stopped u v w a b c NoMemory read f stop = (read, call_failed_later f.called stop.0, offers_more f.offers stop.1)

  -- a fact of the fault of a call is one of the fault of the run
  pub stopped_as : {X : Type 0} {r : Result X ScriptFault} (u w : W) (a c : O)
      (fault other : ScriptFault) → r ≡ Err other → IsErrAnd r (λ y. y ≡ fault)
      → IsReadingStop gives most i j answers u w accepts a c fault
      → IsReadingStop gives most i j answers u w accepts a c other
  stopped_as u w a c fault other is told stop =
      let P : ScriptFault → Type 0 = λ x. IsReadingStop gives most i j answers u w accepts a c x in
      subst P (told_fault is told) stop

  pub memory_first : (link : LinkView W) (old : SessionView W) (a c : O) → old ≡ record { link = link; first = true }
      → FoundNone gives most i j answers old.link.writer accepts a c
      → FoundNone gives most i j answers link.writer accepts a c
  memory_first link old a c is none =
      let P : SessionView W → Type 0 = λ x. FoundNone gives most i j answers x.link.writer accepts a c in
      subst P is none
