-- A run of the program, put together from a run of its script and the line of the bytes that were written.
use Rattle.std.proofs.Common.{◌≡◌, ℕ, List, [], ◌++◌, take, drop, Option, None, Some, IfSome, refl, sym, ap, ◌∙◌, subst}
use Rattle.std.specs.Prelude.{Result, Err}
use Rattle.std.specs.Result.{IsErrAnd}
use mathlib.Core.List.{append_assoc}
use Rattle.std.specs.Io.KnownBytes.{Appends}
use Rattle.std.proofs.lemmas.List.{take-append-drop}
use Rattle.share_model.specs.declared.rates.Rate.{Rate}
use Rattle.share_model.specs.link.Live.{Live}
use Rattle.share_model.specs.run.Fold.{out}
use Rattle.share_model.specs.link.View.{LinkView}
use Rattle.share_model.specs.io.Told.{Told, TapeAnswers}
use Rattle.share_model.proofs.lemmas.text.EventLemmas.{after-state}
use Rattle.share_model.specs.text.Talk.{start_of_script, talk, after, lines_of}
use Rattle.share_model.specs.io.Printing.{AppendsPart}
use Rattle.share_text.specs.Printing.{out_line}
use Rattle.share_model.specs.declared.reader.Got.{Got}
use Rattle.share_model.specs.declared.writer.Answer.{Answer}
use Rattle.share_script.specs.declared.script.ScriptFault.{ScriptFault}
use Rattle.share_script.specs.Script.{IsOneFold, PrintedPart, FoundNone}
use Rattle.share_runs.specs.Printout.{printout, PrintedRun, PrintedRunPart}
use Rattle.std.proofs.KnownBytes.{Appends-nil, Appends-trans, Consumes-nil}

-- nothing was printed
pub ran_nothing : (known a : Option (List ℕ)) (life : ℕ) (rates : List Rate)
    → IfSome known (λ script. PrintedRunPart a a life rates script known)
ran_nothing None a life rates = tt
ran_nothing (Some script) a life rates =
    record {
      read = [];
      reads = Consumes-nil (Some script);
      lacks = [];
      text = [];
      rest = printout life rates [] [];
      printed = Appends-nil a;
      begins =
          refl;
    }

-- a link of this life and over these tariffs
pub record IsOver (life : ℕ) (rates : List Rate) (e : LinkView Told) : Type 0 where
  pub life_is : e.life ≡ life
  pub rates_are : e.rates ≡ rates

pub over_new : (life : ℕ) (rates : List Rate) (live : Live) (writer : Told) (e : LinkView Told) → e
    ≡ record { life = life; rates = rates; live = live; writer = writer } → IsOver life rates e
over_new life rates live writer e is =
    record { life_is = ap (λ (s : LinkView Told). s.life) is; rates_are = ap (λ (s : LinkView Told). s.rates) is }

-- the script was not run to its end
part_of : (a b : Option (List ℕ)) (e : LinkView Told) (script : List ℕ) (left : Option (List ℕ))
    → PrintedPart a b e script left → PrintedRunPart a b e.life e.rates script left
part_of a b e script left part =
    let line = out_line (out (after e.life e.rates start_of_script part.lacks (lines_of part.read)).state) in
    record {
      read = part.read;
      reads = part.reads;
      lacks = part.lacks;
      text = part.text;
      rest = part.rest
          ++ line;
      printed = part.printed;
      begins = ap (λ t. t ++ line) part.begins
          ∙ append_assoc part.text part.rest line;
    }

pub ran_part : (known left a b : Option (List ℕ)) (life : ℕ) (rates : List Rate) (e : LinkView Told)
    → IsOver life rates e
    → IfSome known (λ script. PrintedPart a b e script left)
    → IfSome known (λ script. PrintedRunPart a b life rates script left)
ran_part None left a b life rates e over part = tt
ran_part (Some script) left a b life rates e over part =
    subst (λ l. PrintedRunPart a b l rates script left) over.life_is
    (subst (λ rs. PrintedRunPart a b e.life rs script left) over.rates_are (part_of a b e script left part))

-- the tape holds the bytes of what the script came to
bytes_of : (a b : Option (List ℕ)) (e new : LinkView Told) (script : List ℕ) (left : Option (List ℕ))
    (whole : IsOneFold a b e script left new)
    → new.writer.bytes ≡ out (after e.life e.rates start_of_script whole.lacks (lines_of script)).state
bytes_of a b e new script left whole =
    whole.keeps.bytes ∙ ap out (sym (after-state e.life e.rates whole.lacks (lines_of script)))

-- the script was, and the line of the bytes was not printed whole
most_of : (a b c : Option (List ℕ)) (e new : LinkView Told) (script : List ℕ) (left : Option (List ℕ))
    → IsOneFold a b e script left new → AppendsPart b c (out_line new.writer.bytes)
    → PrintedRunPart a c e.life e.rates script left
most_of a b c e new script left whole part =
    let answers = talk e.life e.rates start_of_script whole.lacks (lines_of script) in
    let line = out_line new.writer.bytes in
    record {
      read = script;
      reads = whole.reads;
      lacks = whole.lacks;
      text = answers ++ take part.0 line;
      rest = drop part.0 line;
      printed = Appends-trans a b c answers (take part.0 line) whole.text part.1;
      begins = ap (λ bs. answers ++ out_line bs) (sym (bytes_of a b e new script left whole))
          ∙ ap (λ l. answers ++ l) (sym (take-append-drop part.0 line))
          ∙ sym (append_assoc answers (take part.0 line) (drop part.0 line));
    }

pub ran_most : (known left a b c : Option (List ℕ)) (life : ℕ) (rates : List Rate) (e new : LinkView Told)
    (bytes : List ℕ) → IsOver life rates e → bytes ≡ new.writer.bytes
    → IfSome known (λ script. IsOneFold a b e script left new)
    → AppendsPart b c (out_line bytes) → IfSome known (λ script. PrintedRunPart a c life rates script left)
ran_most None left a b c life rates e new bytes over is whole part = tt
ran_most (Some script) left a b c life rates e new bytes over is whole part =
    let here = most_of a b c e new script left whole (subst (λ bs. AppendsPart b c (out_line bs)) is part) in
    subst (λ l. PrintedRunPart a c l rates script left) over.life_is
    (subst (λ rs. PrintedRunPart a c e.life rs script left) over.rates_are here)

-- the whole text was printed
whole_of : (a b c : Option (List ℕ)) (e new : LinkView Told) (script : List ℕ) (left : Option (List ℕ))
    → IsOneFold a b e script left new → Appends b c (out_line new.writer.bytes) → PrintedRun a c e.life e.rates script
whole_of a b c e new script left whole line =
    let answers = talk e.life e.rates start_of_script whole.lacks (lines_of script) in
    record {
      lacks = whole.lacks;
      printed =
          subst (λ bs. Appends a c (answers ++ out_line bs)) (bytes_of a b e new script left whole)
          (Appends-trans a b c answers (out_line new.writer.bytes) whole.text line);
    }

pub ran_whole : (known left a b c : Option (List ℕ)) (life : ℕ) (rates : List Rate) (e new : LinkView Told)
    (bytes : List ℕ) → IsOver life rates e → bytes ≡ new.writer.bytes
    → IfSome known (λ script. IsOneFold a b e script left new)
    → Appends b c (out_line bytes) → IfSome known (λ script. PrintedRun a c life rates script)
ran_whole None left a b c life rates e new bytes over is whole line = tt
ran_whole (Some script) left a b c life rates e new bytes over is whole line =
    let here = whole_of a b c e new script left whole (subst (λ bs. Appends b c (out_line bs)) is line) in
    subst (λ l. PrintedRun a c l rates script) over.life_is
    (subst (λ rs. PrintedRun a c e.life rs script) over.rates_are here)

-- the fault of a run is that of the call that stopped it
pub told_fault : {X : Type 0} {r : Result X ScriptFault} {fault other : ScriptFault} → r ≡ Err other
    → IsErrAnd r (λ y. y ≡ fault) → fault ≡ other
told_fault {fault = fault} is told = sym (subst (λ x. IsErrAnd x (λ y. y ≡ fault)) is told)

-- no memory was found by a run of a new link
pub found_none : {R O : Type 0} (gives : R → List ℕ → Got → R → Type 0) (most : ℕ) (i j : R)
    (accepts : O → List ℕ → Answer → O → Type 0) (a b : O) (writer empty : Told) → writer ≡ empty
    → FoundNone gives most i j TapeAnswers writer accepts a b → FoundNone gives most i j TapeAnswers empty accepts a b
found_none gives most i j accepts a b writer empty is none =
    let P : Told → Type 0 = λ x. FoundNone gives most i j TapeAnswers x accepts a b in
    subst P is none
