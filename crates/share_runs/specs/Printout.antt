-- The output of the program: the answers to the lines of its script, and the line of the bytes that were written.
use Rattle.std.specs.Prelude.{◌≡◌, ℕ, Bool, List, [], ◌∷◌, ◌++◌, Option, Some}
use Rattle.std.specs.Io.KnownBytes.{Appends, Consumes}
use Rattle.share_model.specs.declared.rates.Rate.{Rate}
use Rattle.share_model.specs.run.Fold.{out}
use Rattle.share_model.specs.text.Talk.{start_of_script, talk, after, lines_of}
use Rattle.share_text.specs.Printing.{out_line}

-- the text of a whole run, in which these lines found no memory
abbrev pub printout : ℕ → List Rate → List Bool → List ℕ → List ℕ
printout life rates lacks script =
    talk life rates start_of_script lacks (lines_of script)
    ++ out_line (out (after life rates start_of_script lacks (lines_of script)).state)

-- the whole text was printed
pub record PrintedRun (before after_it : Option (List ℕ)) (life : ℕ) (rates : List Rate) (script : List ℕ) : Type 0
  where
    pub lacks : List Bool
    pub printed : Appends before after_it (printout life rates lacks script)

-- a beginning of the script was read, and a beginning of its text was printed
pub record PrintedRunPart (before after_it : Option (List ℕ)) (life : ℕ) (rates : List Rate) (script : List ℕ)
    (left : Option (List ℕ)) : Type 0 where
  pub read : List ℕ
  pub reads : Consumes (Some script) left read
  pub lacks : List Bool
  pub text : List ℕ
  pub rest : List ℕ
  pub printed : Appends before after_it text
  pub begins : printout life rates lacks read ≡ text ++ rest

-- a beginning of the text was printed, the answers up to the first refusal without its line feed, and then a line feed
pub record PrintedToRefusal (before after_it : Option (List ℕ)) (life : ℕ) (rates : List Rate) (script : List ℕ)
    (left : Option (List ℕ)) : Type 0 where
  pub at_refusal : Option (List ℕ)
  pub part : PrintedRunPart before at_refusal life rates script left
  pub ends : Appends at_refusal after_it (10 ∷ [])
