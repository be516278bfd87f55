-- The outcome of a run of a script.
use Rattle.std.specs.Prelude.{◌≡◌, ◌≢◌, ◌⊎◌, ℕ, Bool, true, false, List, [], ◌∷◌, ◌++◌, filter, nat_lt, Option, Some}
use Rattle.std.specs.Prelude.{Result, MatchResult}
use Rattle.std.specs.List.{All}
use Rattle.std.specs.Io.KnownBytes.{Appends, Consumes}
use Rattle.share_base.specs.declared.command.Turn.{Turn}
use Rattle.share_base.specs.declared.command.Turn.TheVariants.{Torn}
use Rattle.share_model.specs.declared.rates.Rate.{Rate}
use Rattle.share_model.specs.declared.reader.Got.{Got}
use Rattle.share_model.specs.declared.writer.Answer.{Answer}
use Rattle.share_model.specs.run.Fold.{empty_state, outcomes, out}
use Rattle.share_model.specs.link.View.{LinkView}
use Rattle.share_model.specs.io.Told.{Told}
use Rattle.share_model.specs.io.Calls.{HasRead, Offers, OfferRefused, Called, CallFailed}
use Rattle.share_model.specs.Promise.{Promise}
use Rattle.share_model.specs.text.Events.{made_of, events_of, texts_of}
use Rattle.share_model.specs.text.Talk.{Progress, start_of_script, version_of_script, talk, after, is_feed, lines_of}
use Rattle.share_model.specs.text.Answering.{AnswersBytes}
use Rattle.share_script.specs.Printing.{Spooled, SpooledPart}
use Rattle.share_script.specs.Session.{SessionView, HoldsScript}
use Rattle.share_script.specs.declared.script.ScriptFault.{ScriptFault}
use Rattle.share_script.specs.declared.script.ScriptFault.TheVariants.{Input, Output, NoMemory}

-- The whole run

-- the whole script was read, and the whole text printed. The link holds what it holds after the lines, and its tape
-- their bytes and writes
pub record Printed (before after_it : Option (List ℕ)) (old : LinkView Told) (script : List ℕ) (left : Option (List ℕ))
    (new : LinkView Told) : Type 0 where
  pub reads : Consumes (Some script) left script
  -- the lines that found no memory
  pub lacks : List Bool
  pub text : Appends before after_it (talk old.life old.rates start_of_script lacks (lines_of script))
  pub live : new.live ≡ (after old.life old.rates start_of_script lacks (lines_of script)).state.live
  pub bytes : new.writer.bytes ≡ out (after old.life old.rates start_of_script lacks (lines_of script)).state
  pub counts : filter (nat_lt 0) new.writer.counts
      ≡ (after old.life old.rates start_of_script lacks (lines_of script)).writes
  pub life : new.life ≡ old.life
  pub rates : new.rates ≡ old.rates

-- the whole script was read, and the answers to its lines were printed. They are the texts of the outcomes of the
-- events that the lines make, and each text without an event in its place. Of these events, on frames of the version
-- that the first line chooses, the link and its tape keep the promise of this project
pub record IsOneFold (before after_it : Option (List ℕ)) (old : LinkView Told) (script : List ℕ)
    (left : Option (List ℕ))
    (new : LinkView Told) : Type 0 where
  pub reads : Consumes (Some script) left script
  -- the lines that found no memory
  pub lacks : List Bool
  pub text : Appends before after_it (talk old.life old.rates start_of_script lacks (lines_of script))
  pub texts : talk old.life old.rates start_of_script lacks (lines_of script)
      ≡ texts_of (made_of old.life old.rates start_of_script lacks (lines_of script))
      (outcomes old.rates (empty_state (version_of_script (lines_of script)))
      (events_of old.life old.rates start_of_script lacks (lines_of script)))
  pub keeps : Promise (version_of_script (lines_of script)) old.life old.rates
      (events_of old.life old.rates start_of_script lacks (lines_of script))
      (outcomes old.rates (empty_state (version_of_script (lines_of script)))
      (events_of old.life old.rates start_of_script lacks (lines_of script))) new.live (Some new.writer)
  pub life : new.life ≡ old.life
  pub rates : new.rates ≡ old.rates

-- some of the script was read, and of the answers to the lines of that a beginning was printed
pub record PrintedPart (before after_it : Option (List ℕ)) (old : LinkView Told) (script : List ℕ)
    (left : Option (List ℕ)) : Type 0 where
  pub read : List ℕ
  pub reads : Consumes (Some script) left read
  pub lacks : List Bool
  pub text : List ℕ
  pub rest : List ℕ
  pub printed : Appends before after_it text
  pub begins : talk old.life old.rates start_of_script lacks (lines_of read) ≡ text ++ rest

-- Why a run ended before its time

-- every call of the engine's writer was answered, and every offer of a text accepted
pub record Wrote {W O : Type 0} (answers : W → List ℕ → Answer → W → Type 0)
    (accepts : O → List ℕ → Answer → O → Type 0)
    (writer now : W) (output last : O) : Type 0 where
  pub called : Called answers writer now
  pub offers : Offers accepts output last

-- the output refused an offer; or the engine's writer failed one
abbrev pub IsStop : {W O : Type 0} → (W → List ℕ → Answer → W → Type 0) → W → W
    → (O → List ℕ → Answer → O → Type 0) → O → O → ScriptFault → Type 0
IsStop answers writer now accepts output last Input = ⊥
IsStop answers writer now accepts output last Output = OfferRefused accepts output last
IsStop answers writer now accepts output last NoMemory = CallFailed answers writer now × Offers accepts output last

-- every call was answered, or one stopped the run
abbrev pub MakesCalls : {W O X : Type 0} → (W → List ℕ → Answer → W → Type 0) → (O → List ℕ → Answer → O → Type 0)
    → W → W → O → O → Result X ScriptFault → Type 0
MakesCalls answers accepts writer now output last result = MatchResult result
    (λ _. Wrote answers accepts writer now output last) (λ fault. IsStop answers writer now accepts output last fault)

-- no memory was found before anything was read or printed; or the engine's writer failed an offer in the run
pub data FoundNone {R W O : Type 0} (gives : R → List ℕ → Got → R → Type 0) (most : ℕ) (input rest : R)
    (answers : W → List ℕ → Answer → W → Type 0) (writer : W) (accepts : O → List ℕ → Answer → O → Type 0)
    (output last : O) : Type 0 where
  at_first : rest ≡ input → last ≡ output → FoundNone gives most input rest answers writer accepts output last
  by_writer : (now : W) → HasRead gives most input rest → CallFailed answers writer now → Offers accepts output last
      → FoundNone gives most input rest answers writer accepts output last

-- Parts of a run

abbrev pub NoFeed : List ℕ → Type 0
NoFeed bs = All (λ b. is_feed b ≡ false) bs

-- for the flags of the lines after, there are flags of all lines, so that these print the text and lead on
pub record Went (life : ℕ) (rates : List Rate) (p : Progress) (ls : List (List ℕ)) (text : List ℕ) (q : Progress)
    (ms : List (List ℕ)) (lacks : List Bool) : Type 0 where
  pub more : List Bool
  pub texts : talk life rates p more ls ≡ text ++ talk life rates q lacks ms
  pub states : after life rates p more ls ≡ after life rates q lacks ms

-- after the unfinished line, the chunk prints the text and leads on to an unfinished line, whatever follows
abbrev pub Goes : ℕ → List Rate → Progress → List ℕ → List ℕ → List ℕ → Progress → List ℕ → Type 0
Goes life rates p line chunk text q left =
    (rest : List ℕ) (lacks : List Bool)
    → Went life rates p (lines_of (line ++ (chunk ++ rest))) text q (lines_of (left ++ rest)) lacks

-- the text is a beginning of what the lines print
pub record IsTextBeginning (life : ℕ) (rates : List Rate) (p : Progress) (ls : List (List ℕ)) (text : List ℕ) : Type 0
  where
    pub lacks : List Bool
    pub tail : List ℕ
    pub texts : talk life rates p lacks ls ≡ text ++ tail

-- the text is a beginning of what the chunk prints, whatever follows
abbrev pub Broke : ℕ → List Rate → Progress → List ℕ → List ℕ → List ℕ → Type 0
Broke life rates p line chunk text =
    (rest : List ℕ) → IsTextBeginning life rates p (lines_of (line ++ (chunk ++ rest))) text

-- a script in progress went on by the chunk, and its link with it
pub record WentOn {W : Type 0} (told : W → Option Told) (old : SessionView W) (p : Progress) (line chunk text : List ℕ)
    (new : SessionView W) (left : List ℕ) : Type 0 where
  pub progress : Progress
  pub stands : HoldsScript told new progress
  pub goes : Goes old.link.life old.link.rates p line chunk text progress left
  pub clean : NoFeed left
  pub life : new.link.life ≡ old.link.life
  pub rates : new.link.rates ≡ old.link.rates

-- the chunk was read and its answers printed, for any script in progress on the link
pub record Feeds {W : Type 0} (told : W → Option Told) (a : Option (List ℕ)) (waited : List ℕ) (b : Option (List ℕ))
    (waits : List ℕ) (old : SessionView W) (line chunk : List ℕ) (new : SessionView W) (left : List ℕ) : Type 0 where
  pub text : List ℕ
  pub spooled : Spooled a waited b waits text
  pub went : (p : Progress) → HoldsScript told old p → NoFeed line → WentOn told old p line chunk text new left

-- no more was printed than a beginning of the answers
pub record FeedsPart {W : Type 0} (told : W → Option Told) (a : Option (List ℕ)) (waited : List ℕ)
    (b : Option (List ℕ)) (old : SessionView W) (line chunk : List ℕ) : Type 0 where
  pub text : List ℕ
  pub spooled : SpooledPart a waited b text
  pub broke : (p : Progress) → HoldsScript told old p → NoFeed line
      → Broke old.link.life old.link.rates p line chunk text

-- a line was answered and its answer printed
pub record PrintedAnswer {W : Type 0} (told : W → Option Told) (a : Option (List ℕ)) (waited : List ℕ)
    (b : Option (List ℕ))
    (waits : List ℕ) (old : SessionView W) (line : List ℕ) (new : SessionView W) : Type 0 where
  pub text : List ℕ
  pub spooled : Spooled a waited b waits text
  pub says : AnswersBytes told old.link old.first line text new.link
  pub later : new.first ≡ false

-- no more was printed than a beginning of the answer
pub record PrintedAnswerPart {W : Type 0} (told : W → Option Told) (a : Option (List ℕ)) (waited : List ℕ)
    (b : Option (List ℕ)) (old : SessionView W) (line : List ℕ) : Type 0 where
  pub text : List ℕ
  pub spooled : SpooledPart a waited b text
  pub begins : (p : Progress) → HoldsScript told old p → (ls : List (List ℕ))
      → IsTextBeginning old.link.life old.link.rates p (line ∷ ls) text

-- the bytes after the last line feed were answered as a line, if there were any
abbrev pub FinishesScript : {W : Type 0} → (W → Option Told) → Option (List ℕ) → Option (List ℕ) → SessionView W
    → List ℕ → SessionView W
    → Type 0
FinishesScript told a b old left new =
    ((left ≡ []) × (b ≡ a) × (new ≡ old)) ⊎ ((left ≢ []) × PrintedAnswer told a [] b [] old left new)

abbrev pub FinishesScriptPart : {W : Type 0} → (W → Option Told) → Option (List ℕ) → Option (List ℕ) → SessionView W
    → List ℕ → Type 0
FinishesScriptPart told a b old left = (left ≢ []) × PrintedAnswerPart told a [] b old left

-- the whole script was read and fed, and left an unfinished line
pub record FedWhole {W : Type 0} (told : W → Option Told) (a b : Option (List ℕ)) (old : SessionView W)
    (script : List ℕ)
    (left : Option (List ℕ)) (new : SessionView W) (line : List ℕ) : Type 0 where
  pub reads : Consumes (Some script) left script
  pub fed : Feeds told a [] b [] old [] script new line

-- some of the script was read, and no more was printed than a beginning of the answers to that
pub record FedPart {W : Type 0} (told : W → Option Told) (a b : Option (List ℕ)) (old : SessionView W) (script : List ℕ)
    (left : Option (List ℕ)) : Type 0 where
  pub read : List ℕ
  pub reads : Consumes (Some script) left read
  pub fed : FeedsPart told a [] b old [] read

-- the bytes that were read so far were fed, and left an unfinished line
pub record Running {W : Type 0} (told : W → Option Told) (given left a b : Option (List ℕ)) (old new : SessionView W)
    (line : List ℕ) : Type 0 where
  pub done : List ℕ
  pub reads : Consumes given left done
  pub fed : Feeds told a [] b [] old [] done new line

abbrev pub is_torn : Turn → Bool
is_torn (Torn flow seq j) = true
is_torn _ = false
