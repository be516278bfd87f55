-- A whole run consists of its reads, its chunks and the last line.
use Rattle.std.proofs.Common.{◌≡◌, ◌≢◌, ◌<◌, ◌≤◌, inl, inr, ℕ, Bool, true, List, [], ◌∷◌, ◌++◌, length, IfSome, Option}
use Rattle.std.proofs.Common.{None, Some, arith, sym, ◌∙◌, ap, subst, refl}
use mathlib.Core.List.{append_assoc}
use Rattle.std.specs.Io.KnownBytes.{Appends, Consumes, Keeps, IsAtEnd}
use Rattle.std.proofs.KnownBytes.{Consumes-trans, Consumes-nil}
use Rattle.std.proofs.lemmas.List.{append-nil}
use Rattle.share_model.specs.declared.rates.Rate.{Rate}
use Rattle.share_model.specs.io.Told.{Told}
use Rattle.share_model.specs.link.Tariff.{AreInRange}
use Rattle.share_model.specs.run.Fold.{State, out}
use Rattle.share_model.proofs.lemmas.run.PromiseLemmas.{promise}
use Rattle.share_model.specs.run.Sound.{max_life}
use Rattle.share_model.specs.text.Events.{events_of}
use Rattle.share_model.proofs.lemmas.text.EventLemmas.{after-state, after-writes, events-may_follow, talk-texts}
use Rattle.share_model.specs.text.Talk.{Progress, start_of_script, version_of_script, answer, talk, after, lines_of}
use Rattle.share_model.specs.text.Answering.{Holds}
use Rattle.share_script.specs.Printing.{SpooledPart}
use Rattle.share_script.specs.Session.{SessionView, HoldsScript}
use Rattle.share_model.specs.link.View.{LinkView}
use Rattle.share_script.specs.Script.{Printed, PrintedPart, IsOneFold, NoFeed, Went, IsTextBeginning, Feeds, FeedsPart}
use Rattle.share_script.specs.Script.{FedWhole, FedPart, FinishesScript, FinishesScriptPart, Running}
use Rattle.share_script.proofs.FeedLemmas.{fed_none, fed_more, fed_then_part, part_of}
use Rattle.share_script.proofs.WentLemmas.{went_as, begins_as, went_more, begins_more, went_line}
use Rattle.share_script.proofs.LineLemmas.{lines-end, last-some}
use Rattle.std.proofs.KnownBytes.{Appends-nil}
use Rattle.share_script.proofs.SpoolLemmas.{spooled_more, spooled_then_part, spooled_whole}

-- Reads

keeps_nothing : (a b : Option (List ℕ)) → Keeps a b → Consumes a b []
keeps_nothing None b h = tt
keeps_nothing (Some x) None h = absurd h
keeps_nothing (Some x) (Some y) h = sym h

module _ {W : Type 0} (told : W → Option Told) where
  pub running_none : (given a : Option (List ℕ)) (old : SessionView W) (line : List ℕ) → line ≡ []
      → Running told given given a a old old line
  running_none given a old line e = record {
    done = [];
    reads = Consumes-nil given;
    fed = let P : List ℕ → Type 0 = λ r. Feeds told a [] a [] old [] [] old r in
        subst P (sym e) (fed_none told a [] old []);
  }

  pub running_more : (given left next a b c : Option (List ℕ)) (old mid new : SessionView W) (line last chunk : List ℕ)
      → Running told given left a b old mid line → Consumes left next chunk
      → Feeds told b [] c [] mid line chunk new last
      → Running told given next a c old new last
  running_more given left next a b c old mid new line last chunk so read fed = record {
    done = so.done ++ chunk;
    reads = Consumes-trans given left next so.done chunk so.reads read;
    fed = fed_more told a b c [] [] [] old mid new [] line last so.done chunk so.fed fed;
  }

  pub running_kept : (given left next a b : Option (List ℕ)) (old mid : SessionView W) (line : List ℕ)
      → Running told given left a b old mid line → Keeps left next → Running told given next a b old mid line
  running_kept given left next a b old mid line so kept = record {
    done = so.done;
    reads =
        let P : List ℕ → Type 0 = λ r. Consumes given next r in
        subst P (append-nil so.done)
        (Consumes-trans given left next so.done [] so.reads (keeps_nothing left next kept));
    fed = so.fed;
  }

  -- if the reader reported its bytes, no more was printed than a beginning of the answers to what was read

  pub running_part : (given left a b : Option (List ℕ)) (old mid : SessionView W) (line : List ℕ)
      → Running told given left a b old mid line → IfSome given (λ script. FedPart told a b old script left)
  running_part None left a b old mid line so = tt
  running_part (Some script) left a b old mid line so = record {
    read = so.done;
    reads = so.reads;
    fed = part_of told a b [] [] old mid [] line so.done so.fed;
  }

  pub running_broke : (given left next a b c : Option (List ℕ)) (old mid : SessionView W) (line chunk : List ℕ)
      → Running told given left a b old mid line → Consumes left next chunk → FeedsPart told b [] c mid line chunk
      → IfSome given (λ script. FedPart told a c old script next)
  running_broke None left next a b c old mid line chunk so read broke = tt
  running_broke (Some script) left next a b c old mid line chunk so read broke = record {
    read = so.done ++ chunk;
    reads = Consumes-trans (Some script) left next so.done chunk so.reads read;
    fed = fed_then_part told a b c [] [] old mid [] line so.done chunk so.fed broke;
  }

  -- at the end of what it reported, that is the whole script
  pub running_whole : (given left next a b : Option (List ℕ)) (old mid : SessionView W) (line : List ℕ)
      → Running told given left a b old mid line → Consumes left next [] × IsAtEnd next
      → IfSome given (λ script. FedWhole told a b old script next mid line)
  running_whole None left next a b old mid line so ended = tt
  running_whole (Some script) None next a b old mid line so ended = absurd so.reads
  running_whole (Some script) (Some rest) None a b old mid line so ended = absurd ended.0
  running_whole (Some script) (Some rest) (Some last) a b old mid line so ended =
      let none : rest ≡ [] = ended.0 ∙ ended.1 in
      let all : so.done ≡ script = sym (so.reads ∙ ap (λ r. so.done ++ r) none ∙ append-nil so.done) in record {
        reads = sym (ap (λ r. script ++ r) ended.1 ∙ append-nil script);
        fed = let P : List ℕ → Type 0 = λ r. Feeds told a [] b [] old [] r mid line in subst P all so.fed;
      }

-- The end of the script

lines-last : (bs : List ℕ) → NoFeed bs → 0 < length bs → lines_of (bs ++ []) ≡ bs ∷ []
lines-last bs clean some = ap lines_of (append-nil bs) ∙ lines-end bs clean ∙ last-some bs some

some_length : (bs : List ℕ) → bs ≢ [] → 0 < length bs
some_length [] h = absurd (h refl)
some_length (b ∷ bs) h = omega arith

talk-none : (life : ℕ) (rates : List Rate) (p : Progress) (lacks : List Bool) → talk life rates p lacks [] ≡ []
unfolding talk
talk-none life rates p lacks = refl

after-none : (life : ℕ) (rates : List Rate) (p : Progress) (lacks : List Bool) → after life rates p lacks [] ≡ p
unfolding after
after-none life rates p lacks = refl

went_none : (life : ℕ) (rates : List Rate) (p : Progress) (text : List ℕ) (q : Progress) (ls : List (List ℕ))
    (w : Went life rates p ls text q [] []) → (talk life rates p w.more ls ≡ text) × (after life rates p w.more ls ≡ q)
went_none life rates p text q ls w =
    (w.texts ∙ ap (λ r. text ++ r) (talk-none life rates q []) ∙ append-nil text, w.states ∙ after-none life rates q [])

-- of the engine with a tape, at the start of its script
abbrev HoldsNone : SessionView Told → Type 0
HoldsNone old = HoldsScript Some old start_of_script

no_lines : (script : List ℕ) → lines_of ([] ++ (script ++ [])) ≡ lines_of script
no_lines script = ap lines_of (append-nil script)

no_feed : NoFeed []
no_feed k d z = absurd (omega arith)

printed_by : (a c : Option (List ℕ)) (old new : SessionView Told) (script : List ℕ) (left : Option (List ℕ))
    (text : List ℕ)
    (q : Progress) → Consumes (Some script) left script → Appends a c text
    → Holds Some new.link q → new.link.life ≡ old.link.life → new.link.rates ≡ old.link.rates
    → Went old.link.life old.link.rates start_of_script (lines_of script) text q [] []
    → Printed a c old.link script left new.link
printed_by a c old new script left text q reads appends holds life rates w =
    let e = went_none old.link.life old.link.rates start_of_script text q (lines_of script) w in
    let P : List ℕ → Type 0 = λ r. Appends a c r in record {
      reads = reads;
      lacks = w.more;
      text = subst P (sym e.0) appends;
      live = sym holds.ends.live ∙ ap (λ (x : Progress). x.state.live) (sym e.1);
      bytes = holds.tells.bytes ∙ ap (λ (x : Progress). out x.state) (sym e.1);
      counts = holds.tells.counts ∙ ap (λ (x : Progress). x.writes) (sym e.1);
      life = life;
      rates = rates;
    }

printed_all : (a b c : Option (List ℕ)) (old mid new : SessionView Told) (script : List ℕ) (rest : Option (List ℕ))
    (left : List ℕ) → HoldsNone old → Consumes (Some script) rest script
    → Feeds Some a [] b [] old [] script mid left → FinishesScript Some b c mid left new
    → Printed a c old.link script rest new.link
printed_all a b c old mid new script rest left h reads f (inl e) =
    let u = f.went start_of_script h no_feed in
    let P : List (List ℕ) → Type 0 = λ ls. Went old.link.life old.link.rates start_of_script ls f.text u.progress [] []
    in
    let Q : List ℕ
    → Type 0 =
    λ r. Went old.link.life old.link.rates start_of_script (lines_of ([] ++ (script ++ []))) f.text u.progress
    (lines_of (r ++ [])) [] in
    let R : Option (List ℕ) → Type 0 = λ r. Appends a r f.text in
    let N : SessionView Told → Type 0 = λ n. Holds Some n.link u.progress in
    printed_by a c old new script rest f.text u.progress reads (subst R (sym e.1) (spooled_whole a b f.text f.spooled))
    (subst N (sym e.2) u.stands.holds) (ap (λ (n : SessionView Told). n.link.life) e.2 ∙ u.life)
    (ap (λ (n : SessionView Told). n.link.rates) e.2 ∙ u.rates)
    (subst P (no_lines script) (subst Q e.0 (u.goes [] [])))
printed_all a b c old mid new script rest left h reads f (inr e) =
    let u = f.went start_of_script h no_feed in
    let answer_is = e.1.says u.progress u.stands.holds u.stands.place in
    let q = (answer mid.link.life mid.link.rates u.progress answer_is.lack left).0 in
    let one = went_line mid.link.life mid.link.rates u.progress answer_is.lack left e.1.text [] [] answer_is.text_is in
    let also =
    went_as old.link.life mid.link.life old.link.rates mid.link.rates u.progress (left ∷ []) e.1.text q [] [] u.life
    u.rates one in
    let V : List (List ℕ) → Type 0 = λ ls. Went old.link.life old.link.rates u.progress ls e.1.text q [] [] in
    let last = subst V (sym (lines-last left u.clean (some_length left e.0))) also in
    let P : List (List ℕ) → Type 0 = λ ls. Went old.link.life old.link.rates start_of_script ls (f.text ++ e.1.text) q
    [] [] in
    let spooled = spooled_more a b c [] [] [] f.text e.1.text f.spooled e.1.spooled in
    printed_by a c old new script rest (f.text ++ e.1.text) q reads (spooled_whole a c (f.text ++ e.1.text) spooled)
    answer_is.holds
    (answer_is.life ∙ u.life) (answer_is.rates ∙ u.rates)
    (subst P (no_lines script)
    (went_more old.link.life old.link.rates start_of_script u.progress q _ _ _ f.text e.1.text [] last
    (u.goes [] last.more)))

-- a beginning of a text that was printed is a beginning of the talk of what was read
part_by : (a c : Option (List ℕ)) (old : SessionView Told) (script : List ℕ) (left : Option (List ℕ))
    (read text : List ℕ)
    → Consumes (Some script) left read → SpooledPart a [] c text
    → IsTextBeginning old.link.life old.link.rates start_of_script (lines_of read) text
    → PrintedPart a c old.link script left
part_by a c old script left read text reads s w = record {
  read = read;
  reads = reads;
  lacks = w.lacks;
  text = s.out;
  rest = s.rest ++ w.tail;
  printed = s.appends;
  begins = w.texts ∙ ap (λ r. r ++ w.tail) s.same ∙ append_assoc s.out s.rest w.tail;
}

printed_part : (a b : Option (List ℕ)) (old : SessionView Told) (script : List ℕ) (left : Option (List ℕ))
    → HoldsNone old
    → FedPart Some a b old script left → PrintedPart a b old.link script left
printed_part a b old script left h f =
    let P : List (List ℕ) → Type 0 = λ ls. IsTextBeginning old.link.life old.link.rates start_of_script ls f.fed.text in
    part_by a b old script left f.read f.fed.text f.reads f.fed.spooled
    (subst P (no_lines f.read) (f.fed.broke start_of_script h no_feed []))

printed_but_last : (a b c : Option (List ℕ)) (old mid : SessionView Told) (script : List ℕ) (left : Option (List ℕ))
    (line : List ℕ) → HoldsNone old → FedWhole Some a b old script left mid line → FinishesScriptPart Some b c mid line
    → PrintedPart a c old.link script left
printed_but_last a b c old mid script left line h f e =
    let u = f.fed.went start_of_script h no_feed in
    let w = begins_as old.link.life mid.link.life old.link.rates mid.link.rates u.progress (line ∷ []) e.1.text u.life
    u.rates (e.1.begins u.progress u.stands []) in
    let V : List (List ℕ) → Type 0 = λ ls. IsTextBeginning old.link.life old.link.rates u.progress ls e.1.text in
    let last = subst V (sym (lines-last line u.clean (some_length line e.0))) w in
    let P : List (List ℕ) → Type 0 = λ ls. IsTextBeginning old.link.life old.link.rates start_of_script ls
    (f.fed.text ++ e.1.text) in
    part_by a c old script left script (f.fed.text ++ e.1.text) f.reads
    (spooled_then_part a b c [] [] f.fed.text e.1.text f.fed.spooled e.1.spooled)
    (subst P (no_lines script)
    (begins_more old.link.life old.link.rates start_of_script u.progress _ _ f.fed.text e.1.text last
    (u.goes [] last.lacks)))

-- The outcome of a run whose reader reported its bytes

-- nothing was read
pub run_nothing : (given a : Option (List ℕ)) (engine : LinkView Told)
    → IfSome given (λ script. PrintedPart a a engine script given)
run_nothing None a engine = tt
run_nothing (Some script) a engine = record {
  read = [];
  reads = Consumes-nil (Some script);
  lacks = [];
  text = [];
  rest = talk engine.life engine.rates start_of_script [] (lines_of []);
  printed = Appends-nil a;
  begins = refl;
}

pub run_whole : (given left a b c : Option (List ℕ)) (old mid new : SessionView Told) (line : List ℕ) → HoldsNone old
    → IfSome given (λ script. FedWhole Some a b old script left mid line) → FinishesScript Some b c mid line new
    → IfSome given (λ script. Printed a c old.link script left new.link)
run_whole None left a b c old mid new line h f e = tt
run_whole (Some script) left a b c old mid new line h f e =
    printed_all a b c old mid new script left line h f.reads f.fed e

pub run_part : (given left a b : Option (List ℕ)) (old : SessionView Told) → HoldsNone old
    → IfSome given (λ script. FedPart Some a b old script left)
    → IfSome given (λ script. PrintedPart a b old.link script left)
run_part None left a b old h f = tt
run_part (Some script) left a b old h f = printed_part a b old script left h f

pub run_last : (given left a b c : Option (List ℕ)) (old mid : SessionView Told) (line : List ℕ) → HoldsNone old
    → IfSome given (λ script. FedWhole Some a b old script left mid line) → FinishesScriptPart Some b c mid line
    → IfSome given (λ script. PrintedPart a c old.link script left)
run_last None left a b c old mid line h f e = tt
run_last (Some script) left a b c old mid line h f e = printed_but_last a b c old mid script left line h f e

-- A link of which no line was answered yet

abbrev pub fresh : LinkView Told → SessionView Told
fresh link = record { link = link; first = true }

pub stands_first : (engine : LinkView Told) (old : SessionView Told) → old ≡ fresh engine
    → Holds Some engine start_of_script
    → HoldsScript Some old start_of_script
stands_first engine old is h =
    let P : SessionView Told → Type 0 = λ x. HoldsScript Some x start_of_script in subst P (sym is)
    (record { holds = h; place = refl })

pub printed_first : (given left a c : Option (List ℕ)) (engine last : LinkView Told) (old new : SessionView Told)
    → old ≡ fresh engine → last ≡ new.link → IfSome given (λ script. Printed a c old.link script left new.link)
    → IfSome given (λ script. Printed a c engine script left last)
printed_first given left a c engine last old new is ends h =
    let P : LinkView Told → LinkView Told → Type 0 = λ x y. IfSome given (λ script. Printed a c x script left y) in
    subst (λ x. P x last) (ap (λ (x : SessionView Told). x.link) is) (subst (λ y. P old.link y) (sym ends) h)

pub part_first : (given left a c : Option (List ℕ)) (engine : LinkView Told) (old : SessionView Told)
    → old ≡ fresh engine → IfSome given (λ script. PrintedPart a c old.link script left)
    → IfSome given (λ script. PrintedPart a c engine script left)
part_first given left a c engine old is h =
    let P : LinkView Told → Type 0 = λ x. IfSome given (λ script. PrintedPart a c x script left) in
    subst P (ap (λ (x : SessionView Told). x.link) is) h

-- The printed bytes and the state of the link are one fold

fold_of : (a c : Option (List ℕ)) (engine last : LinkView Told) (script : List ℕ) (left : Option (List ℕ))
    → engine.life ≤ max_life → AreInRange engine.rates → Printed a c engine script left last
    → IsOneFold a c engine script left last
fold_of a c engine last script left few range p =
    let lines = lines_of script in
    let state = after-state engine.life engine.rates p.lacks lines in
    let writes = after-writes engine.life engine.rates start_of_script p.lacks lines in record {
      reads = p.reads;
      lacks = p.lacks;
      text = p.text;
      texts = talk-texts engine.life engine.rates p.lacks lines;
      keeps =
          promise (version_of_script lines) engine.life engine.rates
          (events_of engine.life engine.rates start_of_script p.lacks lines) _ last.live (Some last.writer) few range
          (events-may_follow engine.life engine.rates p.lacks lines range) refl
          (p.live ∙ ap (λ (s : State). s.live) state)
          (p.bytes ∙ ap out state)
          (p.counts ∙ writes);
      life = p.life;
      rates = p.rates;
    }

pub fold_first : (given left a c : Option (List ℕ)) (engine last : LinkView Told) → engine.life ≤ max_life
    → AreInRange engine.rates → IfSome given (λ script. Printed a c engine script left last)
    → IfSome given (λ script. IsOneFold a c engine script left last)
fold_first None left a c engine last few range h = tt
fold_first (Some script) left a c engine last few range h = fold_of a c engine last script left few range h
