-- A book that was opened: its run, its text, and that no frame is in part.
use Rattle.std.specs.Prelude.{◌≡◌, ◌≤◌, ◌^◌, ℕ, true, nat_le, List, [], ◌∷◌, ◌++◌, map, flat_map, None}
use Rattle.std.proofs.Common.{refl, ap, sym, ◌∙◌, subst}
use Rattle.std.proofs.lemmas.Bool.{and_parts, leb-true}
use Rattle.share_base.specs.declared.version.Version.TheVariants.{Two}
use Rattle.share_model.specs.declared.rates.Rate.{Rate}
use Rattle.share_model.specs.link.Commands.{command_step}
use Rattle.share_model.specs.link.Tariff.{AreInRange}
use Rattle.share_model.specs.link.View.{LinkView}
use Rattle.share_model.specs.run.Events.{MayFollow}
use Rattle.share_model.specs.run.Fold.{State, empty_state, state_after, step}
use Rattle.share_model.specs.run.Sound.{SoundState, max_life}
use Rattle.share_model.proofs.lemmas.run.ByteLemmas.{keeps-commanded}
use Rattle.share_model.proofs.lemmas.run.EventLemmas.{state-empty, state-step}
use Rattle.share_journal.specs.Records.{IsRunOf}
use Rattle.share_book.specs.Audited.{IsRunAndText, SendsWhole}
use Rattle.share_gateway.specs.Opened.{IsOpened, event_of, is_book_life, opening_events, opening_outcomes}
use Rattle.share_gateway.specs.Opening.{opening}
use Rattle.share_book.specs.BookEvents.{AreBookEvents}
use Rattle.share_book.specs.OpenBook.{opened_text, command_line}
use Rattle.share_gateway.specs.Plan.{PlanView}
use Rattle.share_book.specs.Texts.{TextView, first_line, line_in}
use Rattle.share_book.specs.declared.book_text.TextKind.{TextKind}
use Rattle.share_book.specs.declared.book_text.TextKind.TheVariants.{Whole, Lengths}
use Rattle.share_gateway.specs.declared.openings.PlanCommand.{PlanCommand}
use Rattle.share_book.proofs.RunTextLemmas.{whole_kept}

-- ---- Lines

line_of : (kind : TextKind) (c : PlanCommand) → line_in kind (event_of c) ≡ command_line c
line_of Whole c = refl
line_of Lengths c = refl

-- the lines of commands are those of their events
pub command-lines : (kind : TextKind) (cs : List PlanCommand)
    → flat_map (line_in kind) (map event_of cs) ≡ flat_map command_line cs
command-lines kind [] = refl
command-lines kind (c ∷ cs) =
    ap (λ line. line ++ flat_map (line_in kind) (map event_of cs)) (line_of kind c)
    ∙ ap (λ lines. command_line c ++ lines) (command-lines kind cs)

-- ---- Frames

whole_commands : (life : ℕ) (rates : List Rate) → AreInRange rates → (s : State) (cs : List PlanCommand)
    → SoundState life rates s → MayFollow life rates s (map event_of cs) → SendsWhole s.live
    → SendsWhole (state_after rates s (map event_of cs)).live
unfolding MayFollow state_after
whole_commands life rates range s [] sound may was = was
whole_commands life rates range s (c ∷ cs) sound may was =
    whole_commands life rates range (step rates s (event_of c)) cs
    (state-step range sound may.0 (event_of c) may.1) may.2
    (whole_kept s.live (command_step rates s.live c.command).0 (step rates s (event_of c)).live was
    (keeps-commanded sound.live c.command) refl)

-- commands are events that a book makes
own_commands : (rates : List Rate) (s : State) (cs : List PlanCommand) → AreBookEvents rates s (map event_of cs)
unfolding AreBookEvents
own_commands rates s [] = tt
own_commands rates s (c ∷ cs) = (tt, own_commands rates (step rates s (event_of c)) cs)

-- the life of a book is at most the longest one
life_lasts : (events : ℕ) → is_book_life events ≡ true → events ≤ max_life
life_lasts events lasts = leb-true events (2 ^ 24) (and_parts (nat_le 131072 events) _ lasts).1

module _ (rates : List Rate) (p : PlanView) (events : ℕ) (link : LinkView (Unit {0}))
    (was : IsOpened rates p events link)
  where
    pub open-whole : SendsWhole link.live
    open-whole =
        subst SendsWhole (sym was.live)
        (whole_commands events rates was.run_is.range (empty_state Two) (opening p) (state-empty Two events rates)
        was.run_is.may (record { version = refl; unparted = refl; unbroken = refl }))

    pub open-run : (kind : TextKind) (text : TextView) → text ≡ opened_text kind p
        → IsRunAndText (record { link = link; kind = kind; text = text })
    open-run kind text is = record {
      events = opening_events p;
      replies = opening_outcomes rates p;
      drained = [];
      run =
          subst (λ life. IsRunOf None Two life link.rates link.live (opening_events p) (opening_outcomes rates p))
          (sym was.life)
          (subst (λ rates'. IsRunOf None Two events rates' link.live (opening_events p) (opening_outcomes rates p))
          (sym was.rates_are) was.run_is);
      lasts = subst (λ life. life ≤ max_life) (sym was.life) (life_lasts events was.lasts);
      own = own_commands link.rates (empty_state Two) (opening p);
      text =
          ap (λ (t : TextView). t.bytes) is
          ∙ ap (λ lines. first_line kind ++ lines) (sym (command-lines kind (opening p)));
    }
