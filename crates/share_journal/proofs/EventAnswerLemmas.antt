-- The answers of events: all but that the life is spent and that no memory was found.
use Rattle.std.specs.Prelude.{◌≡◌, ◌<◌, ℕ, Bool, true, false, Option, MatchBool, nat_lt}
use Rattle.std.specs.Prelude.{List, ◌∷◌, []}
use Rattle.std.proofs.Common.{refl, sym, ap, ◌∙◌, arith, inl, inr}
use Rattle.std.proofs.lemmas.Bool.Decides.{nat_tests}
use Rattle.share_base.specs.Body.{BodyView}
use Rattle.share_base.specs.declared.refusal.Refusal.TheVariants.{Spent}
use Rattle.share_base.specs.declared.command.Command.{Command}
use Rattle.share_base.specs.declared.command.Event.{Event}
use Rattle.share_base.specs.declared.command.Event.TheVariants.{Commanded, Arrived}
use Rattle.share_base.specs.declared.command.Outcome.TheVariants.{Replied}
use Rattle.share_base.specs.declared.command.Reply.{Reply}
use Rattle.share_base.specs.declared.command.Reply.TheVariants.{Refused}
use Rattle.share_model.specs.io.Told.{Told}
use Rattle.share_model.specs.link.Calls.{is_spent, Stepped, Steps, CommandCall}
use Rattle.share_model.specs.link.Answers.{answers_event}
use Rattle.share_model.proofs.lemmas.link.AnswerLemmas.{command-answers as step-answers}
use Rattle.share_model.proofs.lemmas.link.AnswerLemmas.{arrival-answers as came-answers}
use Rattle.share_model.specs.link.Live.{Live}
use Rattle.share_model.specs.link.Commands.{command_step}
use Rattle.share_model.specs.link.Arrivals.{arrive_step}
use Rattle.share_model.specs.link.View.{LinkView}
use Rattle.share_model.proofs.lemmas.run.CallLemmas.{Ran, AskedOutcome, asked_spent, asked_no_memory, asked_made}
use Rattle.share_journal.specs.declared.entry.Source.TheVariants.{Clerk, Worker}
use Rattle.share_journal.specs.Entries.{JournalView}
use Rattle.share_journal.specs.Records.{made_event}
use Rattle.share_journal.proofs.RunLemmas.{IsJournalOf, made_more}

-- The answers of calls

not_more : (n m : ℕ) → m ≡ n → nat_lt n m ≡ false
not_more n m same = grind (arith, nat_tests)

more : (n m : ℕ) → n < m → nat_lt n m ≡ true
more n m less = grind (arith, nat_tests)

module _ {W : Type 0} (told : W → Option Told) (old new : LinkView W) (e : Event) (reply : Reply) where
  no_event : new ≡ old → answers_event reply ≡ false → made_event old new ≡ answers_event reply
  no_event same none =
      not_more old.live.counts.events new.live.counts.events (ap (λ (s : LinkView W). s.live.counts.events) same)
      ∙ sym none

  -- if each event is counted, and what is answered to one is no such answer
  asked_answers : AskedOutcome told old e reply new
      → (Ran told old (e ∷ []) (Replied reply ∷ []) new → old.live.counts.events < new.live.counts.events)
      → (is_spent old ≡ false → Ran told old (e ∷ []) (Replied reply ∷ []) new → answers_event reply ≡ true)
      → made_event old new ≡ answers_event reply
  asked_answers (asked_spent spent is same) grows own = no_event same (ap answers_event is)
  asked_answers (asked_no_memory living is same) grows own = no_event same (ap answers_event is)
  asked_answers (asked_made living ran) grows own =
      more old.live.counts.events new.live.counts.events (grows ran) ∙ sym (own living ran)

  step_own : (t : Bool) (next : Live × Reply) → is_spent old ≡ t → t ≡ false → answers_event next.1 ≡ true
      → MatchBool t ((reply ≡ Refused Spent) × (new ≡ old)) (Stepped next old reply new) → answers_event reply ≡ true
  step_own true next spent living own did = cc
  step_own false next spent living own did = ap answers_event did.answer_is ∙ own

-- a command, and an arrival, of a link whose journal is kept beside it
module _ {W : Type 0} (told : W → Option Told) (old new : LinkView W) (reply : Reply) (journal : JournalView)
    (was : IsJournalOf told old journal) where
  pub command-answers : (c : Command) → AskedOutcome told old (Commanded c) reply new → CommandCall old c reply new
      → made_event old new ≡ answers_event reply
  command-answers c asked did =
      asked_answers told old new (Commanded c) reply asked
      (made_more told old new journal (Commanded c) reply (Clerk 0) was) (own did)
    where
      own : CommandCall old c reply new → is_spent old ≡ false
          → Ran told old (Commanded c ∷ []) (Replied reply ∷ []) new → answers_event reply ≡ true
      own (inl found) living ran =
          let grew = made_more told old new journal (Commanded c) reply (Clerk 0) was ran in
          let same = ap (λ (s : LinkView W). s.live.counts.events) found.unchanged in absurd (omega (arith, grew, same))
      own (inr stepped) living ran =
          step_own told old new (Commanded c) reply (is_spent old) (command_step old.rates old.live c) refl living
          (step-answers old.rates old.live c) stepped

  pub arrival-answers : (name : List ℕ) (body : BodyView) → AskedOutcome told old (Arrived name body) reply new
      → Steps (λ rates l. arrive_step l name body.payload) old reply new → made_event old new ≡ answers_event reply
  arrival-answers name body asked did =
      asked_answers told old new (Arrived name body) reply asked
      (made_more told old new journal (Arrived name body) reply (Worker 0) was)
      (λ living ran. step_own told old new (Arrived name body) reply (is_spent old)
      (arrive_step old.live name body.payload) refl living (came-answers old.live name body.payload) did)
