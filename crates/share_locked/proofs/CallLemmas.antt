-- The effects of the calls of a recorder and its intake on the state behind the lock.
use Rattle.std.specs.Prelude.{◌≡◌, ℕ, suc, Bool, true, false, MatchBool, List, [], ◌∷◌, ◌++◌, length}
use Rattle.std.proofs.Common.{refl, sym, ap, ◌∙◌}
use Rattle.std.proofs.lemmas.List.{append-nil}
use Rattle.share_base.specs.declared.refusal.Refusal.TheVariants.{Spent}
use Rattle.share_base.specs.declared.command.Command.{Command}
use Rattle.share_base.specs.declared.command.Reply.{Reply}
use Rattle.share_base.specs.declared.command.Reply.TheVariants.{Refused}
use Rattle.share_model.specs.declared.ingress.Offer.{Offer}
use Rattle.share_model.specs.ingress.Queue.{of_worker}
use Rattle.share_model.proofs.lemmas.link.AnswerLemmas.{arrival-answers}
use Rattle.share_model.specs.link.Answers.{answers_event}
use Rattle.share_model.specs.link.Calls.{is_spent, Stepped, Steps}
use Rattle.share_model.specs.link.Arrivals.{arrive_step}
use Rattle.share_model.specs.link.Fields.{IsBody}
use Rattle.share_ingress.specs.Ends.{IntakeView, IsTake}
use Rattle.share_journal.specs.declared.entry.Entry.{Entry}
use Rattle.share_journal.proofs.ArrivalLemmas.{arrivals-arrival, arrivals-command}
use Rattle.share_journal.specs.Arrivals.{arrivals, next_of}
use Rattle.share_journal.specs.Entries.{command_entry, arrival_entry}
use Rattle.share_journal.specs.Records.{RecorderView, made_event, entry_if}
use Rattle.share_locked.specs.Views.{LockedView}
use Rattle.share_locked.specs.Calls.{Admits}

abbrev pub stands : {W : Type 0} → RecorderView W → IntakeView → ℕ → LockedView W
stands recorder intake clerks = record { recorder = recorder; intake = intake; clerks = clerks }

-- nothing was brought yet
pub arrivals-none : (es : List Entry) (os : List Offer) → es ≡ [] → os ≡ [] → arrivals es ≡ os
unfolding arrivals
arrivals-none es os none nothing = ap arrivals none ∙ sym nothing

-- The entry of a call

some_entry : (old new : List Entry) (e : Entry) (made : Bool) → new ≡ old ++ entry_if made e → made ≡ true
    → new ≡ old ++ e ∷ []
some_entry old new e true is made = is
some_entry old new e false is made = absurd (cc)

-- Commands

-- a command leaves the arrivals
pub command_kept : (old new : List Entry) (n : ℕ) (c : Command) (reply : Reply) (made : Bool)
    → new ≡ old ++ entry_if made (command_entry n c reply) → arrivals new ≡ arrivals old
command_kept old new n c reply true is = ap arrivals is ∙ arrivals-command old n c reply
command_kept old new n c reply false is = ap arrivals (is ∙ append-nil old)

-- Admissions

module _ {W : Type 0} (old new : RecorderView W) (i after : IntakeView) (o : Offer) (reply : Reply)
    (living : is_spent old.link ≡ false) (taken : IsTake i o after)
    (did : Steps (λ rates l. arrive_step l o.name o.parcel) old.link reply new.link)
    (entry : new.entries
    ≡ old.entries ++ entry_if (made_event old.link new.link) (arrival_entry o.worker o.name o.parcel reply))
    (event : made_event old.link new.link ≡ answers_event reply) (body : IsBody old.link.live.version o.parcel) where
  arrival_stepped : (t : Bool) → is_spent old.link ≡ t → t ≡ false
      → MatchBool t ((reply ≡ Refused Spent) × (new.link ≡ old.link))
      (Stepped (arrive_step old.link.live o.name o.parcel) old.link reply new.link)
      → Stepped (arrive_step old.link.live o.name o.parcel) old.link reply new.link
  arrival_stepped true spent living steps = absurd (cc)
  arrival_stepped false spent living steps = steps

  stepped : Stepped (arrive_step old.link.live o.name o.parcel) old.link reply new.link
  stepped = arrival_stepped (is_spent old.link) refl living did

  own : answers_event reply ≡ true
  own = ap answers_event stepped.answer_is ∙ arrival-answers old.link.live o.name o.parcel

  entered : new.entries ≡ old.entries ++ arrival_entry o.worker o.name o.parcel reply ∷ []
  entered =
      some_entry old.entries new.entries (arrival_entry o.worker o.name o.parcel reply) (made_event old.link new.link)
      entry (event ∙ own)

  pub admits : (clerks worker n : ℕ) → worker ≡ o.worker → n ≡ o.n
      → Admits (stands old i clerks) worker n reply (stands new after clerks)
  admits clerks worker n worker_is number_is = record {
    taken = o;
    worker_is = worker_is;
    number_is = number_is;
    living = living;
    body = body;
    take = taken;
    stepped = stepped;
    entry = entered;
    clerks = refl;
  }

  popped_is : after.popped ≡ i.popped ++ o ∷ []
  popped_is = ap (λ (v : IntakeView). v.popped) taken.popped

  next_is : (before : List Offer) → before ≡ i.popped → next_of before o.worker o.name o.parcel ≡ o
  next_is before is =
      λ k. record {
        worker = o.worker;
        n = (ap (λ (os : List Offer). suc (length (of_worker o.worker os))) is ∙ sym taken.number) k;
        name = o.name;
        parcel = o.parcel;
      }

  -- the arrivals are what was popped
  pub admitted_kept : arrivals old.entries ≡ i.popped → arrivals new.entries ≡ after.popped
  admitted_kept was =
      ap arrivals entered ∙ arrivals-arrival old.entries o.worker o.name o.parcel reply
      ∙ ap (λ (os : List Offer). os ++ next_of (arrivals old.entries) o.worker o.name o.parcel ∷ []) was
      ∙ ap (λ (x : Offer). i.popped ++ x ∷ []) (next_is (arrivals old.entries) was)
      ∙ sym popped_is
