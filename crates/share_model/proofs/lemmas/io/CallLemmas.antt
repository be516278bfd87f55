-- Calls after calls: what leads from a first to a second, and on to a third, leads from the first to the third.
use Rattle.std.specs.Prelude.{◌<◌, ℕ, ◌+◌, List}
use Rattle.std.proofs.Common.{add-zero, add_assoc, sym, subst}
use Rattle.share_model.specs.declared.reader.Got.{Got}
use Rattle.share_model.specs.declared.writer.Answer.{Answer}
use Rattle.share_model.specs.declared.writer.Answer.TheVariants.{Accepted, Failed}
use Rattle.share_model.specs.io.Calls.{GoesOn, Reads, no_reads, one_read, Offers, no_offers, one_offer, OfferRefused}
use Rattle.share_model.specs.io.Calls.{Called, no_call, one_call, CallFailed}

-- Reads

pub reads_once : {R : Type 0} {gives : R → List ℕ → Got → R → Type 0} {a b : R} (buffer : List ℕ) (got : Got)
    → gives a buffer got b → GoesOn got → Reads gives a 1 b
reads_once {a = a} {b = b} buffer got given goes = one_read 0 a buffer got b no_reads given goes

pub reads_more : {R : Type 0} {gives : R → List ℕ → Got → R → Type 0} {a b c : R} (m n : ℕ) → Reads gives a m b
    → Reads gives b n c → Reads gives a (m + n) c
reads_more {gives = gives} {a = a} {b = b} m n reads no_reads =
    let P : ℕ → Type 0 = λ k. Reads gives a k b in subst P (sym (add-zero m)) reads
reads_more {gives = gives} {a = a} m n reads (one_read k before buffer got after more given goes) =
    let P : ℕ → Type 0 = λ i. Reads gives a i after in
    subst P (add_assoc m k 1) (one_read (m + k) before buffer got after (reads_more m k reads more) given goes)

-- Offers

pub offered_once : {W : Type 0} {answers : W → List ℕ → Answer → W → Type 0} {a b : W} (piece : List ℕ) (k : ℕ)
    → answers a piece (Accepted k) b → 0 < k → Offers answers a b
offered_once {a = a} {b = b} piece k answered some = one_offer a piece k b no_offers answered some

pub offers_more : {W : Type 0} {answers : W → List ℕ → Answer → W → Type 0} {a b c : W} → Offers answers a b
    → Offers answers b c → Offers answers a c
offers_more before no_offers = before
offers_more before (one_offer w piece k after offers answered some) =
    one_offer w piece k after (offers_more before offers) answered some

pub refused_later : {W : Type 0} {answers : W → List ℕ → Answer → W → Type 0} {a b c : W} → Offers answers a b
    → OfferRefused answers b c → OfferRefused answers a c
refused_later before refused =
    record {
      before = refused.before;
      piece = refused.piece;
      answer = refused.answer;
      offers = offers_more before refused.offers;
      answered = refused.answered;
      some = refused.some;
      nothing = refused.nothing;
    }

-- Calls of any answer

pub called_once : {W : Type 0} {answers : W → List ℕ → Answer → W → Type 0} {a b : W} (piece : List ℕ)
    (answer : Answer) → answers a piece answer b → Called answers a b
called_once {a = a} {b = b} piece answer answered = one_call a piece answer b no_call answered

pub called_more : {W : Type 0} {answers : W → List ℕ → Answer → W → Type 0} {a b c : W} → Called answers a b
    → Called answers b c → Called answers a c
called_more before no_call = before
called_more before (one_call w piece answer after calls answered) =
    one_call w piece answer after (called_more before calls) answered

pub offers_called : {W : Type 0} {answers : W → List ℕ → Answer → W → Type 0} {a b : W} → Offers answers a b
    → Called answers a b
offers_called no_offers = no_call
offers_called (one_offer w piece k after offers answered some) =
    one_call w piece (Accepted k) after (offers_called offers) answered

pub call_failed_once : {W : Type 0} {answers : W → List ℕ → Answer → W → Type 0} {a b : W} (piece : List ℕ)
    → answers a piece Failed b → CallFailed answers a b
call_failed_once {a = a} piece failed = record { before = a; piece = piece; calls = no_call; failed = failed }

pub call_failed_later : {W : Type 0} {answers : W → List ℕ → Answer → W → Type 0} {a b c : W} → Called answers a b
    → CallFailed answers b c → CallFailed answers a c
call_failed_later before call =
    record {
      before = call.before;
      piece = call.piece;
      calls = called_more before call.calls;
      failed = call.failed;
    }
