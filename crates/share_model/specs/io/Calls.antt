-- The calls of one run lead from a reader before them to the reader after them, and so for a writer.
use Rattle.std.specs.Prelude.{◌≡◌, ◌<◌, ◌≤◌, ℕ, ◌+◌, List, length, ⊤}
use Rattle.share_model.specs.declared.reader.Got.{Got}
use Rattle.share_model.specs.declared.reader.Got.TheVariants.{
  Bytes,
  End,
  Interrupted as ReadInterrupted,
  Failed as ReadFailed,
}
use Rattle.share_model.specs.declared.writer.Answer.{Answer}
use Rattle.share_model.specs.declared.writer.Answer.TheVariants.{Accepted, Interrupted, Failed}

-- Reads: a relation `gives` says what a read call does to a reader and a buffer, and what it answers

-- the call gave bytes, or was interrupted: one more call follows
abbrev pub GoesOn : Got → Type 0
GoesOn (Bytes n) = ⊤
GoesOn End = ⊥
GoesOn ReadInterrupted = ⊤
GoesOn ReadFailed = ⊥

-- n read calls, each of which gave bytes or was interrupted, lead from the first reader to the last
pub data Reads {R : Type 0} (gives : R → List ℕ → Got → R → Type 0) (first : R) : ℕ → R → Type 0 where
  no_reads : Reads gives first 0 first
  one_read : (n : ℕ) (before : R) (buffer : List ℕ) (got : Got) (after : R) → Reads gives first n before
      → gives before buffer got after → GoesOn got → Reads gives first (n + 1) after

-- after fewer than `most` such calls, one more answered that there are no more bytes
pub record ReadsToEnd {R : Type 0} (gives : R → List ℕ → Got → R → Type 0) (most : ℕ) (first last : R) : Type 0 where
  pub count : ℕ
  pub before : R
  pub buffer : List ℕ
  pub reads : Reads gives first count before
  pub few : count < most
  pub ended : gives before buffer End last

-- after fewer than `most` such calls, one more failed; or `most` such calls were made
pub data ReadFails {R : Type 0} (gives : R → List ℕ → Got → R → Type 0) (most : ℕ) (first last : R) : Type 0 where
  read_failed : (count : ℕ) (before : R) (buffer : List ℕ) → Reads gives first count before → count < most
      → gives before buffer ReadFailed last → ReadFails gives most first last
  too_many_reads : Reads gives first most last → ReadFails gives most first last

-- the bytes that were read if a run stopped for another reason: at most `most` such calls, or all up to the end
pub data HasRead {R : Type 0} (gives : R → List ℕ → Got → R → Type 0) (most : ℕ) (first last : R) : Type 0 where
  reading : (count : ℕ) → count ≤ most → Reads gives first count last → HasRead gives most first last
  read_to_end : ReadsToEnd gives most first last → HasRead gives most first last

-- Offers: a relation `answers` says what a write call does to a writer with a piece, and what it answers

-- no byte was accepted
abbrev pub IsNothing : Answer → Type 0
IsNothing (Accepted k) = k ≡ 0
IsNothing Interrupted = ⊤
IsNothing Failed = ⊤

-- offers, of each of which at least a byte was accepted, lead from the first writer to the last
pub data Offers {W : Type 0} (answers : W → List ℕ → Answer → W → Type 0) (first : W) : W → Type 0 where
  no_offers : Offers answers first first
  one_offer : (before : W) (piece : List ℕ) (k : ℕ) (after : W) → Offers answers first before
      → answers before piece (Accepted k) after → 0 < k → Offers answers first after

-- after such offers, one of a piece that is not empty was refused: it failed, was interrupted, or no byte of it was
-- accepted
pub record OfferRefused {W : Type 0} (answers : W → List ℕ → Answer → W → Type 0) (first last : W) : Type 0 where
  pub before : W
  pub piece : List ℕ
  pub answer : Answer
  pub offers : Offers answers first before
  pub answered : answers before piece answer last
  pub some : 0 < length piece
  pub nothing : IsNothing answer

-- offers of any answer lead from the first writer to the last
pub data Called {W : Type 0} (answers : W → List ℕ → Answer → W → Type 0) (first : W) : W → Type 0 where
  no_call : Called answers first first
  one_call : (before : W) (piece : List ℕ) (answer : Answer) (after : W) → Called answers first before
      → answers before piece answer after → Called answers first after

-- after such offers, one failed
pub record CallFailed {W : Type 0} (answers : W → List ℕ → Answer → W → Type 0) (first last : W) : Type 0 where
  pub before : W
  pub piece : List ℕ
  pub calls : Called answers first before
  pub failed : answers before piece Failed last
