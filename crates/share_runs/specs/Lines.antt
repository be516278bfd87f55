-- A script that is read a byte at a time, and the line to which the last byte belongs.
use Rattle.std.specs.Prelude.{◌≡◌, ℕ, ◌+◌, ◌-◌, ◌^◌, Bool, List, [], ◌∷◌, ◌++◌, length, take, min, if◌then◌else◌}
use Rattle.std.specs.List.{All, flat_map}
use Rattle.share_model.specs.declared.reader.Got.{Got}
use Rattle.share_model.specs.declared.reader.Got.TheVariants.{Bytes, End, Interrupted, Failed}
use Rattle.share_runs.specs.Strict.{EndsNoLine}

abbrev pub with_feed : List ℕ → List ℕ
with_feed line = line ++ 10 ∷ []

-- The text is some whole lines and then the line of this number, counted from 1, with its line feed if it has ended.
-- The first 4096 bytes of that line are kept.
pub record EndsInLine (text : List ℕ) (number : ℕ) (kept : List ℕ) (ended : Bool) : Type 0 where
  pub before : List (List ℕ)
  pub line : List ℕ
  pub whole : text ≡ flat_map with_feed before ++ (line ++ (if ended then 10 ∷ [] else []))
  pub plain : All EndsNoLine before × EndsNoLine line
  pub numbered : number ≡ min (length before + 1) (2 ^ 64 - 1)
  pub keeps : kept ≡ take 4096 line

-- the bytes that a read gave
abbrev pub given_bytes : List ℕ → Got → List ℕ
given_bytes buffer (Bytes n) = take n buffer
given_bytes buffer End = []
given_bytes buffer Interrupted = []
given_bytes buffer Failed = []

-- a read of one byte, and the line after it, whatever was read before
pub record LineGives {I : Type 0} (gives : I → List ℕ → Got → I → Type 0) (before : I) (number : ℕ) (kept : List ℕ)
    (ended : Bool) (buffer : List ℕ) (got : Got) (after : I) (numbers : ℕ) (keeps : List ℕ) (ends : Bool) : Type 0
  where
    pub gave : gives before (take 1 buffer) got after
    pub follows : (text : List ℕ) → EndsInLine text number kept ended
        → EndsInLine (text ++ given_bytes buffer got) numbers keeps ends
