-- The view of a reader of records in contracts, and the effects of its calls.
use Rattle.std.specs.Prelude.{◌≡◌, ◌≤◌, ◌⊎◌, ◌+◌, ⊤, ℕ, List, [], Option, None}
use Rattle.std.specs.Prelude.{Some, IfSome}
use Rattle.std.specs.Io.KnownBytes.{Consumes, Keeps, prepend_known}
use Rattle.share_model.specs.declared.ingress.Ended.{Ended}
use Rattle.share_model.specs.declared.ingress.Ended.TheVariants.{End, Cut, BadRecord, Fault, NoMemory, Bound}
use Rattle.share_model.specs.declared.reader.Got.{Got}
use Rattle.share_model.specs.declared.reader.Got.TheVariants.{End as EndOfInput, Failed}
use Rattle.share_model.specs.io.Calls.{Reads}
use Rattle.share_model.specs.ingress.Records.{Item, IsItem, record_of, IsCut, IsBad, EndsAs}
use Rattle.share_ingress.specs.Found.{BeginsWhole, NeedsMore}
use Rattle.share_ingress.specs.declared.reader.Next.{Next}
use Rattle.share_ingress.specs.declared.reader.Next.TheVariants.{Item as Found, Ended as Over}

-- the reader below, the bytes read and not given yet, the reads that it may still make, and its end, if it has one
pub record Reading (R : Type 0) : Type 0 where
  pub reader : R
  pub buffered : List ℕ
  pub reads_left : ℕ
  pub ended : Option Ended

-- the bytes of the stream that are left, if the reader below gives its own
abbrev pub left_of : {R : Type 0} → (R → Option (List ℕ)) → Reading R → Option (List ℕ)
left_of left r = prepend_known r.buffered (left r.reader)

-- the end of a stream that has nothing more to read while these bytes are buffered
abbrev pub EndsInput : List ℕ → Ended → Type 0
EndsInput buffered End = buffered ≡ []
EndsInput buffered Cut = IsCut buffered
EndsInput buffered BadRecord = ⊥
EndsInput buffered Fault = ⊥
EndsInput buffered NoMemory = ⊥
EndsInput buffered Bound = ⊥

-- memory is asked for: for the payload of a record in front, which is longer than 16 bytes, or for room to read more
abbrev pub TakesMemory : List ℕ → ℕ → Type 0
TakesMemory buffered reads_left =
    ((name : List ℕ) × (size : ℕ) × (17 ≤ size) × BeginsWhole buffered name size)
    ⊎ ((1 ≤ reads_left) × NeedsMore buffered)

module _ {R : Type 0} (gives : R → List ℕ → Got → R → Type 0) where
  -- reads that gave bytes or were interrupted, each of which used up a turn
  pub record GoesOnReading (old new : Reading R) : Type 0 where
    pub count : ℕ
    pub reads : Reads gives old.reader count new.reader
    pub reads_left : count + new.reads_left ≡ old.reads_left

  -- after such reads, a last one with this answer
  pub record LastRead (old : Reading R) (got : Got) (new : Reading R) : Type 0 where
    pub count : ℕ
    pub before : R
    pub buffer : List ℕ
    pub reads : Reads gives old.reader count before
    pub last : gives before buffer got new.reader
    pub reads_left : count + 1 + new.reads_left ≡ old.reads_left

  -- the reads of a call that ended so
  abbrev pub EndsBy : Ended → Reading R → Reading R → Type 0
  EndsBy End old new = LastRead old EndOfInput new
  EndsBy Cut old new = LastRead old EndOfInput new
  EndsBy BadRecord old new = GoesOnReading old new
  EndsBy Fault old new = LastRead old Failed new
  EndsBy NoMemory old new = GoesOnReading old new
  EndsBy Bound old new = GoesOnReading old new

  -- the last read of the reader below had this answer
  abbrev pub Gave : Got → R → Type 0
  Gave got reader = (before : R) × (buffer : List ℕ) × gives before buffer got reader

  -- why it ended so, in this call or an earlier one. The last read found the end, or failed; memory was asked for; or
  -- no turn was left
  abbrev pub EndStands : Reading R → Ended → Type 0
  EndStands r End = (r.buffered ≡ []) × Gave EndOfInput r.reader
  EndStands r Cut = IsCut r.buffered × Gave EndOfInput r.reader
  EndStands r BadRecord = IsBad r.buffered
  EndStands r Fault = Gave Failed r.reader
  EndStands r NoMemory = TakesMemory r.buffered r.reads_left
  EndStands r Bound = (r.reads_left ≡ 0) × NeedsMore r.buffered

  module _ (left : R → Option (List ℕ)) where
    -- more was read, and nothing given
    pub record ReadsOn (old new : Reading R) : Type 0 where
      pub calls : GoesOnReading old new
      pub kept : Keeps (left_of left old) (left_of left new)
      pub open_still : new.ended ≡ None

    -- an item was given, whose record was at the front of the stream
    pub record TakesItem (old : Reading R) (item : Item) (new : Reading R) : Type 0 where
      pub calls : GoesOnReading old new
      pub good : IsItem item
      pub taken : Consumes (left_of left old) (left_of left new) (record_of item)
      pub open_still : new.ended ≡ None

    -- the reader ended; the stream did not change, and ends so
    pub record Stops (old : Reading R) (ended : Ended) (new : Reading R) : Type 0 where
      pub calls : EndsBy ended old new
      pub kept : Keeps (left_of left old) (left_of left new)
      pub ends : IfSome (left_of left old) (EndsAs ended)
      pub stands : EndStands new ended

    -- the answer of a reader that has not ended
    abbrev pub Answers : Reading R → Next → Reading R → Type 0
    Answers old (Found name parcel) new = TakesItem old (record { name = name; payload = parcel }) new
    Answers old (Over ended) new = Stops old ended new × (new.ended ≡ Some ended)

  -- an answer that ends it has its reason
  abbrev pub HasReason : Next → Reading R → Type 0
  HasReason (Found name parcel) r = ⊤
  HasReason (Over ended) r = EndStands r ended
