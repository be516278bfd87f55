-- The effects of the connections of a tenant on a book.
use Rattle.std.specs.Prelude.{◌≡◌, ◌≢◌, ◌⊎◌, ◌++◌, [], ℕ, Bool, not, ◌&&◌, List, length}
use Rattle.share_model.specs.funding.Graph.{NameBytes}
use Rattle.share_model.specs.ingress.Records.{IsBad, record_of}
use Rattle.share_model.specs.link.Calls.{is_spent}
use Rattle.share_core.specs.Room.{has_room}
use Rattle.share_book.specs.Audited.{Audited, lacks_text}
use Rattle.share_book.specs.Book.{TakesPacket}
use Rattle.share_book.specs.declared.book.Taken.{Taken}
use Rattle.share_ingress.specs.Found.{NeedsMore}
use Rattle.share_gateway.specs.Records.{NamesOnly, NamesOther, RecordsView, item_for}
use Rattle.share_doors.specs.declared.sender.Came.{Came}
use Rattle.share_doors.specs.declared.sender.Came.TheVariants.{Packet, Dropped, Nothing, More, Over}
use Rattle.share_doors.specs.declared.sender.ClosedWhy.{ClosedWhy}
use Rattle.share_doors.specs.declared.sender.ClosedWhy.TheVariants.{
  Ended,
  CutShort,
  HungUp,
  Failed,
  Malformed,
  NoMemory,
  Asked,
}

-- a packet of the tenant would be taken, if its length is in range and there is memory
abbrev pub can_take : Audited → NameBytes → Bool
can_take a name = not (is_spent a.link) && not (lacks_text a) && has_room a.link.live name

-- one packet of the tenant was taken
pub record TakesOne (name : NameBytes) (before after : Audited) : Type 0 where
  pub payload : List ℕ
  pub answer : Taken
  pub packet : TakesPacket before name payload answer after

-- and its payload has n bytes
pub record TakesBytes (name : NameBytes) (n : ℕ) (before after : Audited) : Type 0 where
  pub one : TakesOne name before after
  pub count : length one.payload ≡ n

-- one packet of the tenant was taken, or nothing changed
abbrev pub GivesOne : NameBytes → Audited → Came → Audited → Type 0
GivesOne name before (Packet n) after = TakesBytes name n before after
GivesOne name before Dropped after = ⊥
GivesOne name before Nothing after = after ≡ before
GivesOne name before More after = after ≡ before
GivesOne name before (Over why) after = after ≡ before

-- packets of the tenant were taken, one after the other, and nothing else happened
pub data TakesOnly : NameBytes → Audited → Audited → Type 0 where
  nothing : (name : NameBytes) (a : Audited) → TakesOnly name a a
  packet : (name : NameBytes) (a b c : Audited) → TakesOnly name a b → TakesOne name b c → TakesOnly name a c

-- ---- Records

-- n bytes of the stream came after those that were buffered
pub record Feeds (old : RecordsView) (n : ℕ) (new : RecordsView) : Type 0 where
  pub came : List ℕ
  pub count : length came ≡ n
  pub bytes : new.bytes ≡ old.bytes ++ came
  pub name : new.name ≡ old.name

-- bytes came
pub record HoldsMore (old new : RecordsView) : Type 0 where
  pub came : List ℕ
  pub bytes : new.bytes ≡ old.bytes ++ came
  pub name : new.name ≡ old.name

-- bytes came, and no whole record is buffered, nor bytes that are not a record
pub record HoldsPart (old new : RecordsView) : Type 0 where
  pub holds : HoldsMore old new
  pub part : NeedsMore new.bytes
  pub own : NamesOnly new.name new.bytes

-- bytes came, and of all that are buffered the first record was given, whose payload has n bytes and went into the book
pub record GivesRecord (name : NameBytes) (n : ℕ) (old : RecordsView) (before : Audited) (new : RecordsView)
    (after : Audited) : Type 0 where
  pub came : List ℕ
  pub record_is : old.bytes ++ came ≡ record_of (item_for old.name new.payload) ++ new.bytes
  pub count : length new.payload ≡ n
  pub answer : Taken
  pub packet : TakesPacket before name new.payload answer after

-- bytes came, and of all that are buffered the first record was cut, whose payload has n bytes
pub record CutsFirst (n : ℕ) (old new : RecordsView) : Type 0 where
  pub came : List ℕ
  pub record_is : old.bytes ++ came ≡ record_of (item_for old.name new.payload) ++ new.bytes
  pub count : length new.payload ≡ n

-- this payload went into the book, and has n bytes; or it is lost without memory, and no other answer comes
abbrev pub GivesPayload : NameBytes → List ℕ → Audited → Came → Audited → Type 0
GivesPayload name payload before (Packet n) after =
    (length payload ≡ n) × ((answer : Taken) × TakesPacket before name payload answer after)
GivesPayload name payload before Dropped after = ⊥
GivesPayload name payload before Nothing after = ⊥
GivesPayload name payload before More after = ⊥
GivesPayload name payload before (Over why) after = why ≡ NoMemory

-- the first field of what is buffered that is whole and not in range is there, or a name of another
abbrev pub IsNoRecord : RecordsView → Type 0
IsNoRecord r = IsBad r.bytes ⊎ NamesOther r.name r.bytes

-- the stream ended between two records, or within one
abbrev pub IsEndOf : ClosedWhy → RecordsView → Type 0
IsEndOf Ended r = r.bytes ≡ []
IsEndOf CutShort r = r.bytes ≢ []
IsEndOf HungUp r = ⊥
IsEndOf (Failed kind) r = ⊥
IsEndOf Malformed r = ⊥
IsEndOf NoMemory r = ⊥
IsEndOf Asked r = ⊥

-- why nothing more comes: what is buffered begins with no record, or the stream ended or failed before one was whole
abbrev pub EndsWith : ClosedWhy → RecordsView → RecordsView → Type 0
EndsWith Malformed old new = HoldsMore old new × IsNoRecord new
EndsWith Ended old new = HoldsPart old new × IsEndOf Ended new
EndsWith CutShort old new = HoldsPart old new × IsEndOf CutShort new
EndsWith HungUp old new = ⊥
EndsWith (Failed kind) old new = HoldsPart old new
EndsWith NoMemory old new = Unit {0}
EndsWith Asked old new = ⊥

-- the outcome of the records of a connection that is asked for a packet
abbrev pub PassesRecords : NameBytes → RecordsView → Audited → Came → RecordsView → Audited → Type 0
PassesRecords name old before (Packet n) new after = GivesRecord name n old before new after
PassesRecords name old before Dropped new after = ⊥
PassesRecords name old before Nothing new after = HoldsPart old new
PassesRecords name old before More new after = HoldsMore old new
PassesRecords name old before (Over why) new after = EndsWith why old new

-- the result of a search for the next record of a connection
abbrev pub FindsRecord : RecordsView → Came → RecordsView → Type 0
FindsRecord old (Packet n) new = CutsFirst n old new
FindsRecord old Dropped new = ⊥
FindsRecord old Nothing new = HoldsPart old new
FindsRecord old More new = HoldsMore old new
FindsRecord old (Over why) new = EndsWith why old new

-- the outcome of the records of a connection whose next packet is dropped
abbrev pub DropsRecord : RecordsView → Came → RecordsView → Type 0
DropsRecord old (Packet n) new = ⊥
DropsRecord old Dropped new = (n : ℕ) × CutsFirst n old new
DropsRecord old Nothing new = HoldsPart old new
DropsRecord old More new = HoldsMore old new
DropsRecord old (Over why) new = EndsWith why old new
