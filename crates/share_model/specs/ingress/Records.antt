-- The records of an ingress stream. A record has the length of a name in one byte, and the name. Then come the length
-- of a payload in two bytes, big-endian, and the payload.
use Rattle.std.specs.Prelude.{◌≡◌, ◌<◌, ◌+◌, ◌*◌, ◌/◌, ◌%◌, ⊤, ℕ, Bool, true, false, ◌&&◌, nat_le}
use Rattle.std.specs.Prelude.{List, [], ◌∷◌, ◌++◌, length}
use Rattle.share_model.specs.lists.Each.{Each}
use Rattle.share_base.specs.Body.{is_payload_length}
use Rattle.share_base.specs.Name.{is_name}
use Rattle.share_model.specs.declared.ingress.Ended.{Ended}
use Rattle.share_model.specs.declared.ingress.Ended.TheVariants.{End, Cut, BadRecord, Fault, NoMemory, Bound}

pub record Item : Type 0 where
  pub name : List ℕ
  pub payload : List ℕ

-- a name, and 1 to 9000 bytes
pub record IsItem (i : Item) : Type 0 where
  pub name : is_name i.name ≡ true
  pub payload : is_payload_length (length i.payload) ≡ true

abbrev pub two_bytes : ℕ → List ℕ
two_bytes n = n / 256 ∷ n % 256 ∷ []

-- the record of an item
abbrev pub record_of : Item → List ℕ
record_of i = (length i.name ∷ i.name) ++ two_bytes (length i.payload) ++ i.payload

abbrev pub records_of : List Item → List ℕ
records_of [] = []
records_of (i ∷ is) = record_of i ++ records_of is

-- the length of a name is 1 to 16
abbrev pub is_name_length : ℕ → Bool
is_name_length n = nat_le 1 n && nat_le n 16

-- inside a record a field is not whole, and those before it are in range
pub data IsCut (bs : List ℕ) : Type 0 where
  cut_in_name : (n : ℕ) (part : List ℕ) → is_name_length n ≡ true → length part < n → bs ≡ n ∷ part → IsCut bs
  cut_in_length : (name part : List ℕ) → is_name name ≡ true → length part < 2
      → bs ≡ (length name ∷ name) ++ part → IsCut bs
  cut_in_payload : (name : List ℕ) (high low : ℕ) (part : List ℕ) → is_name name ≡ true
      → is_payload_length (high * 256 + low) ≡ true → length part < high * 256 + low
      → bs ≡ (length name ∷ name) ++ high ∷ low ∷ part → IsCut bs

-- a whole field is out of its range, and those before it are in range
pub data IsBad (bs : List ℕ) : Type 0 where
  bad_name_length : (n : ℕ) (rest : List ℕ) → is_name_length n ≡ false → bs ≡ n ∷ rest → IsBad bs
  bad_name : (name rest : List ℕ) → is_name_length (length name) ≡ true → is_name name ≡ false
      → bs ≡ (length name ∷ name) ++ rest → IsBad bs
  bad_length : (name : List ℕ) (high low : ℕ) (rest : List ℕ) → is_name name ≡ true
      → is_payload_length (high * 256 + low) ≡ false → bs ≡ (length name ∷ name) ++ high ∷ low ∷ rest → IsBad bs

-- the end that the bytes after the whole records give a stream; a fault, lack of memory and a bound may come before any
-- bytes
abbrev pub EndsAs : Ended → List ℕ → Type 0
EndsAs End bs = bs ≡ []
EndsAs Cut bs = IsCut bs
EndsAs BadRecord bs = IsBad bs
EndsAs Fault bs = ⊤
EndsAs NoMemory bs = ⊤
EndsAs Bound bs = ⊤

-- the items of whole records in front of a stream, and the bytes after them
pub record Front (bs : List ℕ) (items : List Item) (rest : List ℕ) : Type 0 where
  pub good : Each IsItem items
  pub bytes : bs ≡ records_of items ++ rest

-- the items of the longest front of whole records, and how the rest ends
pub record IsRecords (bs : List ℕ) (items : List Item) (ended : Ended) : Type 0 where
  pub rest : List ℕ
  pub front : Front bs items rest
  pub ends : EndsAs ended rest
