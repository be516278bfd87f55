-- The view of the records of a tenant in contracts, cut out of a stream that comes in pieces.
use Rattle.std.specs.Prelude.{◌≡◌, ◌≢◌, ◌⊎◌, ℕ, true, List, [], ◌∷◌, ◌++◌, length}
use Rattle.share_model.specs.ingress.Records.{Item, IsItem, record_of, is_name_length, IsBad}
use Rattle.share_ingress.specs.Found.{NeedsMore}
use Rattle.share_gateway.specs.declared.records.Cut.{Cut}
use Rattle.share_gateway.specs.declared.records.Cut.TheVariants.{Item as ItemCut, More, Bad}

-- the name of the tenant, and the bytes of the stream that were not given yet. Then comes the payload that was given
-- last, until more of the stream comes
pub record RecordsView : Type 0 where
  pub name : List ℕ
  pub bytes : List ℕ
  pub payload : List ℕ

-- the item of a payload for the tenant
abbrev pub item_for : List ℕ → List ℕ → Item
item_for name payload = record { name = name; payload = payload }

-- the bytes begin with a whole name that is not this one
pub record NamesOther (name bytes : List ℕ) : Type 0 where
  pub other : List ℕ
  pub rest : List ℕ
  pub in_range : is_name_length (length other) ≡ true
  pub differs : other ≢ name
  pub bytes_are : bytes ≡ (length other ∷ other) ++ rest

-- if the bytes begin with a whole name, it is this one
abbrev pub NamesOnly : List ℕ → List ℕ → Type 0
NamesOnly name bytes =
    (other rest : List ℕ) → is_name_length (length other) ≡ true → bytes ≡ (length other ∷ other) ++ rest
    → other ≡ name

-- a record of the tenant was in front, and its payload is given
pub record GivesItem (old new : RecordsView) : Type 0 where
  pub good : IsItem (item_for old.name new.payload)
  pub bytes : old.bytes ≡ record_of (item_for old.name new.payload) ++ new.bytes
  pub name : new.name ≡ old.name

-- the answer that is right, and what it leaves. The record in front is given. Or no record is whole, and none of its
-- fields that are whole is bad. Or one is out of its range, or the name of another
abbrev pub CutsRecord : RecordsView → Cut → RecordsView → Type 0
CutsRecord old ItemCut new = GivesItem old new
CutsRecord old More new = NeedsMore old.bytes × NamesOnly old.name old.bytes × (new ≡ old)
CutsRecord old Bad new = (IsBad old.bytes ⊎ NamesOther old.name old.bytes) × (new ≡ old)

-- The calls for a tenant from the beginning on. They have the bytes that were fed, one piece after the other, the
-- payloads that were given, and the bytes that were not given yet.
pub data Reads (name : List ℕ) : List ℕ → List (List ℕ) → List ℕ → Type 0 where
  began : Reads name [] [] []
  fed : (stream : List ℕ) (payloads : List (List ℕ)) (bytes : List ℕ) → Reads name stream payloads bytes
      → (piece : List ℕ) → Reads name (stream ++ piece) payloads (bytes ++ piece)
  given : (stream : List ℕ) (payloads : List (List ℕ)) (bytes : List ℕ) → Reads name stream payloads bytes
      → (payload rest : List ℕ) → IsItem (item_for name payload) → bytes ≡ record_of (item_for name payload) ++ rest
      → Reads name stream (payloads ++ payload ∷ []) rest
