-- The front of the bytes of a stream.
use Rattle.std.specs.Prelude.{◌≡◌, ◌⊎◌, ℕ, List, [], ◌++◌, length}
use Rattle.share_model.specs.ingress.Records.{IsItem, record_of, IsCut, IsBad}
use Rattle.share_ingress.specs.declared.record.Found.{Found}
use Rattle.share_ingress.specs.declared.record.Found.TheVariants.{Whole, Bad, Part}

-- a whole record, with this name and a payload of this length
pub record BeginsWhole (bs name : List ℕ) (size : ℕ) : Type 0 where
  pub payload : List ℕ
  pub rest : List ℕ
  pub item : IsItem (record { name = name; payload = payload })
  pub size_is : length payload ≡ size
  pub bytes : bs ≡ record_of (record { name = name; payload = payload }) ++ rest

-- there is no whole record, and no whole field out of its range
abbrev pub NeedsMore : List ℕ → Type 0
NeedsMore bs = (bs ≡ []) ⊎ IsCut bs

abbrev pub IsFound : List ℕ → Found → Type 0
IsFound bs (Whole name size) = BeginsWhole bs name size
IsFound bs Bad = IsBad bs
IsFound bs Part = NeedsMore bs
