-- The records of ingress streams, checked against worked examples.
use Rattle.std.specs.Prelude.{◌≡◌, ℕ, List, [], ◌∷◌, codes, refl}
use Rattle.std.proofs.Common.{lit<}
use Rattle.share_model.specs.declared.ingress.Ended.TheVariants.{End, Cut, BadRecord}
use Rattle.share_model.specs.ingress.Records.{Item, IsItem, IsCut, cut_in_name, cut_in_length, cut_in_payload}
use Rattle.share_model.specs.ingress.Records.{IsBad, bad_name_length, bad_name, bad_length, record_of, IsRecords}

abbrev item : List ℕ → List ℕ → Item
item name payload = record { name = name; payload = payload }

-- one item for the flow a, with the one byte of payload `a`
abbrev a_item : Item
a_item = item (codes "a") (codes "a")

a_good : IsItem a_item
a_good = record { name = refl; payload = refl }

a_record : record_of a_item ≡ 1 ∷ 97 ∷ 0 ∷ 1 ∷ 97 ∷ []
a_record = refl

-- the second record lacks the last of its two bytes of payload
cut_after_one : IsRecords (1 ∷ 97 ∷ 0 ∷ 1 ∷ 97 ∷ 1 ∷ 97 ∷ 0 ∷ 2 ∷ 98 ∷ []) (a_item ∷ []) Cut
cut_after_one = record {
  rest = 1 ∷ 97 ∷ 0 ∷ 2 ∷ 98 ∷ [];
  front = record { good = (a_good, tt); bytes = refl };
  ends = cut_in_payload (codes "a") 0 2 (98 ∷ []) refl refl (lit< tt) refl;
}

-- the second record begins with a name of no bytes
bad_after_one : IsRecords (1 ∷ 97 ∷ 0 ∷ 1 ∷ 97 ∷ 0 ∷ []) (a_item ∷ []) BadRecord
bad_after_one = record {
  rest = 0 ∷ [];
  front = record { good = (a_good, tt); bytes = refl };
  ends = bad_name_length 0 [] refl refl;
}

-- the second payload has 1491 bytes, and none of them is there
missing_after_one : IsRecords (1 ∷ 97 ∷ 0 ∷ 1 ∷ 97 ∷ 1 ∷ 97 ∷ 5 ∷ 211 ∷ []) (a_item ∷ []) Cut
missing_after_one = record {
  rest = 1 ∷ 97 ∷ 5 ∷ 211 ∷ [];
  front = record { good = (a_good, tt); bytes = refl };
  ends = cut_in_payload (codes "a") 5 211 [] refl refl (lit< tt) refl;
}

-- the second payload would have 9001 bytes
too_long_after_one : IsRecords (1 ∷ 97 ∷ 0 ∷ 1 ∷ 97 ∷ 1 ∷ 97 ∷ 35 ∷ 41 ∷ []) (a_item ∷ []) BadRecord
too_long_after_one = record {
  rest = 1 ∷ 97 ∷ 35 ∷ 41 ∷ [];
  front = record { good = (a_good, tt); bytes = refl };
  ends = bad_length (codes "a") 35 41 [] refl refl refl;
}

none : IsRecords [] [] End
none = record { rest = []; front = record { good = tt; bytes = refl }; ends = refl }

-- a name that begins in upper case, and one of seventeen bytes
upper_case : IsBad (1 ∷ 65 ∷ [])
upper_case = bad_name (codes "A") [] refl refl refl

seventeen : IsBad (17 ∷ [])
seventeen = bad_name_length 17 [] refl refl

-- the length of a payload is cut after its first byte; a name is cut before its first
cut_length : IsCut (1 ∷ 97 ∷ 0 ∷ [])
cut_length = cut_in_length (codes "a") (0 ∷ []) refl (lit< tt) refl

cut_name : IsCut (1 ∷ [])
cut_name = cut_in_name 1 [] refl (lit< tt) refl
