-- Lists that are split into two, each in its order.
use Rattle.std.proofs.Common.{◌≡◌, ℕ, zero, suc, ◌+◌, ◌-◌, List, [], ◌∷◌, ◌++◌, length, take, arith, refl}
use Rattle.share_lives.specs.LifeHistory.{Splits, nothing, kept, lost}

pub all-kept : (ps : List (List ℕ)) → Splits ps ps []
all-kept [] = nothing
all-kept (p ∷ ps) = kept p ps ps [] (all-kept ps)

-- more come, and are among the second ones
pub more-kept : (all some others ps : List (List ℕ)) → Splits all some others → Splits (all ++ ps) (some ++ ps) others
more-kept _ _ _ ps nothing = all-kept ps
more-kept _ _ _ ps (kept p all some others split) =
    kept p (all ++ ps) (some ++ ps) others (more-kept all some others ps split)
more-kept _ _ _ ps (lost p all some others split) =
    lost p (all ++ ps) (some ++ ps) others (more-kept all some others ps split)

-- n of the second ones went to the third ones
pub record Fewer (all some others : List (List ℕ)) (n : ℕ) : Type 0 where
  pub gone : List (List ℕ)
  pub splits : Splits all some gone
  pub count : length gone ≡ length others + n

-- all but the first n of the second ones go
pub first-kept : (all some others : List (List ℕ)) (n : ℕ) → Splits all some others
    → Fewer all (take n some) others (length some - n)
first-kept _ _ _ zero nothing = record { gone = []; splits = nothing; count = omega arith }
first-kept _ _ _ (suc n) nothing = record { gone = []; splits = nothing; count = omega arith }
first-kept _ _ _ zero (kept p all some others split) =
    let rest : Fewer all [] others (length some - zero) = first-kept all some others zero split in
    let count = rest.count in
    record { gone = p ∷ rest.gone; splits = lost p all [] rest.gone rest.splits; count = omega (arith, count) }
first-kept _ _ _ (suc n) (kept p all some others split) =
    let rest : Fewer all (take n some) others (length some - n) = first-kept all some others n split in
    let count = rest.count in
    record {
      gone = rest.gone;
      splits = kept p all (take n some) rest.gone rest.splits;
      count = omega (arith, count);
    }
first-kept _ _ _ zero (lost p all some others split) =
    let rest : Fewer all (take zero some) others (length some - zero) = first-kept all some others zero split in
    let count = rest.count in
    record {
      gone = p ∷ rest.gone;
      splits = lost p all (take zero some) rest.gone rest.splits;
      count = omega (arith, count);
    }
first-kept _ _ _ (suc n) (lost p all some others split) =
    let rest : Fewer all (take (suc n) some) others (length some - suc n) = first-kept all some others (suc n) split in
    let count = rest.count in
    record {
      gone = p ∷ rest.gone;
      splits = lost p all (take (suc n) some) rest.gone rest.splits;
      count = omega (arith, count);
    }
