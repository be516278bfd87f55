-- A value is read from the text that spells it, and from no other text.
use Rattle.std.specs.Prelude.{◌≡◌, ◌≢◌, ℕ, List, ◌∷◌, Option, MatchOption}

-- no value that fits is spelled by these bytes
pub record IsSpelledByNone (A : Type 0) (text : A → List ℕ) (Fits : A → Type 0) (bytes : List ℕ) : Type 0 where
  pub none : (a : A) → Fits a → text a ≢ bytes

-- the value that these bytes spell, or there is none
abbrev pub Reads : {A : Type 0} → (A → List ℕ) → (A → Type 0) → List ℕ → Option A → Type 0
Reads text Fits bytes read =
    MatchOption read (IsSpelledByNone _ text Fits bytes) (λ a. Fits a × (text a ≡ bytes))

-- each value fits
abbrev pub Any : {A : Type 0} → A → Type 0
Any a = Unit {0}

-- the first of these pieces spells no value that fits
pub record BeginsWithNone (A : Type 0) (text : A → List ℕ) (Fits : A → Type 0) (pieces : List (List ℕ)) : Type 0 where
  pub none : (a : A) (rest : List (List ℕ)) → Fits a → pieces ≢ text a ∷ rest

-- the value of the first piece, and the pieces after it
abbrev pub ReadsNext : {A : Type 0} → (A → List ℕ) → (A → Type 0) → List (List ℕ) → List (List ℕ) → Option A → Type 0
ReadsNext text Fits before after read =
    MatchOption read (BeginsWithNone _ text Fits before) (λ a. Fits a × (before ≡ text a ∷ after))
