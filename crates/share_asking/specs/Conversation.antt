-- The bytes that are sent to the peer and those that are printed, if a reader and a writer know their bytes.
use Rattle.std.specs.Prelude.{◌≡◌, ◌≢◌, ◌++◌, ◌∷◌, [], ℕ, All, Bool, List, MatchBool, Option, codes, false}
use Rattle.std.specs.Io.KnownBytes.{Appends, Consumes}
use Rattle.std.specs.List.{flat_map, list_any}
use Rattle.share_asking.specs.Replies.{goes_on, is_end, is_refusal}

-- a text and its line feed
abbrev pub with_feed : List ℕ → List ℕ
with_feed text = text ++ 10 ∷ []

-- texts with their line feeds
abbrev pub lines_bytes : List (List ℕ) → List ℕ
lines_bytes texts = flat_map with_feed texts

-- a text without a line feed
abbrev pub IsRow : List ℕ → Type 0
IsRow text = All (λ byte. byte ≢ 10) text

-- these rows were read, and printed as they are
pub record Passed (had has before after : Option (List ℕ)) (rows : List (List ℕ)) : Type 0 where
  pub read : Consumes had has (lines_bytes rows)
  pub printed : Appends before after (lines_bytes rows)
  pub each : All IsRow rows

-- the last row is `end`, and no other is
pub record IsToEnd (rows : List (List ℕ)) : Type 0 where
  pub others : List (List ℕ)
  pub no_end : All (λ row. is_end row ≡ false) others
  pub end : rows ≡ others ++ codes "end" ∷ []

-- a whole reply to a line: rows up to `end` if it goes on after the first one, and otherwise that one
pub record IsReply (line : List ℕ) (reply : List (List ℕ)) : Type 0 where
  pub first : List ℕ
  pub others : List (List ℕ)
  pub rows : reply ≡ first ∷ others
  pub whole : MatchBool (goes_on line first) (IsToEnd others) (others ≡ [])

-- the reply is a refusal
abbrev pub is_refused : List (List ℕ) → Bool
is_refused [] = false
is_refused (row ∷ rows) = is_refusal row

-- a whole reply to each line, in order
abbrev pub AreReplies : List (List ℕ) → List (List (List ℕ)) → Type 0
AreReplies [] [] = Unit {0}
AreReplies [] (reply ∷ replies) = ⊥
AreReplies (line ∷ lines) [] = ⊥
AreReplies (line ∷ lines) (reply ∷ replies) = IsReply line reply × AreReplies lines replies

-- rows up to `end` were read and printed
pub record PassedToEnd (had has before after : Option (List ℕ)) : Type 0 where
  pub rows : List (List ℕ)
  pub passed : Passed had has before after rows
  pub to_end : IsToEnd rows

-- the replies to lines were read and printed, whole and in order, and this says whether one is a refusal
pub record Answered (had has before after : Option (List ℕ)) (lines : List (List ℕ)) (refused : Bool) : Type 0 where
  pub replies : List (List (List ℕ))
  pub are : AreReplies lines replies
  pub passed : Passed had has before after (flat_map (λ reply. reply) replies)
  pub refusal : refused ≡ list_any is_refused replies
