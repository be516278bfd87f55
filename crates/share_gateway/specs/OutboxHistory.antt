-- The bytes that an outbox gave out, over its whole life.
use Rattle.std.specs.Prelude.{◌≡◌, ◌≤◌, ◌<◌, ◌⊎◌, ℕ, ◌+◌, List, [], ◌∷◌, ◌++◌, length, take}
use Rattle.std.specs.List.{concat}
use Rattle.share_gateway.specs.Outbox.{OutboxView, empty_outbox, with_frame, allow_more, ready_of, send_more}
use Rattle.share_gateway.specs.Outbox.{begun_again}

-- The calls of an outbox from its beginning on. They have the frames that went in, and the number of bytes allowed.
-- Then come the bytes given out before each `again`, the earliest first, and those given out since the last one. Last
-- comes the outbox as it is.
pub data History : List (List ℕ) → ℕ → List (List ℕ) → List ℕ → OutboxView → Type 0 where
  began : History [] 0 [] [] empty_outbox
  put : (frames : List (List ℕ)) (allowed : ℕ) (before : List (List ℕ)) (given : List ℕ) (o : OutboxView)
      → History frames allowed before given o → (frame : List ℕ)
      → History (frames ++ frame ∷ []) allowed before given (with_frame o frame)
  allow : (frames : List (List ℕ)) (allowed : ℕ) (before : List (List ℕ)) (given : List ℕ) (o : OutboxView)
      → History frames allowed before given o → (n : ℕ)
      → History frames (allowed + n) before given (allow_more n o)
  send : (frames : List (List ℕ)) (allowed : ℕ) (before : List (List ℕ)) (given : List ℕ) (o : OutboxView)
      → History frames allowed before given o → (n : ℕ) → n ≤ length (ready_of o)
      → History frames allowed before (given ++ take n (ready_of o)) (send_more n o)
  again : (frames : List (List ℕ)) (allowed : ℕ) (before : List (List ℕ)) (given : List ℕ) (o : OutboxView)
      → History frames allowed before given o
      → History frames allowed (before ++ given ∷ []) [] (begun_again o)

-- a proper beginning of the first frame: no byte of it, or fewer than it has
abbrev pub IsWithinFirst : ℕ → List (List ℕ) → Type 0
IsWithinFirst n [] = n ≡ 0
IsWithinFirst n (frame ∷ frames) = (n ≡ 0) ⊎ (n < length frame)

-- The first of these frames are gone, and these are left. The bytes of those that are gone were given out whole, in
-- order, and then a proper beginning of the first frame that is left.
pub record IsPart (frames : List (List ℕ)) (given : List ℕ) (left : List (List ℕ)) : Type 0 where
  pub gone : List (List ℕ)
  pub cut : ℕ
  pub frames_are : frames ≡ gone ++ left
  pub given_is : given ≡ concat gone ++ take cut (concat left)
  pub cut_within : IsWithinFirst cut left

-- Each part goes on with the first frame that the part before it left, at its beginning; and these frames are left.
abbrev pub AreParts : List (List ℕ) → List (List ℕ) → List (List ℕ) → Type 0
AreParts frames [] left = frames ≡ left
AreParts frames (given ∷ parts) left =
    (between : List (List ℕ)) × IsPart frames given between × AreParts between parts left
