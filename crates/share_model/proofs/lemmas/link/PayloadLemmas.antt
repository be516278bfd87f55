-- Buffers whose packets are seen by an image, such as their payloads: each call makes the same of the images.
use Rattle.std.proofs.Common.{◌≡◌, ◌∙◌, ◌-◌, ◌+◌, ℕ, Bool, true, false, List, [], ◌∷◌, map, drop, find, nat_eq}
use Rattle.std.proofs.Common.{position}
use Rattle.std.proofs.Common.{Option, None, Some, option_map, option_and_then, if◌then◌else◌, refl, sym, ap, nat_le}
use Rattle.std.proofs.lemmas.List.{length-map, map-append}
use Rattle.std.proofs.lemmas.Simd.{map-map}
use Rattle.share_model.specs.link.Frame.{map_packet}
use Rattle.share_model.specs.link.Buffers.{BufferOf, is_buffer_of, buffer_of, backlog_in, backlog_of}
use Rattle.share_model.specs.link.Buffers.{new_buffer, open_in, close_in, count_by}
use Rattle.share_model.specs.link.Buffers.{count_in, with_packet, push_in, is_full, without_head, pop_in, head_in}
use Rattle.share_model.specs.link.Buffers.{head_of_buffer, head_of, is_some_packet, has_packet, is_busy, map_buffer}
use Rattle.share_model.specs.lists.Change.{change_first}
use Rattle.share_model.proofs.lemmas.lists.FirstItemLemmas.{position-map}
use Rattle.share_model.proofs.lemmas.lists.RemovalLemmas.{map-remove_key}

module _ {A B : Type 0} (f : A → B) where
  -- Lists

  find-image : (p : B → Bool) (xs : List A) → find p (map f xs) ≡ option_map f (find (λ x. p (f x)) xs)
  find-image p [] = refl
  find-image p (x ∷ xs) = by_head (p (f x)) (find-image p xs)
    where
      by_head : (b : Bool) → find p (map f xs) ≡ option_map f (find (λ x. p (f x)) xs)
          → (if b then Some (f x) else find p (map f xs))
          ≡ option_map f (if b then Some x else find (λ x. p (f x)) xs)
      by_head true rest = refl
      by_head false rest = rest

  change_first-image : (p : B → Bool) (change : A → A) (other : B → B) → ((x : A) → other (f x) ≡ f (change x))
      → (xs : List A) → change_first p other (map f xs) ≡ map f (change_first (λ x. p (f x)) change xs)
  unfolding change_first
  change_first-image p change other same [] = refl
  change_first-image p change other same (x ∷ xs) =
      by_head (p (f x)) (change_first-image p change other same xs)
    where
      by_head : (b : Bool) → change_first p other (map f xs) ≡ map f (change_first (λ x. p (f x)) change xs)
          → (if b then other (f x) ∷ map f xs else f x ∷ change_first p other (map f xs))
          ≡ map f (if b then change x ∷ xs else x ∷ change_first (λ x. p (f x)) change xs)
      by_head true rest = ap (λ y. y ∷ map f xs) (same x)
      by_head false rest = ap (λ ys. f x ∷ ys) rest

  drop_one-image : (xs : List A) → drop 1 (map f xs) ≡ map f (drop 1 xs)
  drop_one-image [] = refl
  drop_one-image (x ∷ xs) = refl

  some_packet-image : (xs : List A) → is_some_packet (map f xs) ≡ is_some_packet xs
  some_packet-image [] = refl
  some_packet-image (x ∷ xs) = refl

module _ {A B : Type 0} (f : A → B) where
  -- The buffer of a flow

  pub buffer_of-image : (bs : List (BufferOf A)) (n : ℕ)
      → buffer_of (map (map_buffer f) bs) n ≡ option_map (map_buffer f) (buffer_of bs n)
  buffer_of-image bs n = find-image (map_buffer f) (is_buffer_of n) bs

  count_by-image : (o : Option (BufferOf A)) → count_by (option_map (map_buffer f) o) ≡ count_by o
  count_by-image None = refl
  count_by-image (Some b) = length-map b.packets f

  pub count_in-image : (bs : List (BufferOf A)) (n : ℕ) → count_in (map (map_buffer f) bs) n ≡ count_in bs n
  count_in-image bs n = ap count_by (buffer_of-image bs n) ∙ count_by-image (buffer_of bs n)

  backlog_in-image : (o : Option (BufferOf A))
      → option_map backlog_in (option_map (map_buffer f) o) ≡ option_map backlog_in o
  backlog_in-image None = refl
  backlog_in-image (Some b) =
      ap (λ n. Some (record { packets = n; limit = b.limit })) (length-map b.packets f)

  pub backlog_of-image : (bs : List (BufferOf A)) (n : ℕ) → backlog_of (map (map_buffer f) bs) n ≡ backlog_of bs n
  backlog_of-image bs n = ap (option_map backlog_in) (buffer_of-image bs n) ∙ backlog_in-image (buffer_of bs n)

  pub is_full-image : (b : BufferOf A) → is_full (map_buffer f b) ≡ is_full b
  is_full-image b = ap (nat_le b.limit) (length-map b.packets f)

  has_packet-image : (o : Option (BufferOf A)) → has_packet (option_map (map_buffer f) o) ≡ has_packet o
  has_packet-image None = refl
  has_packet-image (Some b) = some_packet-image f b.packets

  pub is_busy-image : (bs : List (BufferOf A)) (n : ℕ) → is_busy (map (map_buffer f) bs) n ≡ is_busy bs n
  is_busy-image bs n = ap has_packet (buffer_of-image bs n) ∙ has_packet-image (buffer_of bs n)

  head_in-image : (b : BufferOf A) (ps : List A)
      → head_in (map_buffer f b) (map f ps) ≡ option_map (map_packet f) (head_in b ps)
  head_in-image b [] = refl
  head_in-image b (p ∷ ps) =
      ap (λ n. Some (record { flow = b.flow; seq = b.next - n; payload = f p })) (length-map (p ∷ ps) f)

  head_by-image : (o : Option (BufferOf A)) → option_and_then head_of_buffer (option_map (map_buffer f) o)
      ≡ option_map (map_packet f) (option_and_then head_of_buffer o)
  head_by-image None = refl
  head_by-image (Some b) = head_in-image b b.packets

  pub head_of-image : (bs : List (BufferOf A)) (n : ℕ)
      → head_of (map (map_buffer f) bs) n ≡ option_map (map_packet f) (head_of bs n)
  head_of-image bs n =
      ap (option_and_then head_of_buffer) (buffer_of-image bs n) ∙ head_by-image (buffer_of bs n)

  -- The place of a buffer

  pub place-image : (bs : List (BufferOf A)) (n : ℕ)
      → position (is_buffer_of n) (map (map_buffer f) bs) ≡ position (is_buffer_of n) bs
  place-image bs n =
      position-map (λ (b : BufferOf B). b.flow) n (map (map_buffer f) bs)
      ∙ ap (position (nat_eq n)) (map-map (λ (b : BufferOf B). b.flow) (map_buffer f) bs)
      ∙ sym (position-map (λ (b : BufferOf A). b.flow) n bs)

  -- Changes of buffers

  pub open_in-image : (bs : List (BufferOf A)) (n limit : ℕ)
      → open_in (map (map_buffer f) bs) n limit ≡ map (map_buffer f) (open_in bs n limit)
  open_in-image bs n limit = sym (map-append (map_buffer f) bs (new_buffer n limit ∷ []))

  pub close_in-image : (bs : List (BufferOf A)) (n : ℕ)
      → close_in (map (map_buffer f) bs) n ≡ map (map_buffer f) (close_in bs n)
  close_in-image bs n = sym (map-remove_key (map_buffer f) (is_buffer_of n) bs)

  pub push_in-image : (bs : List (BufferOf A)) (n : ℕ) (body : A)
      → push_in (map (map_buffer f) bs) n (f body) ≡ map (map_buffer f) (push_in bs n body)
  push_in-image bs n body =
      change_first-image (map_buffer f) (is_buffer_of n) (with_packet body) (with_packet (f body)) pushed bs
    where
      pushed : (b : BufferOf A) → with_packet (f body) (map_buffer f b) ≡ map_buffer f (with_packet body b)
      pushed b =
          ap (λ (ps : List B). record { flow = b.flow; limit = b.limit; next = b.next + 1; packets = ps })
          (sym (map-append f b.packets (body ∷ [])))

  pub pop_in-image : (bs : List (BufferOf A)) (n : ℕ)
      → pop_in (map (map_buffer f) bs) n ≡ map (map_buffer f) (pop_in bs n)
  pop_in-image bs n = change_first-image (map_buffer f) (is_buffer_of n) without_head without_head popped bs
    where
      popped : (b : BufferOf A) → without_head (map_buffer f b) ≡ map_buffer f (without_head b)
      popped b =
          ap (λ (ps : List B). record { flow = b.flow; limit = b.limit; next = b.next; packets = ps })
          (drop_one-image f b.packets)
