-- The buffer and the book of an open flow stand at the same handle, in order of opening.
use Rattle.std.proofs.Common.{◌≡◌, ◌∙◌, ◌+◌, ℕ, List, [], ◌∷◌, map, length, position, cond, not, nat_eq, nat_lt}
use Rattle.std.proofs.Common.{Option, None, Some, IsSome, refl, sym, ap, subst}
use Rattle.std.specs.List.{position_or_len}
use Rattle.std.proofs.lemmas.List.{length-map}
use Rattle.share_model.specs.declared.link.Book.{Book}
use Rattle.share_model.specs.declared.rates.Rate.{Rate}
use Rattle.share_model.specs.link.Buffers.{Buffer, buffer_of, is_buffer_of}
use Rattle.share_model.specs.link.Live.{Live}
use Rattle.share_model.specs.link.Books.{is_book_of}
use Rattle.share_model.specs.link.View.{LinkView}
use Rattle.share_model.specs.run.Sound.{Sound}
use Rattle.share_flows.specs.declared.buffers.BufferHandle.{BufferHandle}
use Rattle.share_flows.proofs.FirstItemLemmas.{is_found}
use Rattle.share_flows.specs.BufferHandles.{Stands}

abbrev place_within : ℕ → ℕ → Option ℕ
place_within n len = cond (nat_lt n len) (Some n) None

position_or_len-map : {A : Type 0} (key : A → ℕ) (f : ℕ) (xs : List A)
    → position_or_len (λ x. nat_eq f (key x)) xs ≡ position_or_len (nat_eq f) (map key xs)
position_or_len-map key f [] = refl
position_or_len-map key f (x ∷ xs) =
    ap (λ n. cond (not (nat_eq f (key x))) (1 + n) 0) (position_or_len-map key f xs)

-- the first item of a number stands where the number stands first
position-map : {A : Type 0} (key : A → ℕ) (f : ℕ) (xs : List A)
    → position (λ x. nat_eq f (key x)) xs ≡ position (nat_eq f) (map key xs)
position-map key f xs =
    ap (λ n. place_within n (length xs)) (position_or_len-map key f xs)
    ∙ ap (place_within (position_or_len (nat_eq f) (map key xs))) (sym (length-map xs key))

pub booked_at : {life : ℕ} {rates : List Rate} {l : Live} → Sound life rates l → (handle : BufferHandle)
    → Stands l.buffers handle → position (is_book_of handle.flow) l.books ≡ Some handle.at
booked_at {l = l} sound handle stands =
    position-map (λ (b : Book). b.flow) handle.flow l.books
    ∙ ap (position (nat_eq handle.flow)) (sound.flows.booked ∙ sym sound.flows.buffered)
    ∙ sym (position-map (λ (b : Buffer). b.flow) handle.flow l.buffers) ∙ stands

-- the flow of a buffer that stands at a handle has a buffer
pub buffered_at : (bs : List Buffer) (handle : BufferHandle) → Stands bs handle → IsSome (buffer_of bs handle.flow)
buffered_at bs handle stands = is_found (is_buffer_of handle.flow) bs handle.at stands

-- a buffer stands where it was seen to stand
pub stands_in : (k n : LinkView (Unit {0})) (handle : BufferHandle) → k ≡ n → Stands n.live.buffers handle
    → Stands k.live.buffers handle
stands_in k n handle same stands =
    subst (λ (k : LinkView (Unit {0})). Stands k.live.buffers handle) (sym same) stands
