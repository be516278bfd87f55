-- The places of flows in the queue along a chain of calls, as `position` answers.
use Rattle.std.specs.Prelude.{◌≡◌, ◌≢◌, ℕ, ℤ, pos, ◌+ℤ◌, ◌-ℤ◌, ◌≤ℤ◌, List, [], ◌∷◌, None, IsSomeAnd, IsTrue}
use Rattle.std.specs.Int.{int_max}
use Rattle.std.specs.Option.{option_map_or}
use Rattle.share_model.specs.declared.stride.Position.{Position}
use Rattle.share_model.specs.declared.writer.Answer.{Answer}
use Rattle.share_model.specs.link.Chains.{IsChain, last_link}
use Rattle.share_model.specs.link.Readings.{position_at}
use Rattle.share_model.specs.link.View.{LinkView}
use Rattle.share_model.specs.lists.Each.{Each}

-- the flow is open and competes with this many tickets
abbrev pub IsCompeting : {W : Type 0} → LinkView W → ℕ → ℕ → Type 0
IsCompeting link flow tickets =
    IsSomeAnd (position_at link flow) (λ position. IsTrue position.competing × (position.tickets ≡ tickets))

-- the place of a flow: its pass, if it competes. 0 if it is not open
abbrev pub place_of : {W : Type 0} → LinkView W → ℕ → ℤ
place_of link flow = option_map_or (λ (position : Position). position.place) (position_at link flow) (pos 0)

-- the difference of the place of a flow from one link to another
abbrev pub gain : {W : Type 0} → ℕ → LinkView W → LinkView W → ℤ
gain flow before after = place_of after flow -ℤ place_of before flow

-- the largest gain of a flow in a single call of a chain, and 0 if there was no call
abbrev pub largest_gain : {W : Type 0} → ℕ → LinkView W → List (LinkView W) → ℤ
largest_gain flow first [] = pos 0
largest_gain flow first (next ∷ later) = int_max (gain flow first next) (largest_gain flow next later)

-- the gain of `one` in a chain is at most the greater of 0 and a sum of three terms. They are the gain of `other`, the
-- lead of its place at the start, and the largest gain of `one` in a call
abbrev pub GainsWithinShare : {W : Type 0} → ℕ → ℕ → LinkView W → List (LinkView W) → Type 0
GainsWithinShare one other first later =
    gain one first (last_link first later)
    ≤ℤ int_max (pos 0)
    (gain other first (last_link first later)
    +ℤ (place_of first other -ℤ place_of first one)
    +ℤ largest_gain one first later)

-- in every chain of calls on this link that begins with no frame in part, either of two flows gains within its share.
-- The condition is that both compete throughout, each with tickets that stay the same
abbrev pub GainsAreWithinShares : {W : Type 0} → (W → List ℕ → Answer → W → Type 0) → LinkView W → Type 0
GainsAreWithinShares answers first =
    (later : List (LinkView _)) (one other one_tickets other_tickets : ℕ) → one ≢ other → first.live.part ≡ None
    → IsChain answers first later
    → Each (λ link. IsCompeting link one one_tickets × IsCompeting link other other_tickets) (first ∷ later)
    → GainsWithinShare one other first later
