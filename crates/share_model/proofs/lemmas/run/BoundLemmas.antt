-- Consequences for every run of the invariant of every link: it is level, and its passes and accounts are bounded.
use Rattle.std.specs.Prelude.{◌≡◌, ◌<◌, ◌≤◌, ◌+◌, ◌-◌, ◌*◌, ◌^◌, ℕ, List, find, Some}
use Rattle.std.specs.FinMap.{get}
use Rattle.std.proofs.Common.{ap, arith}
use Rattle.std.proofs.Math.Nat.{mul-le-mul_left}
use Rattle.std.proofs.lemmas.Int.{ints}
use Rattle.share_base.specs.declared.command.Event.{Event}
use Rattle.share_base.specs.declared.version.Version.{Version}
use Rattle.share_model.specs.declared.link.Book.{Book}
use Rattle.share_model.specs.declared.rates.Rate.{Rate}
use Rattle.share_model.specs.declared.stride.Client.{Client}
use Rattle.share_model.specs.link.Tariff.{AreInRange}
use Rattle.share_model.specs.link.Live.{Live, with_level_queue, tickets_of_all}
use Rattle.share_model.specs.link.Books.{is_book_of}
use Rattle.share_model.specs.stride.Moves.{Stride}
use Rattle.share_model.specs.stride.Bound.{IsSound, IsBounded, IsNearGlobalPass, distance}
use Rattle.share_model.specs.stride.Level.{IsLevel}
use Rattle.share_model.proofs.lemmas.stride.LevellingLemmas.{level_stays}
use Rattle.share_model.specs.run.Fold.{empty_state, run}
use Rattle.share_model.specs.run.Events.{MayFollow}
use Rattle.share_model.specs.run.Sound.{max_life}
use Rattle.share_model.proofs.lemmas.run.SoundLinkLemmas.{book-account}
use Rattle.share_model.proofs.lemmas.run.EventLemmas.{run-sound}

-- Levels

-- a link that is level levels to itself
pub level-stays : (l : Live) → IsLevel l.queue (tickets_of_all l.graph) → with_level_queue l ≡ l
level-stays l level = ap (λ q. record l { queue = q }) (level_stays l.queue (tickets_of_all l.graph) level)

pub run-level : (version : Version) (life : ℕ) (rates : List Rate) (es : List Event) → AreInRange rates
    → MayFollow life rates (empty_state version) es
    → IsLevel (run version rates es).live.queue (tickets_of_all (run version rates es).live.graph)
run-level version life rates es range may = (run-sound version life rates es range may).live.level

pub run-with_level_queue : (version : Version) (life : ℕ) (rates : List Rate) (es : List Event) → AreInRange rates
    → MayFollow life rates (empty_state version) es
    → with_level_queue (run version rates es).live ≡ (run version rates es).live
run-with_level_queue version life rates es range may =
    level-stays (run version rates es).live (run-level version life rates es range may)

-- Bounds

clock_short : (life events clock : ℕ) → life ≤ max_life → events ≤ life → clock ≤ events * 11842 → clock < 2 ^ 38
clock_short life events clock short few within = omega arith

-- fewer than 2^38 units are charged in a life
pub run-clock : (version : Version) (life : ℕ) (rates : List Rate) (es : List Event) → life ≤ max_life
    → AreInRange rates
    → MayFollow life rates (empty_state version) es → (run version rates es).live.queue.clock < 2 ^ 38
run-clock version life rates es short range may =
    let sound = (run-sound version life rates es range may).live in
    clock_short life (run version rates es).live.counts.events (run version rates es).live.queue.clock short
    sound.counts.events
    sound.queue.clock

near_bounded : (s : Stride) (c : Client) → IsBounded s.pass s.last s.clock c → s.last ≤ s.clock → IsNearGlobalPass s c
near_bounded s c bounded time =
    let more : c.stride * (1 + s.last) ≤ c.stride * (1 + s.clock) = mul-le-mul_left c.stride (omega arith) in
    let z = distance s.pass c in
    omega (arith, ints, more, bounded.above, bounded.below)

-- no pass is far from the global one
pub run-near : (version : Version) (life : ℕ) (rates : List Rate) (es : List Event) → life ≤ max_life → AreInRange rates
    → MayFollow life rates (empty_state version) es → (f : ℕ) (c : Client)
    → get (run version rates es).live.queue.clients f ≡ Some c
    → IsNearGlobalPass (run version rates es).live.queue c
run-near version life rates es short range may f c found =
    let sound : IsSound (run version rates es).live.queue =
    (run-sound version life rates es range may).live.queue.sound short in
    near_bounded (run version rates es).live.queue c (sound.clients f c found) sound.time

account_short : (life events account : ℕ) → life ≤ max_life → events ≤ life → account ≤ events * (2 ^ 30 - 1)
    → account < 2 ^ 54
account_short life events account short few within = omega arith

-- accounts stay below 2^54
pub run-account : (version : Version) (life : ℕ) (rates : List Rate) (es : List Event) → life ≤ max_life
    → AreInRange rates
    → MayFollow life rates (empty_state version) es → (f : ℕ) (b : Book)
    → find (is_book_of f) (run version rates es).live.books ≡ Some b
    → b.account < 2 ^ 54
run-account version life rates es short range may f b found =
    let sound = (run-sound version life rates es range may).live in
    account_short life (run version rates es).live.counts.events b.account short sound.counts.events
    (book-account sound f found)

-- and so do those of closed flows together
pub run-past_short : (version : Version) (life : ℕ) (rates : List Rate) (es : List Event) → life ≤ max_life
    → AreInRange rates
    → MayFollow life rates (empty_state version) es → (run version rates es).live.counts.past < 2 ^ 54
run-past_short version life rates es short range may =
    let sound = (run-sound version life rates es range may).live in
    account_short life (run version rates es).live.counts.events (run version rates es).live.counts.past short
    sound.counts.events
    (omega (arith, sound.books.accounts))
