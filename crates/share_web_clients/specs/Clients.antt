-- The view of a connection in contracts, and the effects of its calls.
use Rattle.std.specs.Prelude.{◌≡◌, ◌-◌, ◌⊎◌, ℕ, Bool, true, false, ◌&&◌, ◌||◌, List, [], drop}
use Rattle.share_web.specs.Heads.{is_over, taken}
use Rattle.share_web_clients.specs.declared.client.Stage.{Stage}
use Rattle.share_web_clients.specs.declared.client.Stage.TheVariants.{Reading, Asked, Answering, Closing, Over}

-- the token of its events, the nanoseconds of its beginning, and its stage. Then come the bytes of its head, those of
-- its answer that the socket has not taken, and what the socket may be ready for
pub record ClientView : Type 0 where
  pub token : ℕ
  pub begun : ℕ
  pub stage : Stage
  pub head : List ℕ
  pub answer : List ℕ
  pub reads : Bool
  pub writes : Bool

abbrev pub new_client : ℕ → ℕ → ClientView
new_client token now = record {
  token = token;
  begun = now;
  stage = Reading;
  head = [];
  answer = [];
  reads = true;
  writes = true;
}

-- its socket may be ready for more
abbrev pub noted : Bool → Bool → ClientView → ClientView
noted reads writes c = record c { reads = c.reads || reads; writes = c.writes || writes }

-- of ten seconds
abbrev pub time_left : ℕ → ClientView → ℕ
time_left now c = 10000000000 - (now - c.begun)

-- ---- The work that is left

-- bytes that come are read
abbrev pub is_reading : Stage → Bool
is_reading Reading = true
is_reading Asked = false
is_reading Answering = false
is_reading Closing = true
is_reading Over = false

-- bytes that come are of the head
abbrev pub is_open : Stage → Bool
is_open Reading = true
is_open Asked = false
is_open Answering = false
is_open Closing = false
is_open Over = false

abbrev pub is_answering : Stage → Bool
is_answering Reading = false
is_answering Asked = false
is_answering Answering = true
is_answering Closing = false
is_answering Over = false

abbrev pub takes : ClientView → Bool
takes c = c.reads && is_reading c.stage

abbrev pub sends : ClientView → Bool
sends c = c.writes && is_answering c.stage

abbrev pub is_busy : ClientView → Bool
is_busy c = takes c || sends c

-- ---- Bytes that come and go

-- a connection asks once, if its head is over
abbrev pub Asks : ClientView → ClientView → Type 0
Asks c d = (is_open c.stage ≡ true) × (d.stage ≡ Asked) × (is_over d.head ≡ true)

-- bytes are added to the head, or are left out
pub record Reads (c d : ClientView) : Type 0 where
  pub same : d ≡ record c { stage = d.stage; head = d.head; reads = d.reads }
  pub head : (bytes : List ℕ) × (d.head ≡ taken c.head bytes)
  pub stage : (d.stage ≡ c.stage) ⊎ ((d.stage ≡ Over) ⊎ Asks c d)
  pub waits : is_open d.stage ≡ true → is_over c.head ≡ false → is_over d.head ≡ false

-- the answer has gone out whole
abbrev pub Closes : ClientView → ClientView → Type 0
Closes c d = (is_answering c.stage ≡ true) × (d.stage ≡ Closing) × (d.answer ≡ [])

-- the first bytes of the answer go out
pub record Sends (c d : ClientView) : Type 0 where
  pub same : d ≡ record c { stage = d.stage; answer = d.answer; writes = d.writes }
  pub sent : (count : ℕ) × (d.answer ≡ drop count c.answer)
  pub stage : (d.stage ≡ c.stage) ⊎ ((d.stage ≡ Over) ⊎ Closes c d)
