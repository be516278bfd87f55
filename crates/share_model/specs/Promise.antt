-- The promise of this project, said of a list of events. Take every list of commands, arrivals and link turns, and any
-- bytes that each write accepts, up to the writer's first fault. The replies, accounts and bytes written are those of
-- one plain fold. Each next frame of the fold carries the head packet of the flow with the least pass, on tickets
-- computed from scratch.
use Rattle.std.specs.Prelude.{◌≡◌, ◌<◌, ◌≤◌, ℕ, List, [], ◌∷◌, ◌++◌, length, take, find, filter, nat_lt, Option, None}
use Rattle.std.specs.Prelude.{Some, IfSome}
use Rattle.share_base.specs.declared.command.Event.{Event}
use Rattle.share_base.specs.declared.command.Event.TheVariants.{Written, Faulted}
use Rattle.share_base.specs.declared.command.Outcome.{Outcome}
use Rattle.share_base.specs.declared.version.Version.{Version}
use Rattle.share_model.specs.declared.link.Book.{Book}
use Rattle.share_model.specs.declared.link.Part.{Part}
use Rattle.share_model.specs.declared.rates.Rate.{Rate}
use Rattle.share_model.specs.io.Told.{Told}
use Rattle.share_model.specs.link.Buffers.{head_of}
use Rattle.share_model.specs.link.Live.{Live, tickets_of_all}
use Rattle.share_model.specs.link.Turns.{Sending, rest_of}
use Rattle.share_model.specs.link.Books.{is_book_of, tariff_of}
use Rattle.share_model.specs.run.Events.{MayFollow, writes_in}
use Rattle.share_model.specs.run.Fold.{State, empty_state, outcomes, run, out}
use Rattle.share_model.specs.run.History.{AreFramesOf, bill, past_bill}
use Rattle.share_model.specs.stride.Level.{IsLevel}
use Rattle.share_model.specs.stride.Moves.{IsNextFlow}

-- The next frame

-- a frame of the link's version, that of the head packet of a flow, under the tariff of this flow
pub record CarriesHead (l : Live) (s : Sending) : Type 0 where
  pub version : s.version ≡ l.version
  pub tariff : s.tariff ≡ tariff_of l.books s.head.flow
  pub head : head_of l.buffers s.head.flow ≡ Some s.head

-- a new frame, of which no byte is out. Its flow is the competing one with the least pass, and of equal passes with the
-- least number
pub record IsBegun (l : Live) (s : Sending) : Type 0 where
  pub least : IsNextFlow l.queue.clients s.head.flow
  pub carries : CarriesHead l s
  pub first : s.out ≡ 0

-- the frame in part, from its first byte that is not out: its flow is the same
pub record IsGoneOnWith (l : Live) (p : Part) (s : Sending) : Type 0 where
  pub flow : s.head.flow ≡ p.flow
  pub carries : CarriesHead l s
  pub after : s.out ≡ p.out

-- a frame is begun only if none is in part
abbrev pub IsNextFrame : Live → Option Part → Sending → Type 0
IsNextFrame l None s = IsBegun l s
IsNextFrame l (Some p) s = IsGoneOnWith l p s

-- the writer accepted k bytes, at least one: the next ones of the next frame
pub record Writes (before after : State) (k : ℕ) : Type 0 where
  pub frame : Sending
  pub next : IsNextFrame before.live before.live.part frame
  pub some : 0 < k
  pub fits : k ≤ length (rest_of frame)
  pub bytes : out after ≡ out before ++ take k (rest_of frame)

-- the writer failed on the next frame, and no byte was written then or later
pub record Fails (before last : State) : Type 0 where
  pub frame : Sending
  pub next : IsNextFrame before.live before.live.part frame
  pub bytes : out last ≡ out before

-- The promise

-- the version of a link's frames, its life and its tariffs. Then come the events that it made, in their order, and the
-- replies to them. Last come what the link holds after them, and what its writer reports, if it reports anything
pub record Promise (version : Version) (life : ℕ) (rates : List Rate) (events : List Event) (replies : List Outcome)
    (l : Live) (told : Option Told) : Type 0 where
  -- commands and arrivals came in any order; writes accepted any counts, and none came after a fault
  pub follow : MayFollow life rates (empty_state version) events
  -- the replies are those of the fold, and the link holds what the fold comes to
  pub replies_are : replies ≡ outcomes rates (empty_state version) events
  pub holds : l ≡ (run version rates events).live
  -- an account is the price of what was written of its flow; the same holds of those of closed flows together
  pub accounts : (flow : ℕ) (book : Book) → find (is_book_of flow) l.books ≡ Some book
      → book.account ≡ bill rates (run version rates events) flow
  pub past : l.counts.past ≡ past_bill rates (run version rates events)
  -- the bytes written are those of the fold: the frames of the packets written whole, and the beginning of one more
  pub bytes : IfSome told (λ t. t.bytes ≡ out (run version rates events))
  pub frames : AreFramesOf version (run version rates events).done (out (run version rates events))
  -- the counts that the writer accepted, zeros left out, are those of the writes, in order
  pub counts : IfSome told (λ t. filter (nat_lt 0) t.counts ≡ writes_in events)
  -- each write takes the next bytes of the next frame
  pub writes : (before after : List Event) (k : ℕ) → events ≡ before ++ Written k ∷ after
      → Writes (run version rates before) (run version rates (before ++ Written k ∷ [])) k
  -- up to the first fault
  pub fault : (before after : List Event) → events ≡ before ++ Faulted ∷ after
      → Fails (run version rates before) (run version rates events)
  -- at every moment each open flow competes with exactly the tickets that the definitions give it, from scratch
  pub tickets : (before after : List Event) → events ≡ before ++ after
      → IsLevel (run version rates before).live.queue (tickets_of_all (run version rates before).live.graph)
