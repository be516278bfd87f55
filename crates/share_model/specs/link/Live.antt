-- The contents of a link. `Commands`, `Arrivals` and `Turns` say what each event does to it, and `Step` is one event.
-- Together they are the fold that the code is proved to compute. It is a plain program over lists and a map, which
-- computes the tickets of each flow from scratch.
use Rattle.std.specs.Prelude.{ℕ, ◌+◌, ◌==◌, Bool, false, List, [], map, Option, None, Some}
use Rattle.share_base.specs.declared.refusal.Refusal.{Refusal}
use Rattle.share_base.specs.declared.version.Version.{Version}
use Rattle.share_base.specs.declared.command.Reply.{Reply}
use Rattle.share_base.specs.declared.command.Reply.TheVariants.{Refused}
use Rattle.share_model.specs.declared.link.Book.{Book}
use Rattle.share_model.specs.declared.link.Counts.{Counts}
use Rattle.share_model.specs.declared.link.Part.{Part}
use Rattle.share_model.specs.declared.funding.OpenFlow.{OpenFlow as FlowEntry}
use Rattle.share_model.specs.link.Buffers.{Buffer}
use Rattle.share_model.specs.stride.Moves.{Stride, empty_queue}
use Rattle.share_model.specs.stride.Level.{level_all}
use Rattle.share_model.specs.funding.Graph.{NameBytes, Graph, empty_graph, tickets}

-- The state

-- the contents of a link. They are the version of its frames, which no event changes, the funding, and the queue, of
-- which each open flow is a client. Then come the buffers and the books of the open flows, in order of opening. Last
-- come the frame in part, the open flow whose head packet was torn, whether the link is broken, and the counts
pub record Live : Type 0 where
  pub version : Version
  pub graph : Graph
  pub queue : Stride
  pub buffers : List Buffer
  pub books : List Book
  pub part : Option Part
  pub torn : Option ℕ
  pub broken : Bool
  pub counts : Counts

abbrev pub no_counts : Counts
no_counts = record { events = 0; accepted = 0; written = 0; dropped = 0; sent = 0; past = 0 }

abbrev pub empty_link : Version → Live
empty_link version = record {
  version = version;
  graph = empty_graph;
  queue = empty_queue;
  buffers = [];
  books = [];
  part = None;
  torn = None;
  broken = false;
  counts = no_counts;
}

-- whether all events of the life were made
abbrev pub life_is_spent : ℕ → Live → Bool
life_is_spent life l = l.counts.events == life

-- The tickets of the flows

-- each open flow's number and tickets
abbrev pub tickets_of_all : Graph → List (ℕ × ℕ)
tickets_of_all g = map (λ (e : NameBytes × FlowEntry). (e.1.number, tickets g e.1.number)) g.flows

-- the queue is levelled: each open flow competes with exactly its tickets
abbrev pub with_level_queue : Live → Live
with_level_queue l = record l { queue = level_all l.queue (tickets_of_all l.graph) }

-- Events

abbrev pub with_one_event : Live → Live
with_one_event l = record l { counts = record l.counts { events = l.counts.events + 1 } }

-- a refused event changes nothing but the count of events
abbrev pub by_refusal : Live → Option Refusal → Live × Reply → Live × Reply
by_refusal l (Some e) done = (with_one_event l, Refused e)
by_refusal l None done = done
