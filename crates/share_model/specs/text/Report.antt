-- The report of a link: a line for each total, a line for each open flow, and the line `end`.
use Rattle.std.specs.Prelude.{ℕ, Bool, true, false, List, [], ◌∷◌, ◌++◌, map, flat_map, codes, decimal}
use Rattle.std.specs.List.{join_with_byte}
use Rattle.std.specs.Fmt.{signed_decimal}
use Rattle.share_model.specs.declared.funding.OpenFlow.{OpenFlow}
use Rattle.share_model.specs.declared.link.FlowLine.{FlowLine}
use Rattle.share_model.specs.declared.link.LinkState.{LinkState}
use Rattle.share_model.specs.declared.link.LinkState.TheVariants.{Free, InPart, Torn}
use Rattle.share_model.specs.declared.link.Standing.{Standing}
use Rattle.share_model.specs.declared.link.Standing.TheVariants.{In, Out, Held}
use Rattle.share_model.specs.declared.link.Totals.{Totals}
use Rattle.share_model.specs.funding.Graph.{NameBytes, tickets}
use Rattle.share_model.specs.link.Live.{Live}
use Rattle.share_model.specs.link.Commands.{waiting_of}
use Rattle.share_model.specs.link.Books.{account_of, is_held}
use Rattle.share_model.specs.link.Totals.{totals}
use Rattle.share_model.specs.stride.Moves.{client, position}
use Rattle.share_model.specs.text.Columns.{at_left, at_right}

-- Totals

abbrev pub link_number : LinkState → ℕ
link_number Free = 0
link_number InPart = 1
link_number Torn = 2

-- a key and its value
unfoldable pub total_line : List ℕ × List ℕ → List ℕ
total_line total = at_left 8 total.0 ++ at_right 26 total.1 ++ codes "\n"

abbrev pub totals_shown : Totals → List (List ℕ × List ℕ)
totals_shown t =
    (codes "clock", decimal t.clock)
    ∷ (codes "accepted", decimal t.accepted)
    ∷ (codes "written", decimal t.written)
    ∷ (codes "torn", decimal t.torn)
    ∷ (codes "waiting", decimal t.waiting)
    ∷ (codes "dropped", decimal t.dropped)
    ∷ (codes "bytes", decimal t.bytes)
    ∷ (codes "past", decimal t.past)
    ∷ (codes "tickets", decimal t.tickets)
    ∷ (codes "pass", decimal t.pass)
    ∷ (codes "link", decimal (link_number t.link))
    ∷ []

unfoldable pub totals_text : Totals → List ℕ
totals_text t = flat_map total_line (totals_shown t)

-- Open flows

abbrev pub standing_word : Standing → List ℕ
standing_word In = codes "in"
standing_word Out = codes "out"
standing_word Held = codes "hld"

abbrev pub fields_of : FlowLine → List (List ℕ)
fields_of f =
    codes "flow"
    ∷ at_right 8 (decimal f.flow)
    ∷ at_left 16 f.name
    ∷ at_right 7 (decimal f.tickets)
    ∷ at_right 4 (decimal f.waiting)
    ∷ at_right 17 (decimal f.account)
    ∷ at_left 3 (standing_word f.standing)
    ∷ at_right 26 (signed_decimal f.place)
    ∷ []

-- its fields, joined by one space
unfoldable pub flow_line : FlowLine → List ℕ
flow_line f = join_with_byte 32 (fields_of f) ++ codes "\n"

-- The report

unfoldable pub report_text : Totals → List FlowLine → List ℕ
report_text t flows = totals_text t ++ flat_map flow_line flows ++ codes "end\n"

-- a flow that is held does not compete
abbrev pub standing_of : Bool → Bool → Standing
standing_of true competing = Held
standing_of false true = In
standing_of false false = Out

-- the line of an open flow in the report. It has the tickets of this moment, not those with which it competed last.
-- Then comes its pass if it competes, otherwise its remain
abbrev pub flow_shown : Live → NameBytes × OpenFlow → FlowLine
flow_shown l e =
    let f = e.1.number in
    let at = position (client l.queue f) in
    record {
      flow = f;
      name = e.0;
      tickets = tickets l.graph f;
      waiting = waiting_of l f;
      account = account_of l.books f;
      standing = standing_of (is_held l.books f) at.competing;
      place = at.place;
    }

abbrev pub flows_text : Live → List ℕ
flows_text l = flat_map flow_line (map (flow_shown l) l.graph.flows)

abbrev pub report : Live → List ℕ
report l = report_text (totals l) (map (flow_shown l) l.graph.flows)
