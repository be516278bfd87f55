-- The lines of a control connection: words with one space between two, one spelling for each order.
use Rattle.std.specs.Prelude.{ℕ, List, [], ◌∷◌, codes, bytes_eq, Option, None, Some, if◌then◌else◌}
use Rattle.share_model.specs.text.Lines.{field, name_of, number_of, words_of, ◌>>=◌}
use Rattle.share_orders.specs.declared.orders.Order.{Order}
use Rattle.share_orders.specs.declared.orders.Order.TheVariants.{Report, Status, Hold, Resume, Amend, Rotate, Reload}
use Rattle.share_orders.specs.declared.orders.Order.TheVariants.{End}

-- the order, if no word is left
abbrev pub at_end : List (List ℕ) → Order → Option Order
at_end [] order = Some order
at_end (w ∷ ws) order = None

-- an order of a tenant alone
abbrev pub named_of : (List ℕ → Order) → List (List ℕ) → Option Order
named_of order ws = do
  name ← field name_of ws
  at_end name.1 (order name.0)

-- the number of a grant and its amount
abbrev pub amend_of : List (List ℕ) → Option Order
amend_of ws = do
  name ← field name_of ws
  number ← field number_of name.1
  amount ← field number_of number.1
  at_end amount.1 (Amend name.0 number.0 amount.0)

abbrev pub order_by : List ℕ → List (List ℕ) → Option Order
order_by w ws =
    if bytes_eq w (codes "report") then at_end ws Report
    else if bytes_eq w (codes "status") then at_end ws Status
    else if bytes_eq w (codes "hold") then named_of Hold ws
    else if bytes_eq w (codes "resume") then named_of Resume ws
    else if bytes_eq w (codes "amend") then amend_of ws
    else if bytes_eq w (codes "rotate") then at_end ws Rotate
    else if bytes_eq w (codes "reload") then at_end ws Reload
    else if bytes_eq w (codes "end") then at_end ws End
    else None

abbrev pub order_of : List (List ℕ) → Option Order
order_of [] = None
order_of (w ∷ ws) = order_by w ws

-- the order that a line spells, without its line feed
abbrev pub order_in : List ℕ → Option Order
order_in line = order_of (words_of line)
