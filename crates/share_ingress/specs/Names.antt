-- The name of a queue.
use Rattle.std.specs.Prelude.{[]}
use Rattle.atomic_table.specs.Seated.{TableId}

-- the name that the intake and the ends of one queue share
abbrev pub LinkName : Type 0
LinkName = TableId

-- a name that nothing reads, for a place that needs one
abbrev pub no_link : LinkName
no_link = record { words = 0; slots = 0; views_name = 0; atom = 0; block = 0; offset = 0; slot_names = [] }
