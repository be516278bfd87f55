-- The ends of streams.
use Rattle.std.specs.Prelude.{⊤}
use Rattle.share_model.specs.declared.ingress.Ended.{Ended}
use Rattle.share_model.specs.declared.ingress.Ended.TheVariants.{End, Cut, BadRecord, Fault, NoMemory, Bound}

-- a stream ends so; in the other ways a reader may end inside a stream
abbrev pub EndsStream : Ended → Type 0
EndsStream End = ⊤
EndsStream Cut = ⊤
EndsStream BadRecord = ⊤
EndsStream Fault = ⊥
EndsStream NoMemory = ⊥
EndsStream Bound = ⊥
