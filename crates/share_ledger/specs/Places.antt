-- The places of currencies.
use Rattle.std.specs.Prelude.{ℕ, suc, List, [], ◌∷◌, bytes_eq, if◌then◌else◌}
use Rattle.share_model.specs.funding.Graph.{NameBytes}

-- the place of a name in a list of names, or the length of the list if it is not there
unfoldable pub place : List NameBytes → NameBytes → ℕ
place [] d = 0
place (c ∷ cs) d = if bytes_eq d c then 0 else suc (place cs d)
