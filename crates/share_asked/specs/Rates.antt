-- The tariffs of the program.
use Rattle.std.specs.Prelude.{List, [], ◌∷◌}
use Rattle.share_model.specs.declared.rates.Rate.{Rate}

-- the tariffs of the program, numbered from 1
abbrev pub program_rates : List Rate
program_rates =
    record { cell = 1; overhead = 0; price = 1 }
    ∷ record { cell = 48; overhead = 16; price = 2 }
    ∷ record { cell = 1024; overhead = 0; price = 1 }
    ∷ record { cell = 2048; overhead = 1024; price = 3 }
    ∷ []
