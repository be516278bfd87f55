-- A worked row of the tests by the definitions: a flow that is charged after it left keeps the charge.
use Rattle.std.specs.Prelude.{◌≡◌, pos, refl}
use Rattle.share_model.specs.stride.Moves.{after_join, after_leave, after_charge, new_client}

charged_late : (after_charge (after_leave 0 (after_join 0 new_client 1)) 1024).remain ≡ pos 2199023255552
charged_late = refl
