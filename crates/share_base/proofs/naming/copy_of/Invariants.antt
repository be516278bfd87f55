use Rattle.std.proofs.Common.{◌≡◌, ◌++◌, ◌-◌, true, take, replicate}
use Rattle.std.specs.List.{list_all}
use Rattle.share_base.specs.Name.{is_name_byte}
use Rattle.share_base.proofs.naming.copy_of.Given as goal

-- the bytes before this place are copied, and are in names
abbrev pub invariant-loop-place : goal.invariant-loop-place
invariant-loop-place l =
    (l.copy ≡ take l.place l.bytes ++ replicate (16 - l.place) 0)
    × (list_all is_name_byte (take l.place l.bytes) ≡ true)
