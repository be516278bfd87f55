-- The stride queue's definitions, checked against worked figures: each equation holds by computation alone.
use Rattle.std.specs.Prelude.{◌≡◌, ℕ, ◌^◌, ℤ, pos, negsuc, true, false, List, [], ◌∷◌, length, sum_by, refl}
use Rattle.std.specs.FinMap.{empty, entries, len-entries, len-empty}
use Rattle.std.specs.Ordering.{nat_cmp}
use Rattle.std.proofs.Common.{◌∙◌, sym}
use Rattle.share_model.specs.declared.stride.Client.{Client}
use Rattle.share_model.specs.stride.Moves.{stride_of, after_join, after_leave, after_charge, new_client, total}
use Rattle.share_model.specs.stride.Moves.{competing_tickets}

abbrev competing : ℕ → ℕ → ℤ → ℤ → Client
competing tickets stride remain pass =
    record { tickets = tickets; stride = stride; remain = remain; pass = pass; competes = true }

-- strides of 3, 2 and 1 tickets, and of the most that a flow can have; with none there is no stride
three : stride_of 3 ≡ 366503875925
three = refl

two : stride_of 2 ≡ 549755813888
two = refl

one : stride_of 1 ≡ 1099511627776
one = refl

most : stride_of (2 ^ 20) ≡ 1048576
most = refl

none : stride_of 0 ≡ 0
none = refl

-- a flow with 3 tickets joins for the first time, and is charged 1024 units
first_join : after_join 0 new_client 3 ≡ competing 3 366503875925 (pos 366503875925) (pos 366503875925)
first_join = refl

one_frame : after_charge (after_join 0 new_client 3) 1024
    ≡ competing 3 366503875925 (pos 366503875925) (pos 733007751850)
one_frame = refl

-- a flow falls from 1000 tickets to 333 as another joins, and rises to 1000 again. Its remain is rescaled by the
-- strides, and not by the tickets, which would give 3301836717 and 1094858746
fewer_tickets : (after_join 0 (after_leave 0 (after_join 0 new_client 1000)) 333).pass ≡ pos 3301836720
fewer_tickets = refl

more_tickets : after_join 13972616 (after_leave 13972616 (competing 333 3301836720 (pos 3301836720) (pos 3301836720)))
    1000
    ≡ competing 1000 1099511627 (pos 1094858745) (pos 1108831361)
more_tickets = refl

-- a flow leaves behind the global pass, and returns with 3 tickets in place of 1: its remain is rounded down
behind : after_leave 1649267441664 (competing 1 1099511627776 (pos 1099511627776) (pos 1099511627776))
    ≡ record {
      tickets = 1;
      stride = 1099511627776;
      remain = negsuc 549755813887;
      pass = pos 1099511627776;
      competes = false;
    }
behind = refl

returns : after_join 1649267441664
    (after_leave 1649267441664 (competing 1 1099511627776 (pos 1099511627776) (pos 1099511627776))) 3
    ≡ competing 3 366503875925 (negsuc 183251937962) (pos 1466015503701)
returns = refl

-- the clients of a new queue have no tickets: the entries of a finite map do not compute
pub total-empty : total empty ≡ 0
unfolding total
total-empty = by (entries empty) (sym (len-entries (empty {X = Client} {R = nat_cmp})) ∙ len-empty nat_cmp Client)
  where
    by : (es : List (ℕ × Client)) → length es ≡ 0 → sum_by competing_tickets es ≡ 0
    by [] none = refl
    by (e ∷ es) none = cc
