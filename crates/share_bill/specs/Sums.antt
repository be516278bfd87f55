-- The traffic of each flow, by its number.
use Rattle.std.specs.Prelude.{◌≤◌, ◌+◌, ◌*◌, ◌^◌, ℕ, List, get_or}
use Rattle.share_bill.specs.declared.bill.sums.Sums.{Sums}
use Rattle.share_model.specs.lists.Each.{Each}

abbrev pub nothing_sent : Sums
nothing_sent = record { packets = 0; bytes = 0; units = 0; amount = 0 }

-- the traffic of a flow: nothing after the end of the list
abbrev pub sums_at : List Sums → ℕ → Sums
sums_at es flow = get_or es flow nothing_sent

-- one more frame was sent, and all that was sent costs this
abbrev pub one_more : Sums → ℕ → ℕ → ℕ → Sums
one_more old bytes units amount = record {
  packets = old.packets + 1;
  bytes = old.bytes + bytes;
  units = old.units + units;
  amount = amount;
}

-- at most 2^24 frames, each of less than 2^32 bytes and at most 2^38 units
pub record IsSmall (s : Sums) : Type 0 where
  pub packets : s.packets ≤ 2 ^ 24
  pub bytes : s.bytes ≤ s.packets * 2 ^ 32
  pub units : s.units ≤ s.packets * 2 ^ 38

abbrev pub AreSmall : List Sums → Type 0
AreSmall es = Each (λ (s : Sums). IsSmall s) es
