-- The number of packets that wait, in one buffer and in all.
use Rattle.std.proofs.Common.{◌≡◌, ◌+◌, ◌-◌, ◌≤◌, ℕ, Bool, true, false, List, Option, None, Some}
use Rattle.std.proofs.Common.{arith, true≢false, sym}
use Rattle.share_model.specs.declared.rates.Rate.{Rate}
use Rattle.share_model.specs.link.Buffers.{Buffer}
use Rattle.share_model.specs.link.Live.{Live}
use Rattle.share_model.specs.link.Totals.{packets_in, torn_packets, torn_count}
use Rattle.share_model.proofs.lemmas.run.PacketCountLemmas.{some-held, count-within}
use Rattle.share_model.specs.run.Sound.{Sound, TornIsNamed, torn_gone}

-- packets that were accepted, and neither written, nor dropped, nor torn, wait
record AreWaiting (accepted written dropped held : ℕ) (broken : Bool) (torn : Option ℕ) : Type 0 where
  torn_is : torn_count broken ≤ accepted - written - dropped
  rest : accepted - written - dropped - torn_count broken ≡ held - torn_packets torn

are_waiting : (accepted written dropped : ℕ) (bs : List Buffer) (broken : Bool) (torn : Option ℕ)
    → TornIsNamed bs broken torn → accepted ≡ written + dropped + packets_in bs + torn_gone broken torn
    → AreWaiting accepted written dropped (packets_in bs) broken torn
are_waiting accepted written dropped bs false None named balance = record {
  torn_is = omega arith;
  rest = omega (arith, balance);
}
are_waiting accepted written dropped bs false (Some f) named balance = absurd (true≢false (sym named.broken_is))
are_waiting accepted written dropped bs true None named balance = record {
  torn_is = omega (arith, balance);
  rest = omega (arith, balance);
}
are_waiting accepted written dropped bs true (Some f) named balance =
    let some = some-held bs f named.head named.found in
    record {
      torn_is = omega (arith, balance, some, count-within bs f);
      rest = omega (arith, balance, some, count-within bs f);
    }

module _ {life : ℕ} {rates : List Rate} {l : Live} (sound : Sound life rates l) where
  all_waiting : AreWaiting l.counts.accepted l.counts.written l.counts.dropped (packets_in l.buffers) l.broken l.torn
  all_waiting =
      are_waiting l.counts.accepted l.counts.written l.counts.dropped l.buffers l.broken l.torn sound.torn.named
      sound.counts.balance

  pub torn_within : torn_count l.broken ≤ l.counts.accepted - l.counts.written - l.counts.dropped
  torn_within = all_waiting.torn_is
