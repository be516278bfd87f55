-- Frames and beginnings of frames, checked against worked examples.
use Rattle.std.specs.Prelude.{◌≡◌, ℕ, List, [], ◌∷◌, replicate, codes, refl}
use Rattle.std.proofs.Common.{arith}
use Rattle.share_base.specs.declared.version.Version.TheVariants.{One, Two}
use Rattle.share_model.specs.link.Frame.{Packet, FitsFrame, header, frame}
use Rattle.share_model.specs.run.History.{IsBeginning}
use Rattle.share_frame.specs.Reading.{BeginsWithFrame}

abbrev packet_row : ℕ → ℕ → List ℕ → Packet
packet_row flow seq payload = record { flow = flow; seq = seq; payload = payload }

-- the first packet of flow 1, with the payload `hi`
abbrev hi : Packet
hi = packet_row 1 1 (codes "hi")

-- Version 1: a tariff may be any

hi_fits : (tariff : ℕ) → FitsFrame One tariff hi
hi_fits tariff = record {
  tariff = tt;
  some_flow = omega arith;
  flow = omega arith;
  some_seq = omega arith;
  seq = omega arith;
  payload = record { some = omega arith; few = omega arith; bytes = refl };
}

hi_frame : (tariff : ℕ) → frame One tariff hi ≡ 76 ∷ 1 ∷ 0 ∷ 0 ∷ 0 ∷ 1 ∷ 0 ∷ 0 ∷ 0 ∷ 1 ∷ 0 ∷ 2 ∷ 104 ∷ 105 ∷ []
unfolding frame header
hi_frame tariff = refl

-- the greatest numbers, and the greatest length
greatest_header : (tariff : ℕ) → header One tariff 4294967295 4294967295 1490
    ≡ 76 ∷ 1 ∷ 255 ∷ 255 ∷ 255 ∷ 255 ∷ 255 ∷ 255 ∷ 255 ∷ 255 ∷ 5 ∷ 210 ∷ []
unfolding header
greatest_header tariff = refl

-- a frame, with other bytes after it
hi_read : (tariff : ℕ)
    → BeginsWithFrame One 1 1 tariff 2 (76 ∷ 1 ∷ 0 ∷ 0 ∷ 0 ∷ 1 ∷ 0 ∷ 0 ∷ 0 ∷ 1 ∷ 0 ∷ 2 ∷ 104 ∷ 105 ∷ 77 ∷ [])
unfolding frame header
hi_read tariff = record {
  head = hi;
  fits = hi_fits tariff;
  flow_is = refl;
  seq_is = refl;
  len_is = refl;
  rest = 77 ∷ [];
  is = refl;
}

-- no bytes, three bytes, and all but the last
no_bytes : IsBeginning One []
unfolding frame header
no_bytes = record { tariff = 0; head = hi; fits = hi_fits 0; at = 0; few = omega arith; is = refl }

three_bytes : IsBeginning One (76 ∷ 1 ∷ 0 ∷ [])
unfolding frame header
three_bytes = record { tariff = 0; head = hi; fits = hi_fits 0; at = 3; few = omega arith; is = refl }

all_but_the_last : IsBeginning One (76 ∷ 1 ∷ 0 ∷ 0 ∷ 0 ∷ 1 ∷ 0 ∷ 0 ∷ 0 ∷ 1 ∷ 0 ∷ 2 ∷ 104 ∷ [])
unfolding frame header
all_but_the_last = record { tariff = 0; head = hi; fits = hi_fits 0; at = 13; few = omega arith; is = refl }

-- the high byte of a length of more than 1280
long_packet : Packet
long_packet = packet_row 1 1 (replicate 1281 0)

long_fits : FitsFrame One 0 long_packet
unfolding long_packet
long_fits = record {
  tariff = tt;
  some_flow = omega arith;
  flow = omega arith;
  some_seq = omega arith;
  seq = omega arith;
  payload = record { some = omega arith; few = omega arith; bytes = refl };
}

high_byte : IsBeginning One (76 ∷ 1 ∷ 0 ∷ 0 ∷ 0 ∷ 1 ∷ 0 ∷ 0 ∷ 0 ∷ 1 ∷ 5 ∷ [])
unfolding frame header long_packet
high_byte = record { tariff = 0; head = long_packet; fits = long_fits; at = 11; few = omega arith; is = refl }

-- Version 2: the same packet, under tariff 1

hi_fits2 : FitsFrame Two 1 hi
hi_fits2 = record {
  tariff = (omega arith, omega arith);
  some_flow = omega arith;
  flow = omega arith;
  some_seq = omega arith;
  seq = omega arith;
  payload = record { some = omega arith; few = omega arith; bytes = refl };
}

hi_frame2 : frame Two 1 hi
    ≡ 76 ∷ 2 ∷ 1 ∷ 0 ∷ 0 ∷ 0 ∷ 1 ∷ 0 ∷ 0 ∷ 0 ∷ 0 ∷ 0 ∷ 0 ∷ 0 ∷ 1 ∷ 0 ∷ 2 ∷ 104 ∷ 105 ∷ []
unfolding frame header
hi_frame2 = refl

greatest_header2 : header Two 8 4294967295 18446744073709551615 9000
    ≡ 76 ∷ 2 ∷ 8 ∷ 255 ∷ 255 ∷ 255 ∷ 255 ∷ 255 ∷ 255 ∷ 255 ∷ 255 ∷ 255 ∷ 255 ∷ 255 ∷ 255 ∷ 35 ∷ 40 ∷ []
unfolding header
greatest_header2 = refl

hi_read2 : BeginsWithFrame Two 1 1 1 2
    (76 ∷ 2 ∷ 1 ∷ 0 ∷ 0 ∷ 0 ∷ 1 ∷ 0 ∷ 0 ∷ 0 ∷ 0 ∷ 0 ∷ 0 ∷ 0 ∷ 1 ∷ 0 ∷ 2 ∷ 104 ∷ 105 ∷ 77 ∷ [])
unfolding frame header
hi_read2 = record {
  head = hi;
  fits = hi_fits2;
  flow_is = refl;
  seq_is = refl;
  len_is = refl;
  rest = 77 ∷ [];
  is = refl;
}

no_bytes2 : IsBeginning Two []
unfolding frame header
no_bytes2 = record { tariff = 1; head = hi; fits = hi_fits2; at = 0; few = omega arith; is = refl }

all_but_the_last2 : IsBeginning Two
    (76 ∷ 2 ∷ 1 ∷ 0 ∷ 0 ∷ 0 ∷ 1 ∷ 0 ∷ 0 ∷ 0 ∷ 0 ∷ 0 ∷ 0 ∷ 0 ∷ 1 ∷ 0 ∷ 2 ∷ 104 ∷ [])
unfolding frame header
all_but_the_last2 = record { tariff = 1; head = hi; fits = hi_fits2; at = 18; few = omega arith; is = refl }

-- the greatest length
longest_packet : Packet
longest_packet = packet_row 1 1 (replicate 9000 0)

longest_fits : FitsFrame Two 1 longest_packet
unfolding longest_packet
longest_fits = record {
  tariff = (omega arith, omega arith);
  some_flow = omega arith;
  flow = omega arith;
  some_seq = omega arith;
  seq = omega arith;
  payload = record { some = omega arith; few = omega arith; bytes = refl };
}

greatest_length : IsBeginning Two
    (76 ∷ 2 ∷ 1 ∷ 0 ∷ 0 ∷ 0 ∷ 1 ∷ 0 ∷ 0 ∷ 0 ∷ 0 ∷ 0 ∷ 0 ∷ 0 ∷ 1 ∷ 35 ∷ 40 ∷ [])
unfolding frame header longest_packet
greatest_length = record {
  tariff = 1;
  head = longest_packet;
  fits = longest_fits;
  at = 17;
  few = omega arith;
  is = refl;
}
