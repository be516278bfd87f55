-- The fields of bytes: they depend only on their own bytes, and those of a frame are good.
use Rattle.std.specs.Prelude.{◌≡◌, ◌<◌, ◌≤◌, ◌+◌, ℕ, List, length, take}
use Rattle.std.proofs.Common.{◌∙◌, refl, sym, ap, get_or, arith}
use Rattle.std.proofs.lemmas.List.{get_or-take, length-take, length-take-le}
use Rattle.std.proofs.lemmas.List.Prefix.{front_reads}
use Rattle.std.proofs.lemmas.Nat.{from_be_bytes-to_be_bytes_2, from_be_bytes-to_be_bytes_4}
use Rattle.std.proofs.lemmas.Nat.{from_be_bytes-to_be_bytes_8}
use Rattle.share_base.specs.Version.{header_length}
use Rattle.share_base.specs.declared.version.Version.{Version}
use Rattle.share_base.specs.declared.version.Version.TheVariants.{One, Two}
use Rattle.share_model.specs.link.Frame.{Packet, FitsFrame, header, frame}
use Rattle.share_model.proofs.lemmas.link.FrameLemmas.{length-header}
use Rattle.share_model.specs.run.History.{IsBeginning}
use Rattle.share_frame.specs.declared.reading.Field.{Field}
use Rattle.share_frame.specs.declared.reading.Field.TheVariants.{Magic, Version as VersionByte, Tariff, Flow, Seq, Len}
use Rattle.share_frame.specs.Reading.{start_of, end_of}
use Rattle.share_frame.specs.Fields.{number_in, seq_in, length_in, IsGood}
use Rattle.share_frame.proofs.FieldOrderLemmas.{end-few}
use Rattle.share_frame.proofs.ByteLemmas.{two_same, four_same, eight_same}

-- the ends of fields
pub record Layout (version : Version) : Type 0 where
  pub tariff : 2 < start_of version Seq
  pub flow : start_of version Seq ≡ start_of version Flow + 4
  pub seq : start_of version Seq < start_of version Len
  pub len : header_length version ≡ start_of version Len + 2

pub layout : (version : Version) → Layout version
layout One = record { tariff = omega arith; flow = omega arith; seq = omega arith; len = omega arith }
layout Two = record { tariff = omega arith; flow = omega arith; seq = omega arith; len = omega arith }

-- Bytes that agree

-- those of x before the n-th are those of y
pub record Agree (n : ℕ) (x y : List ℕ) : Type 0 where
  pub long : (k : ℕ) → k ≤ n → k ≤ length x → k ≤ length y
  pub same : (k : ℕ) → k < n → k < length x → get_or x k 0 ≡ get_or y k 0

number-agree : (n : ℕ) (x y : List ℕ) → Agree n x y → (at : ℕ) → at + 4 ≤ n → at + 4 ≤ length x
    → number_in x at ≡ number_in y at
number-agree n x y agree at within whole =
    four_same _ _ _ _ _ _ _ _ (agree.same at (omega arith) (omega arith))
    (agree.same (at + 1) (omega arith) (omega arith)) (agree.same (at + 2) (omega arith) (omega arith))
    (agree.same (at + 3) (omega arith) (omega arith))

seq-agree : (version : Version) (x y : List ℕ) → Agree (end_of version Seq) x y → end_of version Seq ≤ length x
    → seq_in version x ≡ seq_in version y
seq-agree One x y agree whole = number-agree 10 x y agree 6 (omega arith) (omega arith)
seq-agree Two x y agree whole =
    eight_same _ _ _ _ _ _ _ _ _ _ _ _ _ _ _ _ (agree.same 7 (omega arith) (omega arith))
    (agree.same 8 (omega arith) (omega arith)) (agree.same 9 (omega arith) (omega arith))
    (agree.same 10 (omega arith) (omega arith)) (agree.same 11 (omega arith) (omega arith))
    (agree.same 12 (omega arith) (omega arith)) (agree.same 13 (omega arith) (omega arith))
    (agree.same 14 (omega arith) (omega arith))

length-agree : (version : Version) (x y : List ℕ) → Agree (header_length version) x y
    → header_length version ≤ length x → length_in version x ≡ length_in version y
length-agree version x y agree whole =
    let at = layout version in
    two_same _ _ _ _ (agree.same (start_of version Len) (omega arith) (omega arith))
    (agree.same (start_of version Len + 1) (omega arith) (omega arith))

-- a field is good by its own bytes
pub good-agree : (version : Version) (p : Field) (x y : List ℕ) → Agree (end_of version p) x y → IsGood version p y
    → IsGood version p x
good-agree version Magic x y agree good = λ there.
    let long = agree.long 1 (omega arith) (omega arith) in
    agree.same 0 (omega arith) there ∙ good (omega arith)
good-agree version VersionByte x y agree good = λ there.
    let long = agree.long 2 (omega arith) (omega arith) in
    agree.same 1 (omega arith) there ∙ good (omega arith)
good-agree One Tariff x y agree good = λ there. tt
good-agree Two Tariff x y agree good = λ there.
    let long = agree.long 3 (omega arith) (omega arith) in
    let same = agree.same 2 (omega arith) there in
    let fits = good (omega arith) in
    (omega arith, omega arith)
good-agree version Flow x y agree good = λ whole.
    let at = layout version in
    let same = number-agree (end_of version Flow) x y agree (start_of version Flow) (omega arith) (omega arith) in
    let some = good (agree.long (end_of version Flow) (omega arith) whole) in
    omega arith
good-agree version Seq x y agree good = λ whole.
    let same = seq-agree version x y agree whole in
    let some = good (agree.long (end_of version Seq) (omega arith) whole) in
    omega arith
good-agree version Len x y agree good =
    let at = layout version in
    record {
      high = λ there.
          let long = agree.long (start_of version Len + 1) (omega arith) (omega arith) in
          let same = agree.same (start_of version Len) (omega arith) there in
          let high = good.high (omega arith) in
          omega arith;
      some = λ whole.
          let same = length-agree version x y agree whole in
          let some = good.some (agree.long (header_length version) (omega arith) whole) in
          omega arith;
      few = λ whole.
          let same = length-agree version x y agree whole in
          let few = good.few (agree.long (header_length version) (omega arith) whole) in
          omega arith;
    }

-- so it is good if the bytes are cut
pub good-take : (version : Version) (p : Field) (n : ℕ) (x : List ℕ) → IsGood version p x → IsGood version p (take n x)
good-take version p n x good =
    let long = length-take n x in
    good-agree version p (take n x) x
    (record { long = λ k within there. omega arith; same = λ k within there. get_or-take n x k 0 (omega arith) }) good

-- and if it was before they were cut after it
pub good-from-take : (version : Version) (p : Field) (n : ℕ) (x : List ℕ) → end_of version p ≤ n
    → IsGood version p (take n x) → IsGood version p x
good-from-take version p n x past good =
    let long = length-take n x in
    good-agree version p x (take n x)
    (record { long = λ k within there. omega arith; same = λ k within there. sym (get_or-take n x k 0 (omega arith)) })
    good

-- The fields of a frame

header-good : (version : Version) (t : ℕ) (h : Packet) → FitsFrame version t h → (p : Field)
    → IsGood version p (header version t h.flow h.seq (length h.payload))
unfolding header
header-good version t h fits Magic = λ there. refl
header-good version t h fits VersionByte = λ there. refl
header-good One t h fits Tariff = λ there. tt
header-good Two t h fits Tariff = λ there. fits.tariff
header-good One t h fits Flow = λ whole.
    let some = fits.some_flow in
    let same = from_be_bytes-to_be_bytes_4 h.flow fits.flow in
    omega arith
header-good Two t h fits Flow = λ whole.
    let some = fits.some_flow in
    let same = from_be_bytes-to_be_bytes_4 h.flow fits.flow in
    omega arith
header-good One t h fits Seq = λ whole.
    let some = fits.some_seq in
    let same = from_be_bytes-to_be_bytes_4 h.seq fits.seq in
    omega arith
header-good Two t h fits Seq = λ whole.
    let some = fits.some_seq in
    let same = from_be_bytes-to_be_bytes_8 h.seq fits.seq in
    omega arith
header-good One t h fits Len =
    let some = fits.payload.some in
    let few = fits.payload.few in
    let same = from_be_bytes-to_be_bytes_2 (length h.payload) (omega arith) in
    record { high = λ there. omega arith; some = λ whole. omega arith; few = λ whole. omega arith }
header-good Two t h fits Len =
    let some = fits.payload.some in
    let few = fits.payload.few in
    let same = from_be_bytes-to_be_bytes_2 (length h.payload) (omega arith) in
    record { high = λ there. omega arith; some = λ whole. omega arith; few = λ whole. omega arith }

-- so the fields of a beginning are good
pub begins-good : (version : Version) (x : List ℕ) → IsBeginning version x → (p : Field) → IsGood version p x
unfolding frame
begins-good version x b p =
    let few = b.few in
    let front = header version b.tariff b.head.flow b.head.seq (length b.head.payload) in
    let size = length-header version b.tariff b.head.flow b.head.seq (length b.head.payload) in
    let inside = end-few version p in
    let long : length x ≡ b.at = ap length b.is ∙ length-take-le b.at (frame version b.tariff b.head) (omega arith) in
    good-agree version p x front
    (record {
      long = λ k within there. omega arith;
      same = λ k within there.
          ap (λ (l : List ℕ). get_or l k 0) b.is
          ∙ get_or-take b.at (frame version b.tariff b.head) k 0 (omega arith)
          ∙ front_reads 0 (frame version b.tariff b.head) front b.head.payload refl k (omega arith);
    })
    (header-good version b.tariff b.head b.fits p)
