-- Laws of frames: their lengths; and no frame, of the same or of another version, is a proper beginning of another.
use Rattle.std.specs.Prelude.{◌≡◌, ◌<◌, ◌≤◌, ◌^◌, ℕ, ◌+◌, List, [], ◌∷◌, ◌++◌, length, take, drop, refl, slice_index}
use Rattle.std.specs.Int.{to_be_bytes, from_be_bytes, w16, w32, w64}
use Rattle.std.proofs.Common.{◌∙◌, ap, sym, append_assoc, length-append, arith}
use Rattle.std.proofs.lemmas.Nat.{from_be_bytes-to_be_bytes_2, from_be_bytes-to_be_bytes_4}
use Rattle.std.proofs.lemmas.Nat.{from_be_bytes-to_be_bytes_8}
use Rattle.share_base.specs.Version.{header_length, max_payload}
use Rattle.share_base.specs.declared.version.Version.{Version}
use Rattle.share_base.specs.declared.version.Version.TheVariants.{One, Two}
use Rattle.share_model.specs.link.Fields.{IsBody}
use Rattle.share_model.specs.link.Frame.{Packet, FitsFrame, header, frame, frame_length, version_byte}

-- Lengths

pub header_length-few : (version : Version) → header_length version ≤ 17
header_length-few One = omega arith
header_length-few Two = omega arith

pub header_length-some : (version : Version) → 1 ≤ header_length version
header_length-some One = omega arith
header_length-some Two = omega arith

pub max_payload-few : (version : Version) → max_payload version ≤ 9000
max_payload-few One = omega arith
max_payload-few Two = omega arith

pub length-header : (version : Version) (tariff flow seq len : ℕ)
    → length (header version tariff flow seq len) ≡ header_length version
unfolding header
length-header One tariff flow seq len = refl
length-header Two tariff flow seq len = refl

pub length-frame : (version : Version) (tariff : ℕ) (h : Packet)
    → length (frame version tariff h) ≡ frame_length version h
unfolding frame
length-frame version tariff h =
    length-append (header version tariff h.flow h.seq (length h.payload)) h.payload
    ∙ ap (λ n. n + length h.payload) (length-header version tariff h.flow h.seq (length h.payload))

-- a frame has at most 9017 bytes
pub frame_length-few : (version : Version) (h : Packet) → IsBody version h.payload → frame_length version h ≤ 9017
frame_length-few version h body =
    let few = body.few in omega (arith, header_length-few version, max_payload-few version)

-- lists that begin with parts of one length
pub same_parts : {A : Type 0} (s s' t t' : List A) → length s ≡ length s' → s ++ t ≡ s' ++ t' → (s ≡ s') × (t ≡ t')
same_parts [] [] t t' long same = (refl, same)
same_parts [] (x ∷ s') t t' long same = absurd (omega arith)
same_parts (x ∷ s) [] t t' long same = absurd (omega arith)
same_parts (x ∷ s) (y ∷ s') t t' long same =
    let all : x ∷ (s ++ t) ≡ y ∷ (s' ++ t') = same in
    let first : x ≡ y = cc in
    let rest : s ++ t ≡ s' ++ t' = cc in
    let parts : (s ≡ s') × (t ≡ t') = same_parts s s' t t' (omega arith) rest in
    let front : s ≡ s' = parts.0 in
    (cc, parts.1)

-- The fields of a header

record SameFields (version : Version) (tariff tariff' flow flow' seq seq' len len' : ℕ) : Type 0 where
  tariff_is : version ≡ Two → tariff ≡ tariff'
  flow_is : flow ≡ flow'
  seq_is : seq ≡ seq'
  len_is : len ≡ len'

eight_bytes : (n m : ℕ) → n < 2 ^ 64 → m < 2 ^ 64 → to_be_bytes w64 n ≡ to_be_bytes w64 m → n ≡ m
eight_bytes n m small small' same =
    sym (from_be_bytes-to_be_bytes_8 n small) ∙ (ap (from_be_bytes w64) same ∙ from_be_bytes-to_be_bytes_8 m small')

four_bytes : (n m : ℕ) → n < 2 ^ 32 → m < 2 ^ 32 → to_be_bytes w32 n ≡ to_be_bytes w32 m → n ≡ m
four_bytes n m small small' same =
    sym (from_be_bytes-to_be_bytes_4 n small) ∙ (ap (from_be_bytes w32) same ∙ from_be_bytes-to_be_bytes_4 m small')

two_bytes : (n m : ℕ) → n < 2 ^ 16 → m < 2 ^ 16 → to_be_bytes w16 n ≡ to_be_bytes w16 m → n ≡ m
two_bytes n m small small' same =
    sym (from_be_bytes-to_be_bytes_2 n small) ∙ (ap (from_be_bytes w16) same ∙ from_be_bytes-to_be_bytes_2 m small')

short : (version : Version) (tariff : ℕ) (h : Packet) → FitsFrame version tariff h → length h.payload < 2 ^ 16
short version tariff h fits = let few = fits.payload.few in omega (arith, max_payload-few version)

same_header : (version : Version) (t t' : ℕ) (a b : Packet) → FitsFrame version t a → FitsFrame version t' b
    → header version t a.flow a.seq (length a.payload) ≡ header version t' b.flow b.seq (length b.payload)
    → SameFields version t t' a.flow b.flow a.seq b.seq (length a.payload) (length b.payload)
unfolding header
same_header One t t' a b fits fits' same = record {
  tariff_is = λ is. cc;
  flow_is = four_bytes a.flow b.flow fits.flow fits'.flow (ap (λ (bs : List ℕ). take 4 (drop 2 bs)) same);
  seq_is = four_bytes a.seq b.seq fits.seq fits'.seq (ap (λ (bs : List ℕ). take 4 (drop 6 bs)) same);
  len_is =
      two_bytes (length a.payload) (length b.payload) (short One t a fits) (short One t' b fits')
      (ap (λ (bs : List ℕ). drop 10 bs) same);
}
same_header Two t t' a b fits fits' same = record {
  tariff_is = λ is. ap (λ (bs : List ℕ). slice_index bs 2) same;
  flow_is = four_bytes a.flow b.flow fits.flow fits'.flow (ap (λ (bs : List ℕ). take 4 (drop 3 bs)) same);
  seq_is = eight_bytes a.seq b.seq fits.seq fits'.seq (ap (λ (bs : List ℕ). take 8 (drop 7 bs)) same);
  len_is =
      two_bytes (length a.payload) (length b.payload) (short Two t a fits) (short Two t' b fits')
      (ap (λ (bs : List ℕ). drop 15 bs) same);
}

same_head : (f f' s s' : ℕ) (p p' : List ℕ) → f ≡ f' → s ≡ s' → p ≡ p'
    → ◌≡◌ {A = Packet} (record { flow = f; seq = s; payload = p }) (record { flow = f'; seq = s'; payload = p' })
same_head f f' s s' p p' a b c = rw (a, b, c) refl

-- Bytes that begin with two frames begin with one

-- the second byte of a frame is that of its version
pub frame-version_byte : (version : Version) (tariff : ℕ) (h : Packet) (x : List ℕ)
    → slice_index (frame version tariff h ++ x) 1 ≡ version_byte version
unfolding frame header
frame-version_byte version tariff h x = refl

-- and gives it
pub version_byte-tells : (version version' : Version) → version_byte version ≡ version_byte version'
    → version ≡ version'
version_byte-tells One One same = refl
version_byte-tells One Two same = absurd (omega arith)
version_byte-tells Two One same = absurd (omega arith)
version_byte-tells Two Two same = refl

-- two frames of one version with the same packet and, if frames have it, the same tariff; and the bytes after them
pub record SameFrame (version : Version) (t t' : ℕ) (a b : Packet) (x y : List ℕ) : Type 0 where
  pub head : a ≡ b
  pub tariff : version ≡ Two → t ≡ t'
  pub rest : x ≡ y

pub frame-prefix : (version : Version) (t t' : ℕ) (a b : Packet) (x y : List ℕ) → FitsFrame version t a
    → FitsFrame version t' b → frame version t a ++ x ≡ frame version t' b ++ y → SameFrame version t t' a b x y
unfolding frame
frame-prefix version t t' a b x y fits fits' same =
    let front = header version t a.flow a.seq (length a.payload) in
    let front' = header version t' b.flow b.seq (length b.payload) in
    let split : (front ≡ front') × (a.payload ++ x ≡ b.payload ++ y)
    = same_parts front front' (a.payload ++ x) (b.payload ++ y)
    (length-header version t a.flow a.seq (length a.payload)
    ∙ sym (length-header version t' b.flow b.seq (length b.payload)))
    (sym (append_assoc front a.payload x) ∙ (same ∙ append_assoc front' b.payload y)) in
    let fields : SameFields version t t' a.flow b.flow a.seq b.seq (length a.payload) (length b.payload)
    = same_header version t t' a b fits fits' split.0 in
    let bodies : (a.payload ≡ b.payload) × (x ≡ y) = same_parts a.payload b.payload x y fields.len_is split.1 in
    record {
      head = same_head a.flow b.flow a.seq b.seq a.payload b.payload fields.flow_is fields.seq_is bodies.0;
      tariff = fields.tariff_is;
      rest = bodies.1;
    }
