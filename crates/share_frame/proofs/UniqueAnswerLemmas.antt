-- Bytes have one answer: they begin with one frame, or are the beginning of a frame, or have one first bad field.
use Rattle.std.specs.Prelude.{◌≡◌, ◌<◌, ◌≤◌, ◌+◌, ◌↔◌, ℕ, List, [], ◌++◌, length, take, drop}
use Rattle.std.proofs.Common.{◌∙◌, refl, sym, ap, subst, inl, inr, get_or, append_assoc, append-nil, length-append}
use Rattle.std.proofs.Common.{arith}
use Rattle.std.proofs.lemmas.List.{take-take, take-append-le, take-append-drop, length-drop}
use Rattle.share_base.specs.Version.{header_length}
use Rattle.share_base.specs.declared.version.Version.{Version}
use Rattle.share_base.specs.declared.version.Version.TheVariants.{One, Two}
use Rattle.share_model.specs.link.Frame.{Packet, FitsFrame, header, frame, version_byte}
use Rattle.share_model.proofs.lemmas.link.FrameLemmas.{length-frame, frame-prefix, SameFrame}
use Rattle.share_model.proofs.lemmas.link.FrameLemmas.{frame-version_byte, version_byte-tells, header_length-some}
use Rattle.share_model.specs.run.History.{IsBeginning}
use Rattle.share_frame.specs.declared.reading.Field.{Field}
use Rattle.share_frame.specs.declared.reading.FrameRead.{FrameRead}
use Rattle.share_frame.specs.declared.reading.FrameRead.TheVariants.{Frame as Frame1, More as More1, Bad as Bad1}
use Rattle.share_frame.specs.declared.reading.FrameRead2.{FrameRead2}
use Rattle.share_frame.specs.declared.reading.FrameRead2.TheVariants.{Frame, More, Bad}
use Rattle.share_frame.specs.declared.reading.Field.TheVariants.{Version as VersionByte}
use Rattle.share_frame.specs.Reading.{BeginsWithFrame, IsOfVersion, IsFirstBad, IsReadAs, start_of, end_of}
use Rattle.share_frame.proofs.FieldOrderLemmas.{order, end-few}
use Rattle.share_frame.proofs.FieldLemmas.{begins-good}
use Rattle.share_frame.proofs.BeginningLemmas.{less-begins}

-- the header of a frame, or less of it, is a beginning
frame-begins : (version : Version) (flow seq tariff len n : ℕ) (x : List ℕ) → n ≤ header_length version
    → BeginsWithFrame version flow seq tariff len x → IsBeginning version (take n x)
frame-begins version flow seq tariff len n x most a =
    let some = a.fits.payload.some in
    let long : n < length (frame version tariff a.head) = omega (arith, length-frame version tariff a.head) in
    record {
      tariff = tariff;
      head = a.head;
      fits = a.fits;
      at = n;
      few = long;
      is = ap (take n) a.is ∙ take-append-le n (frame version tariff a.head) a.rest (omega arith);
    }

no_rest : (xs ys : List ℕ) → 0 < length ys → xs ++ ys ≡ [] → ⊥
no_rest xs ys some none =
    let long : length xs + length ys ≡ 0 = sym (length-append xs ys) ∙ ap length none in
    omega arith

-- bytes that begin with a frame are no beginning of one
frame-whole : (version : Version) (t : ℕ) (head : Packet) (rest x : List ℕ) → FitsFrame version t head
    → x ≡ frame version t head ++ rest → IsBeginning version x → ⊥
frame-whole version t head rest x fits is b =
    let few = b.few in
    let left : List ℕ = drop b.at (frame version b.tariff b.head) in
    let some : 0 < length left = omega (arith, length-drop b.at (frame version b.tariff b.head)) in
    let whole : frame version t head ++ (rest ++ left) ≡ frame version b.tariff b.head ++ [] =
    sym (append_assoc (frame version t head) rest left) ∙ ap (λ (l : List ℕ). l ++ left) (sym is ∙ b.is)
    ∙ take-append-drop b.at (frame version b.tariff b.head) ∙ sym (append-nil (frame version b.tariff b.head)) in
    no_rest rest left some (frame-prefix version t b.tariff head b.head (rest ++ left) [] fits b.fits whole).rest

-- before a first bad field there is no other
bad-first : (version : Version) (p q : Field) (x : List ℕ) → IsFirstBad version p x → IsFirstBad version q x
    → end_of version p ≤ start_of version q → ⊥
bad-first version p q x a b before =
    a.within (subst (IsBeginning version) (take-take (end_of version p) (start_of version q) x before)
    (less-begins version (end_of version p) (take (start_of version q) x) b.before))

same_bad : (version : Version) (p q : Field) (x : List ℕ) → IsFirstBad version p x → IsFirstBad version q x → p ≡ q
same_bad version p q x a b =
    elim (order version p q) [
      | inl same ↦ same
      | inr apart ↦
          elim apart [
            | inl before ↦ absurd (bad-first version p q x a b before)
            | inr after ↦ absurd (bad-first version q p x b a after)
          ]
    ]

-- the same answer; version 1 has no tariff
IsSame : Version → FrameRead2 → FrameRead2 → Type 0
IsSame version (Frame f s t l) (Frame g u v m) = (f ≡ g) × (s ≡ u) × (version ≡ Two → t ≡ v) × (l ≡ m)
IsSame version More More = Unit {0}
IsSame version (Bad p) (Bad q) = p ≡ q
IsSame version _ _ = ⊥

same_frame : (version : Version) (f s t l g u v m : ℕ) (x : List ℕ) → BeginsWithFrame version f s t l x
    → BeginsWithFrame version g u v m x → (f ≡ g) × (s ≡ u) × (version ≡ Two → t ≡ v) × (l ≡ m)
same_frame version f s t l g u v m x a b =
    let same : SameFrame version t v a.head b.head a.rest b.rest =
    frame-prefix version t v a.head b.head a.rest b.rest a.fits b.fits (sym a.is ∙ b.is) in (
      sym a.flow_is ∙ ap (λ (h : Packet). h.flow) same.head ∙ b.flow_is,
      sym a.seq_is ∙ ap (λ (h : Packet). h.seq) same.head ∙ b.seq_is,
      same.tariff,
      sym a.len_is ∙ ap (λ (h : Packet). length h.payload) same.head ∙ b.len_is,
    )

unique : (version : Version) (x : List ℕ) (r s : FrameRead2) → IsReadAs version x r → IsReadAs version x s
    → IsSame version r s
unfolding IsSame
unique version x (Frame f s t l) (Frame g u v m) a b = same_frame version f s t l g u v m x a b
unique version x (Frame f s t l) More a b = frame-whole version t a.head a.rest x a.fits a.is b
unique version x (Frame f s t l) (Bad q) a b =
    b.within (frame-begins version f s t l (end_of version q) x (end-few version q) a)
unique version x More (Frame g u v m) a b = frame-whole version v b.head b.rest x b.fits b.is a
unique version x More More a b = tt
unique version x More (Bad q) a b = b.within (less-begins version (end_of version q) x a)
unique version x (Bad p) (Frame g u v m) a b =
    a.within (frame-begins version g u v m (end_of version p) x (end-few version p) b)
unique version x (Bad p) More a b = a.within (less-begins version (end_of version p) x b)
unique version x (Bad p) (Bad q) a b = same_bad version p q x a b

-- In version 2 an answer that is right is the one of which that is true

same_answer : (r s : FrameRead2) → IsSame Two r s → r ≡ s
unfolding IsSame
same_answer (Frame f s t l) (Frame g u v m) same =
    let tariffs : t ≡ v = same.2 refl in rw (same.0, same.1, tariffs, same.3) refl
same_answer (Frame f s t l) More same = absurd same
same_answer (Frame f s t l) (Bad q) same = absurd same
same_answer More (Frame g u v m) same = absurd same
same_answer More More same = refl
same_answer More (Bad q) same = absurd same
same_answer (Bad p) (Frame g u v m) same = absurd same
same_answer (Bad p) More same = absurd same
same_answer (Bad p) (Bad q) same = ap Bad same

pub read-exact2 : (x : List ℕ) (r s : FrameRead2) → IsReadAs Two x r → (r ≡ s) ↔ IsReadAs Two x s
read-exact2 x r s right =
    (λ same. subst (IsReadAs Two x) same right, λ other. same_answer r s (unique Two x r s right other))

-- In version 1 it is so under any tariff

-- the same answer with a tariff
abbrev pub with_tariff : ℕ → FrameRead → FrameRead2
with_tariff t (Frame1 flow seq len) = Frame flow seq t len
with_tariff t More1 = More
with_tariff t (Bad1 place) = Bad place

same_answer1 : (t : ℕ) (r s : FrameRead) → IsSame One (with_tariff t r) (with_tariff t s) → r ≡ s
unfolding IsSame
same_answer1 t (Frame1 f s l) (Frame1 g u m) same = rw (same.0, same.1, same.3) refl
same_answer1 t (Frame1 f s l) More1 same = absurd same
same_answer1 t (Frame1 f s l) (Bad1 q) same = absurd same
same_answer1 t More1 (Frame1 g u m) same = absurd same
same_answer1 t More1 More1 same = refl
same_answer1 t More1 (Bad1 q) same = absurd same
same_answer1 t (Bad1 p) (Frame1 g u m) same = absurd same
same_answer1 t (Bad1 p) More1 same = absurd same
same_answer1 t (Bad1 p) (Bad1 q) same = ap Bad1 same

pub read-exact : (x : List ℕ) (t : ℕ) (r s : FrameRead) → IsReadAs One x (with_tariff t r)
    → (r ≡ s) ↔ IsReadAs One x (with_tariff t s)
read-exact x t r s right = (
  λ same. subst (λ a. IsReadAs One x (with_tariff t a)) same right,
  λ other. same_answer1 t r s (unique One x (with_tariff t r) (with_tariff t s) right other),
)

pub any_tariff : (f s t l u : ℕ) (x : List ℕ) → BeginsWithFrame One f s t l x → BeginsWithFrame One f s u l x
unfolding frame header
any_tariff f s t l u x a = record {
  head = a.head;
  fits = record {
    tariff = tt;
    some_flow = a.fits.some_flow;
    flow = a.fits.flow;
    some_seq = a.fits.some_seq;
    seq = a.fits.seq;
    payload = a.fits.payload;
  };
  flow_is = a.flow_is;
  seq_is = a.seq_is;
  len_is = a.len_is;
  rest = a.rest;
  is = a.is;
}

-- Two bytes give the version

second_byte : (version : Version) (x : List ℕ) → 2 ≤ length x → IsOfVersion version x
    → get_or x 1 0 ≡ version_byte version
second_byte version x long of_version =
    elim of_version [
      | inl whole ↦
          let a = whole.4 in
          ap (λ (l : List ℕ). get_or l 1 0) a.is ∙ frame-version_byte version whole.2 a.head a.rest
      | inr begins ↦ begins-good version x begins VersionByte long
    ]

pub version-told : (version other : Version) (x : List ℕ) → 2 ≤ length x → IsOfVersion version x → IsOfVersion other x
    → version ≡ other
version-told version other x long a b =
    version_byte-tells version other (sym (second_byte version x long a) ∙ second_byte other x long b)

-- a frame begins with itself
frame-read : (version : Version) (t : ℕ) (h : Packet) → FitsFrame version t h
    → BeginsWithFrame version h.flow h.seq t (length h.payload) (frame version t h)
frame-read version t h fits = record {
  head = h;
  fits = fits;
  flow_is = refl;
  seq_is = refl;
  len_is = refl;
  rest = [];
  is = sym (append-nil (frame version t h));
}

-- and is no proper beginning of one, of either version
pub frame-proper : (version other : Version) (t : ℕ) (h : Packet) → FitsFrame version t h
    → IsBeginning other (frame version t h) → ⊥
frame-proper version other t h fits begins =
    let some = fits.payload.some in
    let long : 2 ≤ length (frame version t h) =
    omega (arith, length-frame version t h, header_length-some version) in
    let same : other ≡ version =
    version-told other version (frame version t h) long (inr begins)
    (inl (h.flow, h.seq, t, length h.payload, frame-read version t h fits)) in
    frame-whole version t h [] (frame version t h) fits (sym (append-nil (frame version t h)))
    (subst (λ v. IsBeginning v (frame version t h)) same begins)
