-- Bytes that hold a whole header whose fields are good: they are the beginning of a frame, or begin with one.
use Rattle.std.specs.Prelude.{◌≡◌, ◌<◌, ◌≤◌, ◌^◌, ◌+◌, ◌-◌, ℕ, true, List, [], ◌∷◌, ◌++◌, length, take, drop}
use Rattle.std.specs.List.{list_all}
use Rattle.std.specs.Int.{to_be_bytes, from_be_bytes, w16, w32}
use Rattle.std.proofs.Common.{◌∙◌, refl, sym, ap, get_or, replicate, append_assoc, length-append, arith}
use Rattle.std.proofs.Math.Seq.{take-append_seam}
use Rattle.std.proofs.lemmas.List.{length-take-le, length-drop, take-append-drop, length-replicate}
use Rattle.std.proofs.lemmas.List.Folds.{list_all-append}
use Rattle.std.proofs.lemmas.Nat.{be_bytes_2, be_bytes_4, be_bytes_8}
use Rattle.share_base.specs.Version.{header_length}
use Rattle.share_base.specs.declared.version.Version.{Version}
use Rattle.share_base.specs.declared.version.Version.TheVariants.{One, Two}
use Rattle.share_model.specs.link.Fields.{is_byte}
use Rattle.share_model.specs.link.Frame.{Packet, FitsFrame, FitsSeq, tariff_bytes, seq_bytes, version_byte}
use Rattle.share_model.specs.link.Frame.{header, frame}
use Rattle.share_model.specs.run.History.{IsBeginning}
use Rattle.share_frame.specs.declared.reading.Field.{Field}
use Rattle.share_frame.specs.declared.reading.Field.TheVariants.{Magic, Version as VersionByte, Tariff, Flow, Seq, Len}
use Rattle.share_frame.specs.Reading.{BeginsWithFrame, start_of}
use Rattle.share_frame.specs.Fields.{number_in, tariff_in, seq_in, length_in, IsGood}
use Rattle.share_frame.proofs.FieldLemmas.{layout}
use Rattle.share_frame.proofs.ByteLemmas.{AreBytes, bytes-take, bytes-drop, all_bytes, zeros-bytes}
use Rattle.share_frame.proofs.ByteLemmas.{bytes_from, bytes_from-bytes, bytes_from-take}

-- The numbers that are read, written again

number-again : (k : ℕ) (x : List ℕ) → AreBytes x
    → to_be_bytes w32 (from_be_bytes w32 (bytes_from k 4 x)) ≡ bytes_from k 4 x
unfolding bytes_from
number-again k x bytes = be_bytes_4 (bytes_from k 4 x) _ refl (bytes_from-bytes k 4 x bytes) refl

seq-again : (version : Version) (x : List ℕ) → AreBytes x
    → seq_bytes version (seq_in version x)
    ≡ bytes_from (start_of version Seq) (start_of version Len - start_of version Seq) x
unfolding bytes_from
seq-again One x bytes = number-again 6 x bytes
seq-again Two x bytes = be_bytes_8 (bytes_from 7 8 x) _ refl (bytes_from-bytes 7 8 x bytes) refl

length-again : (version : Version) (x : List ℕ) → AreBytes x
    → to_be_bytes w16 (length_in version x) ≡ bytes_from (start_of version Len) 2 x
unfolding bytes_from
length-again One x bytes = be_bytes_2 (bytes_from 10 2 x) _ refl (bytes_from-bytes 10 2 x bytes) refl
length-again Two x bytes = be_bytes_2 (bytes_from 15 2 x) _ refl (bytes_from-bytes 15 2 x bytes) refl

flow-again : (version : Version) (x : List ℕ) → AreBytes x
    → to_be_bytes w32 (number_in x (start_of version Flow)) ≡ bytes_from (start_of version Flow) 4 x
unfolding bytes_from
flow-again One x bytes = number-again 2 x bytes
flow-again Two x bytes = number-again 3 x bytes

same_parts : (m m' v v' : ℕ) (t a a' b b' c c' : List ℕ) → m ≡ m' → v ≡ v' → a ≡ a' → b ≡ b' → c ≡ c'
    → m ∷ v ∷ [] ++ t ++ a ++ b ++ c ≡ m' ∷ v' ∷ [] ++ t ++ a' ++ b' ++ c'
same_parts m m' v v' t a a' b b' c c' p q r s u = rw (p, q, r, s, u) refl

-- the parts of a header are its bytes
joined : (version : Version) (x : List ℕ)
    → get_or x 0 0 ∷ get_or x 1 0 ∷ [] ++ tariff_bytes version (tariff_in version x)
    ++ bytes_from (start_of version Flow) 4 x
    ++ bytes_from (start_of version Seq) (start_of version Len - start_of version Seq) x
    ++ bytes_from (start_of version Len) 2 x
    ≡ bytes_from 0 (header_length version) x
unfolding bytes_from
joined One x = refl
joined Two x = refl

number-small : (k : ℕ) (x : List ℕ) → AreBytes x → number_in x k < 2 ^ 32
number-small k x bytes = omega (arith, bytes k, bytes (k + 1), bytes (k + 2), bytes (k + 3))

seq-small : (version : Version) (x : List ℕ) → AreBytes x → FitsSeq version (seq_in version x)
seq-small One x bytes = number-small 6 x bytes
seq-small Two x bytes =
    omega (arith, bytes 7, bytes 8, bytes 9, bytes 10, bytes 11, bytes 12, bytes 13, bytes 14)

-- bytes that go on as a frame are the beginning of one
begins-frame : (version : Version) (t : ℕ) (h : Packet) (x more : List ℕ) → FitsFrame version t h
    → frame version t h ≡ x ++ more → 0 < length more → IsBeginning version x
begins-frame version t h x more fits is some = record {
  tariff = t;
  head = h;
  fits = fits;
  at = length x;
  few =
      let long : length (frame version t h) ≡ length x + length more = ap length is ∙ length-append x more in
      omega arith;
  is = sym (ap (take (length x)) is ∙ take-append_seam x more);
}

module _ (version : Version) (x : List ℕ) (bytes : AreBytes x) (long : header_length version ≤ length x)
    (good : (p : Field) → IsGood version p x) where
  -- the header that the fields make
  header-is : header version (tariff_in version x) (number_in x (start_of version Flow)) (seq_in version x)
      (length_in version x) ≡ take (header_length version) x
  unfolding header
  header-is =
      let at = layout version in
      same_parts 76 (get_or x 0 0) (version_byte version) (get_or x 1 0) (tariff_bytes version (tariff_in version x))
      _ _ _ _ _ _ (sym (good Magic (omega arith))) (sym (good VersionByte (omega arith))) (flow-again version x bytes)
      (seq-again version x bytes) (length-again version x bytes)
      ∙ joined version x ∙ bytes_from-take 0 (header_length version) x (omega arith)

  -- the packet that they give, with a payload
  packet : List ℕ → Packet
  packet payload = record { flow = number_in x (start_of version Flow); seq = seq_in version x; payload = payload }

  packet-fits : (payload : List ℕ) → length payload ≡ length_in version x → list_all is_byte payload ≡ true
      → FitsFrame version (tariff_in version x) (packet payload)
  unfolding packet
  packet-fits payload size all =
      let at = layout version in
      let some = (good Len).some long in
      let few = (good Len).few long in
      record {
        tariff = good Tariff (omega arith);
        some_flow = good Flow (omega arith);
        flow = number-small (start_of version Flow) x bytes;
        some_seq = good Seq (omega arith);
        seq = seq-small version x bytes;
        payload = record { some = omega arith; few = omega arith; bytes = all };
      }

  packet-frame : (payload : List ℕ) → length payload ≡ length_in version x
      → frame version (tariff_in version x) (packet payload) ≡ take (header_length version) x ++ payload
  unfolding frame packet
  packet-frame payload size =
      ap (λ (n : ℕ). header version (tariff_in version x) (number_in x (start_of version Flow)) (seq_in version x) n
      ++ payload) size
      ∙ ap (λ (h : List ℕ). h ++ payload) header-is

  -- a payload that is not all there goes on with zeros
  zeros : List ℕ
  zeros = replicate (length_in version x - length (drop (header_length version) x)) 0

  zeros-length : length zeros ≡ length_in version x - length (drop (header_length version) x)
  unfolding zeros
  zeros-length = length-replicate (length_in version x - length (drop (header_length version) x)) 0

  filled-bytes : list_all is_byte (drop (header_length version) x ++ zeros) ≡ true
  unfolding zeros
  filled-bytes =
      rw (
        list_all-append is_byte (drop (header_length version) x)
            (replicate (length_in version x - length (drop (header_length version) x)) 0),
        all_bytes (drop (header_length version) x) (bytes-drop (header_length version) x bytes),
        zeros-bytes (length_in version x - length (drop (header_length version) x)),
      ) refl

  pub part-begins : length x - header_length version < length_in version x → IsBeginning version x
  part-begins short =
      let body : List ℕ = drop (header_length version) x in
      let here = length-drop (header_length version) x in
      let size : length (body ++ zeros) ≡ length_in version x =
      length-append body zeros ∙ omega (arith, zeros-length) in
      begins-frame version (tariff_in version x) (packet (body ++ zeros)) x zeros
      (packet-fits (body ++ zeros) size filled-bytes)
      (packet-frame (body ++ zeros) size ∙ sym (append_assoc (take (header_length version) x) body zeros)
      ∙ ap (λ (l : List ℕ). l ++ zeros) (take-append-drop (header_length version) x))
      (omega (arith, zeros-length))

  pub whole-begins : length_in version x ≤ length x - header_length version
      → BeginsWithFrame version (number_in x (start_of version Flow)) (seq_in version x) (tariff_in version x)
      (length_in version x) x
  unfolding packet
  whole-begins there =
      let left : List ℕ = drop (header_length version) x in
      let here = length-drop (header_length version) x in
      let size : length (take (length_in version x) left) ≡ length_in version x =
      length-take-le (length_in version x) left (omega arith) in
      record {
        head = packet (take (length_in version x) left);
        fits = packet-fits (take (length_in version x) left) size
            (all_bytes (take (length_in version x) left)
            (bytes-take (length_in version x) left (bytes-drop (header_length version) x bytes)));
        flow_is = refl;
        seq_is = refl;
        len_is = size;
        rest = drop (length_in version x) left;
        is = sym (ap (λ (l : List ℕ). l ++ drop (length_in version x) left)
            (packet-frame (take (length_in version x) left) size)
            ∙ append_assoc (take (header_length version) x) (take (length_in version x) left)
            (drop (length_in version x) left)
            ∙ ap (λ (l : List ℕ). take (header_length version) x ++ l) (take-append-drop (length_in version x) left)
            ∙ take-append-drop (header_length version) x);
      }
