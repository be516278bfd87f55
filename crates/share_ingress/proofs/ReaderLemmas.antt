-- The outcome of the calls of a reader of records.
use Rattle.std.proofs.Common.{◌≡◌, ◌≢◌, ◌≤◌, inl, inr, ℕ, ◌+◌, ◌-◌, List, [], ◌∷◌, ◌++◌, length, take, drop}
use Rattle.std.proofs.Common.{true, false, ◌==◌, Option, None, Some, IfSome, arith, refl, sym, ap, ◌∙◌, subst}
use Rattle.std.proofs.lemmas.List.{append_assoc, append-nil, take_at, drop_at, length-append}
use Rattle.std.specs.Io.KnownBytes.{Consumes, Keeps, IsAtEnd, prepend_known}
use Rattle.share_model.specs.declared.ingress.Ended.{Ended}
use Rattle.share_model.specs.declared.ingress.Ended.TheVariants.{End, Cut, BadRecord, Fault, NoMemory, Bound}
use Rattle.share_model.specs.declared.reader.Got.{Got}
use Rattle.share_model.specs.declared.reader.Got.TheVariants.{Bytes, End as EndOfInput, Interrupted, Failed}
use Rattle.share_model.specs.io.Calls.{no_reads}
use Rattle.share_model.proofs.lemmas.io.CallLemmas.{reads_once, reads_more}
use Rattle.share_model.specs.io.Given.{Gives}
use Rattle.share_model.specs.ingress.Records.{Item, two_bytes, record_of, IsCut, IsBad}
use Rattle.share_model.specs.ingress.Records.{bad_name_length, bad_name, bad_length}
use Rattle.share_base.specs.Body.{payload_refusal}
use Rattle.share_ingress.specs.Found.{BeginsWhole, NeedsMore}
use Rattle.share_ingress.specs.Reader.{Reading, EndsInput, GoesOnReading, LastRead, EndsBy, EndStands, ReadsOn}
use Rattle.share_ingress.specs.Reader.{TakesItem, TakesMemory}
use Rattle.share_ingress.specs.Reader.{Stops, Answers}
use Rattle.share_ingress.specs.declared.reader.Next.{Next}
use Rattle.share_ingress.specs.declared.reader.Next.TheVariants.{Item as Found, Ended as Over}

-- Known bytes

pub keeps_refl : (a : Option (List ℕ)) → Keeps a a
keeps_refl None = tt
keeps_refl (Some xs) = refl

keeps_more : (a b c : Option (List ℕ)) → Keeps a b → Keeps b c → Keeps a c
keeps_more None b c f g = tt
keeps_more (Some xs) None c f g = absurd f
keeps_more (Some xs) (Some ys) None f g = absurd g
keeps_more (Some xs) (Some ys) (Some zs) f g = g ∙ f

consumes_later : (a b c : Option (List ℕ)) (bs : List ℕ) → Keeps a b → Consumes b c bs → Consumes a c bs
consumes_later None b c bs f g = tt
consumes_later (Some xs) None c bs f g = absurd f
consumes_later (Some xs) (Some ys) None bs f g = absurd g
consumes_later (Some xs) (Some ys) (Some zs) bs f g = sym f ∙ g

known_later : (a b : Option (List ℕ)) (P : List ℕ → Type 0) → Keeps a b → IfSome b P → IfSome a P
known_later None b P f h = tt
known_later (Some xs) None P f h = absurd f
known_later (Some xs) (Some ys) P f h = subst P f h

-- bytes that were read are buffered
keeps_read : (buffered bs : List ℕ) (a b : Option (List ℕ)) → Consumes a b bs
    → Keeps (prepend_known buffered a) (prepend_known (buffered ++ bs) b)
keeps_read buffered bs None b f = tt
keeps_read buffered bs (Some xs) None f = absurd f
keeps_read buffered bs (Some xs) (Some ys) f = append_assoc buffered bs ys ∙ ap (λ t. buffered ++ t) (sym f)

keeps_buffered : (buffered : List ℕ) (a b : Option (List ℕ)) → Keeps a b
    → Keeps (prepend_known buffered a) (prepend_known buffered b)
keeps_buffered buffered None b f = tt
keeps_buffered buffered (Some xs) None f = absurd f
keeps_buffered buffered (Some xs) (Some ys) f = ap (λ t. buffered ++ t) f

-- at the end nothing more was read
keeps_end : (a b : Option (List ℕ)) → Consumes a b [] → Keeps a b
keeps_end None b f = tt
keeps_end (Some xs) None f = absurd f
keeps_end (Some xs) (Some ys) f = sym f

consumes_front : (buffered front rest : List ℕ) (a : Option (List ℕ)) → buffered ≡ front ++ rest
    → Consumes (prepend_known buffered a) (prepend_known rest a) front
consumes_front buffered front rest None e = tt
consumes_front buffered front rest (Some xs) e = rw e (append_assoc front rest xs)

pub any_known : (a : Option (List ℕ)) → IfSome a (λ _. Unit {0})
any_known None = tt
any_known (Some xs) = tt

whole_at_end : (buffered : List ℕ) (a b : Option (List ℕ)) (P : List ℕ → Type 0) → Consumes a b [] → IsAtEnd b
    → P buffered
    → IfSome (prepend_known buffered a) P
whole_at_end buffered None b P f end h = tt
whole_at_end buffered (Some xs) None P f end h = absurd f
whole_at_end buffered (Some xs) (Some ys) P f end h =
    subst P (sym (append-nil buffered) ∙ ap (λ t. buffered ++ t) (sym (f ∙ end))) h

bad_still : (bs more : List ℕ) → IsBad bs → IsBad (bs ++ more)
bad_still bs more (bad_name_length n rest out is) = bad_name_length n (rest ++ more) out (ap (λ t. t ++ more) is)
bad_still bs more (bad_name name rest in_range out is) =
    bad_name name (rest ++ more) in_range out (ap (λ t. t ++ more) is ∙ append_assoc (length name ∷ name) rest more)
bad_still bs more (bad_length name high low rest good out is) =
    bad_length name high low (rest ++ more) good out
    (ap (λ t. t ++ more) is ∙ append_assoc (length name ∷ name) (high ∷ low ∷ rest) more)

pub bad_known : (buffered : List ℕ) (a : Option (List ℕ)) → IsBad buffered
    → IfSome (prepend_known buffered a) (λ bs. IsBad bs)
bad_known buffered None bad = tt
bad_known buffered (Some xs) bad = bad_still buffered xs bad

-- One call

module _ {R : Type 0} (gives : R → List ℕ → Got → R → Type 0) (left : R → Option (List ℕ)) where
  pub none_read : (r : Reading R) → r.ended ≡ None → ReadsOn gives left r r
  none_read r still =
      record {
        calls = record { count = 0; reads = no_reads; reads_left = omega arith };
        kept = keeps_refl _;
        open_still = still;
      }

  pub bound_met : (r : Reading R) → r.reads_left ≡ 0 → NeedsMore r.buffered → Stops gives left r Bound r
  bound_met r none more =
      record {
        calls = record { count = 0; reads = no_reads; reads_left = omega arith };
        kept = keeps_refl _;
        ends = any_known _;
        stands = (none, more);
      }

  pub no_memory : (r : Reading R) → TakesMemory r.buffered r.reads_left → Stops gives left r NoMemory r
  no_memory r takes =
      record {
        calls = record { count = 0; reads = no_reads; reads_left = omega arith };
        kept = keeps_refl _;
        ends = any_known _;
        stands = takes;
      }

  pub bad_record : (r : Reading R) → IsBad r.buffered → Stops gives left r BadRecord r
  bad_record r bad =
      record {
        calls = record { count = 0; reads = no_reads; reads_left = omega arith };
        kept = keeps_refl _;
        ends = bad_known _ _ bad;
        stands = bad;
      }

  module _ (tells : (before : R) (buffer : List ℕ) (got : Got) (after : R) → gives before buffer got after
      → Gives (left before) buffer got (left after)) (before after : R) (buffered : List ℕ) (reads_left : ℕ)
      (ended : Option Ended)
      (buffer : List ℕ) where
    pub bytes_read : (n : ℕ) → reads_left ≢ 0 → ended ≡ None → gives before buffer (Bytes n) after
        → ReadsOn gives left (record { reader = before; buffered = buffered; reads_left = reads_left; ended = ended })
        (record { reader = after; buffered = buffered ++ take n buffer; reads_left = reads_left - 1; ended = ended })
    bytes_read n some still given =
        record {
          calls = record { count = 1; reads = reads_once buffer (Bytes n) given tt; reads_left = omega arith };
          kept = keeps_read buffered (take n buffer) _ _ (tells _ _ _ _ given).2;
          open_still = still;
        }

    pub interrupted : reads_left ≢ 0 → ended ≡ None → gives before buffer Interrupted after
        → ReadsOn gives left (record { reader = before; buffered = buffered; reads_left = reads_left; ended = ended })
        (record { reader = after; buffered = buffered; reads_left = reads_left - 1; ended = ended })
    interrupted some still given =
        record {
          calls = record { count = 1; reads = reads_once buffer Interrupted given tt; reads_left = omega arith };
          kept = keeps_buffered buffered _ _ (tells _ _ _ _ given);
          open_still = still;
        }

    pub failed : reads_left ≢ 0 → gives before buffer Failed after
        → Stops gives left (record { reader = before; buffered = buffered; reads_left = reads_left; ended = ended })
        Fault
        (record { reader = after; buffered = buffered; reads_left = reads_left - 1; ended = ended })
    failed some given =
        record {
          calls = record {
            count = 0;
            before = before;
            buffer = buffer;
            reads = no_reads;
            last = given;
            reads_left = omega arith;
          };
          kept = keeps_buffered buffered _ _ (tells _ _ _ _ given);
          ends = any_known _;
          stands = (before, buffer, given);
        }

    last_of : reads_left ≢ 0 → gives before buffer EndOfInput after
        → LastRead gives (record { reader = before; buffered = buffered; reads_left = reads_left; ended = ended })
        EndOfInput
        (record { reader = after; buffered = buffered; reads_left = reads_left - 1; ended = ended })
    last_of some given =
        record {
          count = 0;
          before = before;
          buffer = buffer;
          reads = no_reads;
          last = given;
          reads_left = omega arith;
        }

    pub ended_input : (over : Ended) → reads_left ≢ 0 → EndsInput buffered over → gives before buffer EndOfInput after
        → Stops gives left (record { reader = before; buffered = buffered; reads_left = reads_left; ended = ended })
        over
        (record { reader = after; buffered = buffered; reads_left = reads_left - 1; ended = ended })
    ended_input End some is given = let told = tells _ _ _ _ given in
        record {
          calls = last_of some given;
          kept = keeps_buffered buffered _ _ (keeps_end _ _ told.0);
          ends = whole_at_end buffered _ _ (λ bs. bs ≡ []) told.0 told.1 is;
          stands = (is, (before, buffer, given));
        }
    ended_input Cut some is given = let told = tells _ _ _ _ given in
        record {
          calls = last_of some given;
          kept = keeps_buffered buffered _ _ (keeps_end _ _ told.0);
          ends = whole_at_end buffered _ _ (λ bs. IsCut bs) told.0 told.1 is;
          stands = (is, (before, buffer, given));
        }
    ended_input BadRecord some is given = absurd is
    ended_input Fault some is given = absurd is
    ended_input NoMemory some is given = absurd is
    ended_input Bound some is given = absurd is

  -- Call after call

  goes_later : {a b c : Reading R} → GoesOnReading gives a b → GoesOnReading gives b c → GoesOnReading gives a c
  goes_later f g =
      record {
        count = f.count + g.count;
        reads = reads_more f.count g.count f.reads g.reads;
        reads_left = omega (arith, f.reads_left, g.reads_left);
      }

  last_later : {a b c : Reading R} {got : Got} → GoesOnReading gives a b → LastRead gives b got c
      → LastRead gives a got c
  last_later f g =
      record {
        count = f.count + g.count;
        before = g.before;
        buffer = g.buffer;
        reads = reads_more f.count g.count f.reads g.reads;
        last = g.last;
        reads_left = omega (arith, f.reads_left, g.reads_left);
      }

  ends_later : (over : Ended) (a b c : Reading R) → GoesOnReading gives a b → EndsBy gives over b c
      → EndsBy gives over a c
  ends_later End a b c f g = last_later f g
  ends_later Cut a b c f g = last_later f g
  ends_later BadRecord a b c f g = goes_later f g
  ends_later Fault a b c f g = last_later f g
  ends_later NoMemory a b c f g = goes_later f g
  ends_later Bound a b c f g = goes_later f g

  pub on_later : (a b c : Reading R) → ReadsOn gives left a b → ReadsOn gives left b c → ReadsOn gives left a c
  on_later a b c f g =
      record {
        calls = goes_later f.calls g.calls;
        kept = keeps_more _ _ _ f.kept g.kept;
        open_still = g.open_still;
      }

  stops_later : (over : Ended) (a b c : Reading R) → ReadsOn gives left a b → Stops gives left b over c
      → Stops gives left a over c
  stops_later over a b c f g =
      record {
        calls = ends_later over a b c f.calls g.calls;
        kept = keeps_more _ _ _ f.kept g.kept;
        ends = known_later _ _ _ f.kept g.ends;
        stands = g.stands;
      }

  pub answers_later : (next : Next) (a b c : Reading R) → ReadsOn gives left a b → Answers gives left b next c
      → Answers gives left a next c
  answers_later (Found name parcel) a b c f g =
      record {
        calls = goes_later f.calls g.calls;
        good = g.good;
        taken = consumes_later _ _ _ _ f.kept g.taken;
        open_still = g.open_still;
      }
  answers_later (Over over) a b c f g = (stops_later over a b c f g.0, g.1)

  -- a final answer changes nothing else
  goes_ended : {a : Reading R} (b : Reading R) (e : Option Ended) → GoesOnReading gives a b
      → GoesOnReading gives a (record b { ended = e })
  goes_ended b e f = record { count = f.count; reads = f.reads; reads_left = f.reads_left }

  last_ended : {a : Reading R} {got : Got} (b : Reading R) (e : Option Ended) → LastRead gives a got b
      → LastRead gives a got (record b { ended = e })
  last_ended b e f =
      record {
        count = f.count;
        before = f.before;
        buffer = f.buffer;
        reads = f.reads;
        last = f.last;
        reads_left = f.reads_left;
      }

  by_ended : (over : Ended) (a b : Reading R) (e : Option Ended) → EndsBy gives over a b
      → EndsBy gives over a (record b { ended = e })
  by_ended End a b e f = last_ended b e f
  by_ended Cut a b e f = last_ended b e f
  by_ended BadRecord a b e f = goes_ended b e f
  by_ended Fault a b e f = last_ended b e f
  by_ended NoMemory a b e f = goes_ended b e f
  by_ended Bound a b e f = goes_ended b e f

  pub stands_ended : (over : Ended) (b : Reading R) (e : Option Ended) → EndStands gives b over
      → EndStands gives (record b { ended = e }) over
  stands_ended End b e f = f
  stands_ended Cut b e f = f
  stands_ended BadRecord b e f = f
  stands_ended Fault b e f = f
  stands_ended NoMemory b e f = f
  stands_ended Bound b e f = f

  pub answers_ended : (over : Ended) (next : Next) (a b c : Reading R) → Stops gives left a over b → next ≡ Over over
      → c ≡ record b { ended = Some over } → Answers gives left a next c
  answers_ended over next a b c f n e =
      rw (n, e) (
        record {
          calls = by_ended over a b (Some over) f.calls;
          kept = f.kept;
          ends = f.ends;
          stands = stands_ended over b (Some over) f.stands;
        },
        refl,
      )

-- Fields of the code

pub some_known : (a : Option Ended) (e : Ended) (P : Ended → Type 0) → a ≡ Some e → IfSome a P → P e
some_known None e P is h = cc
some_known (Some x) e P is h = let same : x ≡ e = cc in subst P same h

-- the bytes that were read stand in front of the buffer
pub read_whole : (bs buffer rest : List ℕ) (room : ℕ) → bs ≡ take room (buffer ++ rest) → length buffer ≡ room
    → bs ≡ buffer
read_whole bs buffer rest room is long = is ∙ take_at buffer rest room long

pub cut_buffered : (buffered : List ℕ) → false ≡ (length buffered == 0) → NeedsMore buffered → IsCut buffered
cut_buffered [] some more = cc
cut_buffered (b ∷ bs) some (inl none) = cc
cut_buffered (b ∷ bs) some (inr cut) = cut

-- the payload of the record in front
payload_at : (buffered name : List ℕ) (size start : ℕ) (whole : BeginsWhole buffered name size)
    → start ≡ 3 + length name
    → take (start + size - start) (drop start buffered) ≡ whole.payload
payload_at buffered name size start whole start_is =
    let front = (length name ∷ name) ++ two_bytes (length whole.payload) in
    let long : length front ≡ start =
    omega (arith, start_is, length-append (length name ∷ name) (two_bytes (length whole.payload))) in
    let bytes : drop start buffered ≡ whole.payload ++ whole.rest =
    ap (λ t. drop start t) (whole.bytes ∙ append_assoc front whole.payload whole.rest)
    ∙ drop_at front (whole.payload ++ whole.rest) start long in
    let size_same : start + size - start ≡ size = omega arith in
    rw size_same (ap (λ t. take size t) bytes ∙ take_at whole.payload whole.rest size whole.size_is)

-- a payload that is not made, though it has a length that payloads have, is longer than 16 bytes
pub takes_for_payload : (buffered name : List ℕ) (reads_left size start : ℕ) → BeginsWhole buffered name size
    → start ≡ 3 + length name → (payload : List ℕ) → payload ≡ take (start + size - start) (drop start buffered)
    → (payload_refusal payload ≡ None → length payload ≤ 16 → false ≡ true) → TakesMemory buffered reads_left
takes_for_payload buffered name reads_left size start whole start_is payload payload_is lacks =
    let same : payload ≡ whole.payload = payload_is ∙ payload_at buffered name size start whole start_is in
    let count : length payload ≡ size = ap length same ∙ whole.size_is in
    let fits : payload_refusal payload ≡ None = rw (same, whole.item.payload) refl in
    let long : length payload ≤ 16 → ⊥ = (λ few. let no : false ≡ true = lacks fits few in cc) in
    inl (name, size, omega (arith, long, count), whole)

module _ {R : Type 0} (gives : R → List ℕ → Got → R → Type 0) (left : R → Option (List ℕ)) where
  -- the record in front was given
  pub given_whole : (reader : R) (buffered name : List ℕ) (reads_left size start : ℕ) (ended : Option Ended)
      → BeginsWhole buffered name size → ended ≡ None → start ≡ 3 + length name → (parcel : List ℕ)
      → parcel ≡ take (start + size - start) (drop start buffered) → (rest : List ℕ)
      → rest ≡ drop (start + size) buffered
      → TakesItem gives left (record { reader = reader; buffered = buffered; reads_left = reads_left; ended = ended })
      (record { name = name; payload = parcel })
      (record { reader = reader; buffered = rest; reads_left = reads_left; ended = ended })
  given_whole reader buffered name reads_left size start ended whole still start_is parcel parcel_is rest rest_is =
      let item : Item = record { name = name; payload = whole.payload } in
      let front = (length name ∷ name) ++ two_bytes (length whole.payload) in
      let long : length front ≡ start =
      omega (arith, start_is, length-append (length name ∷ name) (two_bytes (length whole.payload))) in
      let all : length (record_of item) ≡ start + size =
      omega (arith, long, whole.size_is, length-append front whole.payload) in
      let payload : parcel ≡ whole.payload = parcel_is ∙ payload_at buffered name size start whole start_is in
      let after : rest ≡ whole.rest =
      rest_is ∙ ap (λ t. drop (start + size) t) whole.bytes ∙ drop_at (record_of item) whole.rest (start + size) all in
      record {
        calls = record { count = 0; reads = no_reads; reads_left = omega arith };
        good = rw payload whole.item;
        taken = rw (payload, after) (consumes_front buffered (record_of item) whole.rest (left reader) whole.bytes);
        open_still = still;
      }
