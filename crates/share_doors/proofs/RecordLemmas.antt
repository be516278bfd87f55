-- The outcome of the records of a connection, call by call.
use Rattle.std.proofs.Common.{◌≡◌, ◌≤◌, ◌<◌, ◌-◌, ℕ, List, ◌++◌, [], ◌∷◌, refl, ◌∙◌, ap, sym, subst, min, take, length}
use Rattle.std.proofs.Common.{append_assoc, append-nil, arith}
use Rattle.std.proofs.lemmas.List.{take_all}
use Rattle.share_model.specs.funding.Graph.{NameBytes}
use Rattle.share_model.specs.ingress.Records.{record_of}
use Rattle.share_book.specs.Audited.{Audited}
use Rattle.share_ingress.specs.Found.{NeedsMore}
use Rattle.share_gateway.specs.Records.{CutsRecord, GivesItem, NamesOnly, RecordsView, item_for}
use Rattle.share_gateway.specs.declared.records.Cut.TheVariants.{More as MoreCut, Bad}
use Rattle.share_doors.specs.Takes.{CutsFirst, EndsWith, Feeds, GivesPayload, HoldsMore, HoldsPart, PassesRecords}
use Rattle.share_doors.specs.Takes.{IsEndOf, IsNoRecord}
use Rattle.share_doors.specs.declared.sender.Came.{Came}
use Rattle.share_doors.specs.declared.sender.Came.TheVariants.{Packet, Dropped, Nothing, More, Over}
use Rattle.share_doors.specs.declared.sender.ClosedWhy.{ClosedWhy}
use Rattle.share_doors.specs.declared.sender.ClosedWhy.TheVariants.{
  Ended,
  CutShort,
  HungUp,
  Failed,
  Malformed,
  NoMemory,
  Asked,
}

-- no byte came
pub holds_same : (a b : RecordsView) → b ≡ a → HoldsMore a b
holds_same a b same =
    subst (λ (x : RecordsView). HoldsMore a x) (sym same)
    (record { came = []; bytes = sym (append-nil a.bytes); name = refl })

-- bytes came after others
pub holds_fed : (a b c : RecordsView) (n : ℕ) → HoldsMore a b → Feeds b n c → HoldsMore a c
holds_fed a b c n held fed = record {
  came = held.came ++ fed.came;
  bytes = fed.bytes ∙ ap (λ (x : List ℕ). x ++ fed.came) held.bytes ∙ append_assoc a.bytes held.came fed.came;
  name = fed.name ∙ held.name;
}

-- the first record was cut
pub cuts_first : (a b c : RecordsView) (lent : List ℕ) → lent ≡ c.payload → HoldsMore a b → GivesItem b c
    → CutsFirst (length lent) a c
cuts_first a b c lent same held gives = record {
  came = held.came;
  record_is = sym held.bytes ∙ gives.bytes
      ∙ ap (λ (x : List ℕ). record_of (item_for x c.payload) ++ c.bytes) held.name;
  count = ap length (sym same);
}

-- the outcome of a payload that was cut
pub passes_payload : (name : NameBytes) (n : ℕ) (a c : RecordsView) (before after : Audited) (answer : Came)
    → CutsFirst n a c → GivesPayload name c.payload before answer after → PassesRecords name a before answer c after
passes_payload name n a c before after (Packet m) cut took = record {
  came = cut.came;
  record_is = cut.record_is;
  count = took.0;
  answer = took.1.0;
  packet = took.1.1;
}
passes_payload name n a c before after Dropped cut took = absurd took
passes_payload name n a c before after Nothing cut took = absurd took
passes_payload name n a c before after More cut took = absurd took
passes_payload name n a c before after (Over why) cut took =
    subst (λ (x : ClosedWhy). EndsWith x a c) (sym took) tt

-- the held bytes begin with no record
pub ends_bad : (a b c : RecordsView) → HoldsMore a b → CutsRecord b Bad c → EndsWith Malformed a c
ends_bad a b c held cut =
    subst (λ (x : RecordsView). HoldsMore a x × IsNoRecord x) (sym cut.1) (held, cut.0)

-- no record is whole
pub holds_part : (a b c : RecordsView) → HoldsMore a b → CutsRecord b MoreCut c → HoldsPart a c
holds_part a b c held cut =
    subst (λ (x : RecordsView). HoldsPart a x) (sym cut.2)
    (record { holds = held; part = cut.0; own = cut.1 })

no_items : (xs : List ℕ) → length xs ≡ 0 → xs ≡ []
no_items [] none = refl
no_items (x ∷ xs) none = absurd (omega (arith, none))

-- no byte came after that
pub part_fed : (a b c : RecordsView) → HoldsPart a b → Feeds b 0 c → HoldsPart a c
part_fed a b c held fed =
    let bytes : c.bytes ≡ b.bytes
    = fed.bytes ∙ ap (λ (x : List ℕ). b.bytes ++ x) (no_items fed.came fed.count) ∙ append-nil b.bytes in
    record {
      holds = holds_fed a b c 0 held.holds fed;
      part = subst (λ (x : List ℕ). NeedsMore x) (sym bytes) held.part;
      own = subst (λ (x : List ℕ). NamesOnly c.name x) (sym bytes)
          (subst (λ (x : List ℕ). NamesOnly x b.bytes) (sym fed.name) held.own);
    }

-- nothing changed after that
pub part_same : (a b c : RecordsView) → HoldsPart a b → c ≡ b → HoldsPart a c
part_same a b c held same = subst (λ (x : RecordsView). HoldsPart a x) (sym same) held

-- a piece that has room
pub fed_whole : (old new : RecordsView) (piece : List ℕ) (n : ℕ) → length piece ≡ n → n ≤ 4096
    → length old.bytes < 9019
    → new ≡ record old {
      bytes = old.bytes ++ take (min (length piece) (16384 - length old.bytes)) piece;
      payload = [];
    }
    → Feeds old n new
fed_whole old new piece n count few room is =
    let all : min (length piece) (16384 - length old.bytes) ≡ length piece = omega arith in
    record {
      came = piece;
      count = count;
      bytes = ap (λ (x : RecordsView). x.bytes) is ∙ ap (λ (k : ℕ). old.bytes ++ take k piece) all
          ∙ ap (λ (x : List ℕ). old.bytes ++ x) (take_all (length piece) piece (omega arith));
      name = ap (λ (x : RecordsView). x.name) is;
    }

-- n bytes are bytes
pub fed_more : (old new : RecordsView) (n : ℕ) → Feeds old n new → HoldsMore old new
fed_more old new n fed = record { came = fed.came; bytes = fed.bytes; name = fed.name }

pub holds_then : (a b c : RecordsView) → HoldsMore a b → HoldsMore b c → HoldsMore a c
holds_then a b c first more = record {
  came = first.came ++ more.came;
  bytes = more.bytes ∙ ap (λ (x : List ℕ). x ++ more.came) first.bytes ∙ append_assoc a.bytes first.came more.came;
  name = more.name ∙ first.name;
}

-- the stream ended, and no record was whole
pub ends_with : (why : ClosedWhy) (a c : RecordsView) → HoldsPart a c → IsEndOf why c → EndsWith why a c
ends_with Ended a c held end = (held, end)
ends_with CutShort a c held end = (held, end)
ends_with HungUp a c held end = absurd end
ends_with (Failed kind) a c held end = absurd end
ends_with Malformed a c held end = absurd end
ends_with NoMemory a c held end = absurd end
ends_with Asked a c held end = absurd end
