-- The rest of the records that a connection is given, call by call.
use Rattle.std.proofs.Common.{◌≡◌, ◌+◌, ◌<◌, ℕ, zero, suc, List, [], true, drop, length, ◌∙◌, ap, sym}
use Rattle.std.proofs.Common.{arith}
use Rattle.std.proofs.lemmas.List.{drop-drop, drop_all}
use Rattle.share_model.specs.funding.Graph.{NameBytes}
use Rattle.share_model.specs.ingress.Records.{record_of}
use Rattle.share_gateway.specs.Records.{item_for}
use Rattle.share_doors.specs.Outgoing.{GoesOn, Sends}

-- nothing went
pub goes_none : (a b : List ℕ) → b ≡ a → GoesOn a b
goes_none a b same = record { went = 0; left = same }

-- all went, or was given up
pub goes_all : (a b : List ℕ) → b ≡ [] → GoesOn a b
goes_all a b none = record { went = length a; left = none ∙ sym (drop_all (length a) a (omega arith)) }

-- bytes went after others
pub goes_then : (a b c : List ℕ) → GoesOn a b → GoesOn b c → GoesOn a c
goes_then a b c first more = record {
  went = first.went + more.went;
  left = more.left ∙ ap (λ (x : List ℕ). drop more.went x) first.left ∙ drop-drop more.went first.went a;
}

-- a record was begun, of which some went
pub sends_record : (name : NameBytes) (payload old whole new : List ℕ) → whole ≡ record_of (item_for name payload)
    → GoesOn whole new → length new < length whole → Sends name payload old true new
sends_record name payload old whole new is goes less = by_count goes.went goes.left
  where
    by_count : (went : ℕ) → new ≡ drop went whole → Sends name payload old true new
    by_count zero left = absurd (omega (arith, ap length left, less))
    by_count (suc k) left = (suc k, omega arith, left ∙ ap (λ (x : List ℕ). drop (suc k) x) is)
