-- Rows and replies that pass one after the other.
use Rattle.std.proofs.Common.{◌≡◌, ◌∙◌, ◌++◌, ◌∷◌, ◌||◌, ◌+◌, ◌<◌, [], ℕ, All, Bool, Bor, List, None, Option, Some}
use Rattle.std.proofs.Common.{add-one, ap, append_assoc, arith, codes, drop, false, get_or, length, map, refl, suc, sym}
use Rattle.std.proofs.Common.{take, true, zero}
use Rattle.std.proofs.Math.Seq.{take-add, take-suc}
use Rattle.std.proofs.lemmas.Grind.{flat_map-append}
use Rattle.std.proofs.lemmas.List.{append-nil, map-append}
use Rattle.std.proofs.lemmas.List.Elements.{All-append, All-nil}
use Rattle.std.proofs.lemmas.List.Folds.{list_any-append}
use Rattle.std.proofs.lemmas.Slice.Eq.{bytes_eq-Decides}
use Rattle.std.specs.Bool.{MatchBool}
use Rattle.std.specs.Io.KnownBytes.{Appends, Consumes}
use Rattle.std.specs.List.{flat_map, list_any}
use Rattle.share_asking.specs.Conversation.{Answered, AreReplies, IsReply, IsRow, IsToEnd, Passed, PassedToEnd}
use Rattle.share_asking.specs.Conversation.{is_refused, lines_bytes, with_feed}
use Rattle.share_asking.specs.Replies.{goes_on, is_end, is_refusal}

pub consumes_none : (a : Option (List ℕ)) → Consumes a a []
consumes_none None = tt
consumes_none (Some u) = refl

pub appends_none : (a : Option (List ℕ)) → Appends a a []
appends_none None = tt
appends_none (Some u) = sym (append-nil u)

pub consumes_append : (a b c : Option (List ℕ)) (xs ys : List ℕ) → Consumes a b xs → Consumes b c ys
    → Consumes a c (xs ++ ys)
consumes_append None b c xs ys first second = tt
consumes_append (Some u) None c xs ys first second = absurd first
consumes_append (Some u) (Some v) None xs ys first second = absurd second
consumes_append (Some u) (Some v) (Some w) xs ys first second =
    first ∙ ap (λ t. xs ++ t) second ∙ sym (append_assoc xs ys w)

pub appends_append : (a b c : Option (List ℕ)) (xs ys : List ℕ) → Appends a b xs → Appends b c ys
    → Appends a c (xs ++ ys)
appends_append None b c xs ys first second = tt
appends_append (Some u) None c xs ys first second = absurd first
appends_append (Some u) (Some v) None xs ys first second = absurd second
appends_append (Some u) (Some v) (Some w) xs ys first second =
    second ∙ ap (λ t. t ++ ys) first ∙ append_assoc u xs ys

pub passed_none : (a o : Option (List ℕ)) → Passed a a o o []
passed_none a o = record { read = consumes_none a; printed = appends_none o; each = All-nil IsRow }

pub passed_append : (a b c o p q : Option (List ℕ)) (xs ys : List (List ℕ)) → Passed a b o p xs → Passed b c p q ys
    → Passed a c o q (xs ++ ys)
passed_append a b c o p q xs ys first second =
    let join : lines_bytes (xs ++ ys) ≡ lines_bytes xs ++ lines_bytes ys = flat_map-append with_feed xs ys in
    record {
      read = rw join (consumes_append a b c (lines_bytes xs) (lines_bytes ys) first.read second.read);
      printed = rw join (appends_append o p q (lines_bytes xs) (lines_bytes ys) first.printed second.printed);
      each = All-append IsRow xs ys first.each second.each;
    }

-- rows without `end` passed
pub record PassedOthers (had has before after : Option (List ℕ)) : Type 0 where
  pub rows : List (List ℕ)
  pub passed : Passed had has before after rows
  pub no_end : All (λ row. is_end row ≡ false) rows

-- one more row, which is not the end
pub passed_other : (a b c o p q : Option (List ℕ)) (row : List ℕ) → PassedOthers a b o p → Passed b c p q (row ∷ [])
    → is_end row ≡ false → PassedOthers a c o q
passed_other a b c o p q row first second other = record {
  rows = first.rows ++ row ∷ [];
  passed = passed_append a b c o p q first.rows (row ∷ []) first.passed second;
  no_end = All-append (λ each. is_end each ≡ false) first.rows (row ∷ []) first.no_end (all_one row other);
}
  where
    all_one : (row : List ℕ) → is_end row ≡ false → All (λ each. is_end each ≡ false) (row ∷ [])
    all_one row other zero d below = other
    all_one row other (suc k) d below = absurd (omega arith)

-- one more row, which is the end
pub passed_end : (a b c o p q : Option (List ℕ)) (row : List ℕ) → PassedOthers a b o p → Passed b c p q (row ∷ [])
    → is_end row ≡ true → PassedToEnd a c o q
passed_end a b c o p q row first second end = record {
  rows = first.rows ++ row ∷ [];
  passed = passed_append a b c o p q first.rows (row ∷ []) first.passed second;
  to_end = record {
    others = first.rows;
    no_end = first.no_end;
    end = ap (λ last. first.rows ++ last ∷ []) ((bytes_eq-Decides row (codes "end")).0 end);
  };
}

pub replies_append : (xs ys : List (List ℕ)) (rs ss : List (List (List ℕ))) → AreReplies xs rs → AreReplies ys ss
    → AreReplies (xs ++ ys) (rs ++ ss)
replies_append [] ys [] ss first second = second
replies_append [] ys (r ∷ rs) ss first second = absurd first
replies_append (x ∷ xs) ys [] ss first second = absurd first
replies_append (x ∷ xs) ys (r ∷ rs) ss first second = (first.0, replies_append xs ys rs ss first.1 second)

pub answered_none : (a o : Option (List ℕ)) → Answered a a o o [] false
answered_none a o = record { replies = []; are = tt; passed = passed_none a o; refusal = refl }

pub answered_append : (a b c o p q : Option (List ℕ)) (xs ys : List (List ℕ)) (s t : Bool) → Answered a b o p xs s
    → Answered b c p q ys t → Answered a c o q (xs ++ ys) (s || t)
answered_append a b c o p q xs ys s t first second =
    let rs : List (List (List ℕ)) = first.replies in
    let ss : List (List (List ℕ)) = second.replies in
    let rows : List (List (List ℕ)) → List (List ℕ) = flat_map (λ reply. reply) in
    let join : rows (rs ++ ss) ≡ rows rs ++ rows ss = flat_map-append (λ reply. reply) rs ss in
    record {
      replies = rs ++ ss;
      are = replies_append xs ys rs ss first.are second.are;
      passed = rw join (passed_append a b c o p q (rows rs) (rows ss) first.passed second.passed);
      refusal = ap (λ u. u || t) first.refusal ∙ ap (λ u. list_any is_refused rs || u) second.refusal
          ∙ sym (list_any-append is_refused rs ss);
    }

-- the reply to one line
pub answered_one : (a b o p : Option (List ℕ)) (line : List ℕ) (reply : List (List ℕ)) → IsReply line reply
    → Passed a b o p reply → (refused : Bool) → refused ≡ is_refused reply → Answered a b o p (line ∷ []) refused
answered_one a b o p line reply is passed refused same = record {
  replies = reply ∷ [];
  are = (is, tt);
  passed = rw (append-nil reply) passed;
  refusal = same ∙ sym (or_false (is_refused reply));
}
  where
    or_false : (u : Bool) → (u || false) ≡ u
    or_false u = elim u as (λ v. (v || false) ≡ v) [ true ↦ refl | false ↦ refl ]

-- a reply of one row
pub answered_row : (a b o p : Option (List ℕ)) (line row : List ℕ) (refused : Bool) → Passed a b o p (row ∷ [])
    → goes_on line row ≡ false → refused ≡ is_refusal row → Answered a b o p (line ∷ []) refused
answered_row a b o p line row refused passed stops same =
    let whole : MatchBool (goes_on line row) (IsToEnd []) ([] ≡ []) = rw stops refl in
    let is : IsReply line (row ∷ []) = record { first = row; others = []; rows = refl; whole = whole } in
    answered_one a b o p line (row ∷ []) is passed refused same

-- a report
pub answered_report : (a b c o p q : Option (List ℕ)) (line row : List ℕ) (refused : Bool) → Passed a b o p (row ∷ [])
    → PassedToEnd b c p q → goes_on line row ≡ true → refused ≡ is_refusal row → Answered a c o q (line ∷ []) refused
answered_report a b c o p q line row refused first others goes same =
    let rows : List (List ℕ) = others.rows in
    let whole : MatchBool (goes_on line row) (IsToEnd rows) (rows ≡ []) = rw goes others.to_end in
    let is : IsReply line (row ∷ rows) = record { first = row; others = rows; rows = refl; whole = whole } in
    answered_one a c o q line (row ∷ rows) is (passed_append a b c o p q (row ∷ []) rows first others.passed) refused
    same

-- the texts of the first lines, and of one more
pub texts_suc : (lines : List (Bor (List ℕ))) (i : ℕ) (d : Bor (List ℕ)) → i < length lines
    → map (λ line. line.now) (take (i + 1) lines) ≡ map (λ line. line.now) (take i lines) ++ (get_or lines i d).now ∷ []
texts_suc lines i d below =
    let text : Bor (List ℕ) → List ℕ = λ line. line.now in
    let step : take (i + 1) lines ≡ take i lines ++ get_or lines i d ∷ [] = rw (add-one i) (take-suc lines i d below) in
    ap (map text) step ∙ map-append text (take i lines) (get_or lines i d ∷ [])

-- the texts of the first lines, and of some more
pub texts_add : (lines : List (Bor (List ℕ))) (n m : ℕ)
    → map (λ line. line.now) (take (n + m) lines)
    ≡ map (λ line. line.now) (take n lines) ++ map (λ line. line.now) (take m (drop n lines))
texts_add lines n m =
    let text : Bor (List ℕ) → List ℕ = λ line. line.now in
    ap (map text) (take-add n m lines) ∙ map-append text (take n lines) (take m (drop n lines))

-- lines that are sent one after the other
pub sent_append : (a b c : Option (List ℕ)) (xs ys : List (List ℕ)) → Appends a b (lines_bytes xs)
    → Appends b c (lines_bytes ys) → Appends a c (lines_bytes (xs ++ ys))
sent_append a b c xs ys first second =
    rw (flat_map-append with_feed xs ys) (appends_append a b c (lines_bytes xs) (lines_bytes ys) first second)
