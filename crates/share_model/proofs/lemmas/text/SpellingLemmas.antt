-- Words that are read as a line are those of its spelling.
use Rattle.std.specs.Prelude.{◌≡◌, ℕ, Bool, true, false, List, [], ◌∷◌, codes, decimal, Option, None, Some, refl}
use Rattle.std.specs.Str.{bytes_eq}
use Rattle.std.proofs.Common.{sym, ◌∙◌, ap, cond, subst}
use Rattle.std.proofs.lemmas.Slice.Eq.{bytes_eq-Decides}
use Rattle.share_base.specs.declared.command.Command.{Command}
use Rattle.share_base.specs.declared.command.Command.TheVariants.{MakeCurrency, RemoveCurrency}
use Rattle.share_base.specs.declared.command.Command.TheVariants.{RemoveTicket, Unfund}
use Rattle.share_base.specs.declared.command.Command.TheVariants.{CloseFlow, Hold, Resume}
use Rattle.share_base.specs.declared.version.Version.{Version}
use Rattle.share_base.specs.declared.version.Version.TheVariants.{One, Two}
use Rattle.share_model.specs.declared.line.HolderKind.{HolderKind}
use Rattle.share_model.specs.declared.line.HolderKind.TheVariants.{Currency as CurrencyKind, Flow as FlowKind}
use Rattle.share_model.specs.declared.line.Line.{Line}
use Rattle.share_model.specs.declared.line.Line.TheVariants.{Change}
use Rattle.share_model.specs.text.Lines.{hex, words, IsName, IsNumber, IsPayload, HasFields, HasCommandFields}
use Rattle.share_model.specs.text.Lines.{name_of, number_of, payload_of, field, with_rest, ◌>>=◌}
use Rattle.share_model.specs.text.Lines.{kind_of, version_word, version_of, funding_of, line_at_end}
use Rattle.share_model.specs.text.Lines.{named_of, numbered_of, mktkt_of, amend_of, fund_of, open_of}
use Rattle.share_model.specs.text.Lines.{send_of, turn_of, torn_of, report_of, audit_of, line_by, line_of}
use Rattle.share_model.proofs.lemmas.text.WordLemmas.{name_of-only, number_of-only, payload_of-only}

-- the words are those of this line
abbrev pub AreWords : List (List ℕ) → Line → Type 0
AreWords ws l = (words l ≡ ws) × HasFields l

-- the first word was read as a field
record TookWords {A : Type 0} (f : List ℕ → Option A) (ws : List (List ℕ)) (value : A) (rest : List (List ℕ)) : Type 0
  where
    word : List ℕ
    begins : ws ≡ word ∷ rest
    reads : f word ≡ Some value

took_by : {A : Type 0} (f : List ℕ → Option A) (w : List ℕ) (ws : List (List ℕ)) (o : Option A) → f w ≡ o
    → (p : A × List (List ℕ)) → with_rest ws o ≡ Some p → TookWords f (w ∷ ws) p.0 p.1
took_by f w ws None e p h = cc
took_by f w ws (Some x) e p h =
    let q : (x, ws) ≡ p = cc in
    record { word = w; begins = ap (λ r. w ∷ r.1) q; reads = e ∙ ap (λ r. Some r.0) q }

took : {A : Type 0} (f : List ℕ → Option A) (ws : List (List ℕ)) (p : A × List (List ℕ)) → field f ws ≡ Some p
    → TookWords f ws p.0 p.1
took f [] p h = cc
took f (w ∷ ws) p h = took_by f w ws (f w) refl p h

record Bound {A B : Type 0} (o : Option A) (f : A → Option B) (b : B) : Type 0 where
  value : A
  first : o ≡ Some value
  then : f value ≡ Some b

bound : {A B : Type 0} (o : Option A) (f : A → Option B) (b : B) → (o >>= f) ≡ Some b → Bound o f b
bound None f b e = cc
bound (Some a) f b e = record { value = a; first = refl; then = e }

line_at_end-only : (ws : List (List ℕ)) (l m : Line) → line_at_end ws l ≡ Some m → (ws ≡ []) × (l ≡ m)
line_at_end-only [] l m e = (refl, cc)
line_at_end-only (w ∷ ws) l m e = cc

-- the word of what a ticket funds
abbrev kind_word : HolderKind → List ℕ
kind_word CurrencyKind = codes "cur"
kind_word FlowKind = codes "flow"

-- a word that is read as one of two values by their words
one_of_two : {A : Type 0} (word : A → List ℕ) (x y value : A) (w : List ℕ) (is_x is_y : Bool)
    → bytes_eq w (word x) ≡ is_x → bytes_eq w (word y) ≡ is_y
    → cond is_x (Some x) (cond is_y (Some y) None) ≡ Some value → w ≡ word value
one_of_two word x y value w true is_y first second e =
    let same : x ≡ value = cc in (bytes_eq-Decides w (word x)).0 first ∙ ap word same
one_of_two word x y value w false true first second e =
    let same : y ≡ value = cc in (bytes_eq-Decides w (word y)).0 second ∙ ap word same
one_of_two word x y value w false false first second e = cc

kind_of-only : (w : List ℕ) (kind : HolderKind) → kind_of w ≡ Some kind → w ≡ kind_word kind
kind_of-only w kind e = one_of_two kind_word CurrencyKind FlowKind kind w _ _ refl refl e

version_of-only : (w : List ℕ) (version : Version) → version_of w ≡ Some version → w ≡ version_word version
version_of-only w version e = one_of_two version_word One Two version w _ _ refl refl e

took_name : (ws : List (List ℕ)) (p : List ℕ × List (List ℕ)) → field name_of ws ≡ Some p
    → IsName p.0 × (ws ≡ p.0 ∷ p.1)
took_name ws p e =
    let t = took name_of ws p e in
    let x = name_of-only _ _ t.reads in
    (x.0, t.begins ∙ ap (λ (w : List ℕ). w ∷ p.1) x.1)

took_number : (ws : List (List ℕ)) (p : ℕ × List (List ℕ)) → field number_of ws ≡ Some p
    → IsNumber p.0 × (ws ≡ decimal p.0 ∷ p.1)
took_number ws p e =
    let t = took number_of ws p e in
    let x = number_of-only _ _ t.reads in
    (x.0, t.begins ∙ ap (λ (w : List ℕ). w ∷ p.1) x.1)

took_payload : (ws : List (List ℕ)) (p : List ℕ × List (List ℕ)) → field payload_of ws ≡ Some p
    → IsPayload p.0 × (ws ≡ hex p.0 ∷ p.1)
took_payload ws p e =
    let t = took payload_of ws p e in
    let x = payload_of-only _ _ t.reads in
    (x.0, t.begins ∙ ap (λ (w : List ℕ). w ∷ p.1) x.1)

took_kind : (ws : List (List ℕ)) (p : HolderKind × List (List ℕ)) → field kind_of ws ≡ Some p
    → ws ≡ kind_word p.0 ∷ p.1
took_kind ws p e =
    let t = took kind_of ws p e in t.begins ∙ ap (λ (w : List ℕ). w ∷ p.1) (kind_of-only _ _ t.reads)

took_version : (ws : List (List ℕ)) (p : Version × List (List ℕ)) → field version_of ws ≡ Some p
    → ws ≡ version_word p.0 ∷ p.1
took_version ws p e =
    let t = took version_of ws p e in t.begins ∙ ap (λ (w : List ℕ). w ∷ p.1) (version_of-only _ _ t.reads)

-- words before words
before : (w : List ℕ) (ws vs xs : List (List ℕ)) → ws ≡ w ∷ vs → vs ≡ xs → ws ≡ w ∷ xs
before w ws vs xs e h = e ∙ ap (λ (r : List (List ℕ)). w ∷ r) h

-- the line of these words, after its keyword
are_words : (k : List ℕ) (ws vs : List (List ℕ)) (l m : Line) → words m ≡ k ∷ vs → HasFields m → ws ≡ vs → m ≡ l
    → AreWords (k ∷ ws) l
are_words k ws vs l m spells fields e same =
    let P : Line → Type 0 = λ x. AreWords (k ∷ ws) x in
    subst P same (spells ∙ ap (λ (r : List (List ℕ)). k ∷ r) (sym e), fields)

open_of-only : (ws : List (List ℕ)) (l : Line) → open_of ws ≡ Some l → AreWords (codes "open" ∷ ws) l
open_of-only ws l e =
    let n = bound _ _ _ e in
    let m = bound _ _ _ n.then in
    let t = bound _ _ _ m.then in
    let z = line_at_end-only _ _ _ t.then in
    let a = took_name ws n.value n.first in
    let b = took_number n.value.1 m.value m.first in
    let c = took_number m.value.1 t.value t.first in
    are_words _ ws _ l _ refl (a.0, b.0, c.0) (before _ _ _ _ a.1 (before _ _ _ _ b.1 (before _ _ _ _ c.1 z.0))) z.1

mktkt_of-only : (ws : List (List ℕ)) (l : Line) → mktkt_of ws ≡ Some l → AreWords (codes "mktkt" ∷ ws) l
mktkt_of-only ws l e =
    let n = bound _ _ _ e in
    let m = bound _ _ _ n.then in
    let z = line_at_end-only _ _ _ m.then in
    let a = took_number ws n.value n.first in
    let b = took_name n.value.1 m.value m.first in
    are_words _ ws _ l _ refl (a.0, b.0) (before _ _ _ _ a.1 (before _ _ _ _ b.1 z.0)) z.1

amend_of-only : (ws : List (List ℕ)) (l : Line) → amend_of ws ≡ Some l → AreWords (codes "amend" ∷ ws) l
amend_of-only ws l e =
    let n = bound _ _ _ e in
    let m = bound _ _ _ n.then in
    let z = line_at_end-only _ _ _ m.then in
    let a = took_number ws n.value n.first in
    let b = took_number n.value.1 m.value m.first in
    are_words _ ws _ l _ refl (a.0, b.0) (before _ _ _ _ a.1 (before _ _ _ _ b.1 z.0)) z.1

named_of-only : (k : List ℕ) (command : List ℕ → Command)
    → ((name : List ℕ) → words (Change (command name)) ≡ k ∷ name ∷ [])
    → ((name : List ℕ) → IsName name → HasCommandFields (command name)) → (ws : List (List ℕ)) (l : Line)
    → named_of command ws ≡ Some l → AreWords (k ∷ ws) l
named_of-only k command spells fields ws l e =
    let n = bound _ _ _ e in
    let z = line_at_end-only _ _ _ n.then in
    let a = took_name ws n.value n.first in
    are_words k ws _ l (Change (command n.value.0)) (spells n.value.0) (fields n.value.0 a.0)
    (before _ _ _ _ a.1 z.0) z.1

numbered_of-only : (k : List ℕ) (command : ℕ → Command)
    → ((number : ℕ) → words (Change (command number)) ≡ k ∷ decimal number ∷ [])
    → ((number : ℕ) → IsNumber number → HasCommandFields (command number)) → (ws : List (List ℕ)) (l : Line)
    → numbered_of command ws ≡ Some l → AreWords (k ∷ ws) l
numbered_of-only k command spells fields ws l e =
    let n = bound _ _ _ e in
    let z = line_at_end-only _ _ _ n.then in
    let a = took_number ws n.value n.first in
    are_words k ws _ l (Change (command n.value.0)) (spells n.value.0) (fields n.value.0 a.0)
    (before _ _ _ _ a.1 z.0) z.1

funding_fields : (kind : HolderKind) (ticket : ℕ) (name : List ℕ) → IsNumber ticket → IsName name
    → HasFields (Change (funding_of kind ticket name))
funding_fields CurrencyKind ticket name t n = (t, n)
funding_fields FlowKind ticket name t n = (t, n)

funding_words : (kind : HolderKind) (ticket : ℕ) (name : List ℕ)
    → words (Change (funding_of kind ticket name)) ≡ codes "fund" ∷ decimal ticket ∷ kind_word kind ∷ name ∷ []
funding_words CurrencyKind ticket name = refl
funding_words FlowKind ticket name = refl

fund_of-only : (ws : List (List ℕ)) (l : Line) → fund_of ws ≡ Some l → AreWords (codes "fund" ∷ ws) l
fund_of-only ws l e =
    let n = bound _ _ _ e in
    let m = bound _ _ _ n.then in
    let t = bound _ _ _ m.then in
    let z = line_at_end-only _ _ _ t.then in
    let a = took_number ws n.value n.first in
    let b = took_kind n.value.1 m.value m.first in
    let c = took_name m.value.1 t.value t.first in
    are_words _ ws _ l _ (funding_words m.value.0 n.value.0 t.value.0)
    (funding_fields m.value.0 n.value.0 t.value.0 a.0 c.0)
    (before _ _ _ _ a.1 (before _ _ _ _ b (before _ _ _ _ c.1 z.0))) z.1

send_of-only : (ws : List (List ℕ)) (l : Line) → send_of ws ≡ Some l → AreWords (codes "send" ∷ ws) l
send_of-only ws l e =
    let n = bound _ _ _ e in
    let m = bound _ _ _ n.then in
    let z = line_at_end-only _ _ _ m.then in
    let a = took_name ws n.value n.first in
    let b = took_payload n.value.1 m.value m.first in
    are_words _ ws _ l _ refl (a.0, b.0, refl) (before _ _ _ _ a.1 (before _ _ _ _ b.1 z.0)) z.1

turn_of-only : (ws : List (List ℕ)) (l : Line) → turn_of ws ≡ Some l → AreWords (codes "turn" ∷ ws) l
turn_of-only ws l e =
    let n = bound _ _ _ e in
    let z = line_at_end-only _ _ _ n.then in
    let a = took_number ws n.value n.first in
    are_words _ ws _ l _ refl a.0 (before _ _ _ _ a.1 z.0) z.1

torn_of-only : (ws : List (List ℕ)) (l : Line) → torn_of ws ≡ Some l → AreWords (codes "torn" ∷ ws) l
torn_of-only ws l e = let z = line_at_end-only _ _ _ e in are_words _ ws _ l _ refl tt z.0 z.1

report_of-only : (ws : List (List ℕ)) (l : Line) → report_of ws ≡ Some l → AreWords (codes "report" ∷ ws) l
report_of-only ws l e = let z = line_at_end-only _ _ _ e in are_words _ ws _ l _ refl tt z.0 z.1

audit_of-only : (ws : List (List ℕ)) (l : Line) → audit_of ws ≡ Some l → AreWords (codes "audit" ∷ ws) l
audit_of-only ws l e =
    let n = bound _ _ _ e in
    let z = line_at_end-only _ _ _ n.then in
    are_words _ ws _ l _ refl tt (before _ _ _ _ (took_version ws n.value n.first) z.0) z.1

-- a word that is this keyword, before words that its reader takes; or another word
by_keyword : (w k : List ℕ) (ws : List (List ℕ)) (x y : Option Line) (l : Line) → (x ≡ Some l → AreWords (k ∷ ws) l)
    → (y ≡ Some l → AreWords (w ∷ ws) l) → (b : Bool) → bytes_eq w k ≡ b → cond b x y ≡ Some l → AreWords (w ∷ ws) l
by_keyword w k ws x y l this other true e h = let q : w ≡ k = (bytes_eq-Decides w k).0 e in rw q (this h)
by_keyword w k ws x y l this other false e h = other h

line_by-only : (w : List ℕ) (ws : List (List ℕ)) (l : Line) → line_by w ws ≡ Some l → AreWords (w ∷ ws) l
unfolding line_by
line_by-only w ws l e =
    by_keyword w _ ws _ _ l (send_of-only ws l)
    (by_keyword w _ ws _ _ l (turn_of-only ws l)
    (by_keyword w _ ws _ _ l (open_of-only ws l)
    (by_keyword w _ ws _ _ l (named_of-only _ CloseFlow (λ n. refl) (λ n h. h) ws l)
    (by_keyword w _ ws _ _ l (mktkt_of-only ws l)
    (by_keyword w _ ws _ _ l (fund_of-only ws l)
    (by_keyword w _ ws _ _ l (numbered_of-only _ Unfund (λ n. refl) (λ n h. h) ws l)
    (by_keyword w _ ws _ _ l (numbered_of-only _ RemoveTicket (λ n. refl) (λ n h. h) ws l)
    (by_keyword w _ ws _ _ l (named_of-only _ MakeCurrency (λ n. refl) (λ n h. h) ws l)
    (by_keyword w _ ws _ _ l (named_of-only _ RemoveCurrency (λ n. refl) (λ n h. h) ws l)
    (by_keyword w _ ws _ _ l (named_of-only _ Hold (λ n. refl) (λ n h. h) ws l)
    (by_keyword w _ ws _ _ l (named_of-only _ Resume (λ n. refl) (λ n h. h) ws l)
    (by_keyword w _ ws _ _ l (amend_of-only ws l)
    (by_keyword w _ ws _ _ l (torn_of-only ws l)
    (by_keyword w _ ws _ _ l (report_of-only ws l)
    (by_keyword w _ ws _ _ l (audit_of-only ws l)
    (λ (h : None ≡ Some l). cc)
    _ refl) _ refl) _ refl) _ refl) _ refl) _ refl) _ refl) _ refl) _ refl) _ refl) _ refl) _ refl) _ refl) _ refl)
    _ refl) _ refl e

pub line_of-only : (ws : List (List ℕ)) (l : Line) → line_of ws ≡ Some l → AreWords ws l
line_of-only [] l e = cc
line_of-only (w ∷ ws) l e = line_by-only w ws l e
