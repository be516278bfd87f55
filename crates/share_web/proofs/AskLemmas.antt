-- Heads of the grammar, and what they ask for.
use Rattle.std.proofs.Common.{◌≡◌, ℕ, List, map, drop, ap, sym, ◌∙◌, inl}
use Rattle.std.specs.Prelude.{Some, option_copied}
use Rattle.httparse.proofs.GrammarLemmas.{request_unique}
use Rattle.httparse.specs.Borrowed.{HoldsSomeRequest, header_parts}
use Rattle.httparse.specs.Grammar.{ReadsRequest, RequestHead}
use Rattle.httparse.specs.declared.borrowed.Request.{Request as Parsed}
use Rattle.share_web.specs.Fields.{Fields}
use Rattle.share_web.specs.Requests.{AsksBy, request_by, request_of}
use Rattle.share_web.specs.declared.request.Request.{Request}

-- the answer to what was read is made of these parts
abbrev pub AnswersParts : List ℕ → Parsed → Request → Type 0
AnswersParts address r asked = (method target : List ℕ) → option_copied r.method ≡ Some method
    → option_copied r.path ≡ Some target → asked ≡ request_by address method target (map header_parts r.headers.now)

pub read_asks : (head address : List ℕ) (len : ℕ) (r : Parsed) (asked : Request) → HoldsSomeRequest head r len
    → AnswersParts address r asked → (h : RequestHead) (rest : List ℕ) → ReadsRequest head h rest
    → AsksBy address h asked
read_asks head address len r asked held by h rest reads =
    let k : RequestHead = held.0 in
    let same : h ≡ k = (request_unique head h k rest (drop len head) reads held.1.reads).0 in
    inl (by k.method k.target held.1.method held.1.path
    ∙ ap (λ (fields : Fields). request_by address k.method k.target fields) held.1.fields
    ∙ ap (λ (g : RequestHead). request_of address g) (sym same))
