use Rattle.std.proofs.Common.{◌≡◌, ℕ, List, ap, ◌∙◌, arith}
use Rattle.share_base.specs.declared.version.Version.{Version}
use Rattle.share_frame.specs.Reading.{BeginsWithFrame}
use Rattle.share_frame.specs.Fields.{number_in}
use Rattle.share_frame.proofs.ByteLemmas.{are_bytes}
use Rattle.share_frame.proofs.WholeHeaderLemmas.{part-begins, whole-begins}
use Rattle.share_frame.proofs.BeginningLemmas.{good-begins}
use Rattle.share_frame.proofs.reading.read.Goals as goal

-- less than a header, with nothing bad
pub returns-then-bytes-header : goal.returns-then-bytes-header
returns-then-bytes-header c =
    good-begins c.args.version c.args.bytes.now (are_bytes c.args.bytes.now c.type_inv.bytes) (omega arith)
    (λ place here. c.in_default.ensures place)

-- a header, and not all of its payload
pub returns-then-bytes-header-2 : goal.returns-then-bytes-header-2
returns-then-bytes-header-2 c =
    part-begins c.args.version c.args.bytes.now (are_bytes c.args.bytes.now c.type_inv.bytes) (omega arith)
    c.in_default.ensures (omega (arith, c.length_of-len.ensures, c.from.ensures))

same_fields : (v : Version) (f s t l g u w m : ℕ) (x : List ℕ) → f ≡ g → s ≡ u → t ≡ w → l ≡ m
    → BeginsWithFrame v g u w m x → BeginsWithFrame v f s t l x
same_fields v f s t l g u w m x a b d e whole = rw (a, b, d, e) whole

pub returns : goal.returns
returns c =
    same_fields c.args.version _ _ _ _ _ _ _ _ _
    (c.number_at.ensures ∙ ap (number_in c.args.bytes.now) c.start.ensures) c.seq_of.ensures
    c.tariff_of.ensures c.length_of-len.ensures
    (whole-begins c.args.version c.args.bytes.now (are_bytes c.args.bytes.now c.type_inv.bytes) (omega arith)
    c.in_default.ensures (omega (arith, c.length_of-len.ensures, c.from.ensures)))
