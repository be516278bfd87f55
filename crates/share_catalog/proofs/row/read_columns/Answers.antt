use Rattle.std.proofs.Common.{ℕ, List, [], ◌∷◌, ◌++◌, ◌∙◌, sym, ap, refl, decimal, subst}
use Rattle.share_catalog.specs.Reads.{Any}
use Rattle.share_catalog.specs.Rows.{IsWrong, total_columns}
use Rattle.share_catalog.specs.Texts.{IsNumber, AreTariffs, IsDigest, kind_text, closing_text, tariffs_text}
use Rattle.share_catalog.specs.Texts.{digest_text}
use Rattle.share_catalog.specs.Times.{time_text}
use Rattle.share_catalog.specs.declared.kinds.TextKind.{TextKind}
use Rattle.share_catalog.specs.declared.kinds.Closing.{Closing}
use Rattle.share_catalog.specs.declared.tariffs.BookTariff.{BookTariff}
use Rattle.share_catalog.specs.declared.time.Time.{Time}
use Rattle.share_catalog.proofs.RowLemmas.{no_column}
use Rattle.share_catalog.proofs.row.read_columns.Goals as goal

pub returns-in_default : goal.returns-in_default
returns-in_default c =
    no_column ℕ decimal IsNumber (λ r. r.book) 0 _ ([]) _
    (λ r is. is.book) (sym c.of-columns.ensures) refl
    c.in_default.ensures

pub returns-in_default-next_kind : goal.returns-in_default-next_kind
returns-in_default-next_kind c =
    no_column TextKind kind_text Any (λ r. r.kind) 1 _ (decimal c.in-Some.book ∷ []) _
    (λ r is. tt) (sym c.of-columns.ensures ∙ c.in-Some.ensures.1) refl
    c.in_default-next_kind.ensures

pub returns-in_default-next_time : goal.returns-in_default-next_time
returns-in_default-next_time c =
    no_column Time time_text Any (λ r. r.opened) 2 _ (decimal c.in-Some.book ∷ kind_text c.in-Some-next_kind.kind ∷ [])
    _
    (λ r is. tt) (sym c.of-columns.ensures ∙ c.in-Some.ensures.1
    ∙ ap (λ ps. decimal c.in-Some.book ∷ ps) (c.in-Some-next_kind.ensures.1)) refl
    c.in_default-next_time.ensures

pub returns-in_default-next_time-2 : goal.returns-in_default-next_time-2
returns-in_default-next_time-2 c =
    no_column Time time_text Any (λ r. r.closed) 3 _
    (decimal c.in-Some.book ∷ kind_text c.in-Some-next_kind.kind ∷ time_text c.in-Some-next_time.opened ∷ []) _
    (λ r is. tt) (sym c.of-columns.ensures ∙ c.in-Some.ensures.1
    ∙ ap (λ ps. decimal c.in-Some.book ∷ ps)
    (c.in-Some-next_kind.ensures.1 ∙ ap (λ ps. kind_text c.in-Some-next_kind.kind ∷ ps)
    (c.in-Some-next_time.ensures.1))) refl
    c.in_default-next_time-2.ensures

pub returns-in_default-next_closing : goal.returns-in_default-next_closing
returns-in_default-next_closing c =
    no_column Closing closing_text Any (λ r. r.why) 4 _
    (decimal c.in-Some.book ∷ kind_text c.in-Some-next_kind.kind ∷ time_text c.in-Some-next_time.opened
    ∷ time_text c.in-Some-next_time-2.closed ∷ []) _
    (λ r is. tt) (sym c.of-columns.ensures ∙ c.in-Some.ensures.1
    ∙ ap (λ ps. decimal c.in-Some.book ∷ ps)
    (c.in-Some-next_kind.ensures.1 ∙ ap (λ ps. kind_text c.in-Some-next_kind.kind ∷ ps)
    (c.in-Some-next_time.ensures.1 ∙ ap (λ ps. time_text c.in-Some-next_time.opened ∷ ps)
    (c.in-Some-next_time-2.ensures.1)))) refl
    c.in_default-next_closing.ensures

pub returns-in_default-next_tariffs : goal.returns-in_default-next_tariffs
returns-in_default-next_tariffs c =
    no_column (List BookTariff) tariffs_text AreTariffs (λ r. r.tariffs) 5 _
    (decimal c.in-Some.book ∷ kind_text c.in-Some-next_kind.kind ∷ time_text c.in-Some-next_time.opened
    ∷ time_text c.in-Some-next_time-2.closed ∷ closing_text c.in-Some-next_closing.why ∷ []) _
    (λ r is. is.tariffs) (sym c.of-columns.ensures ∙ c.in-Some.ensures.1
    ∙ ap (λ ps. decimal c.in-Some.book ∷ ps)
    (c.in-Some-next_kind.ensures.1 ∙ ap (λ ps. kind_text c.in-Some-next_kind.kind ∷ ps)
    (c.in-Some-next_time.ensures.1 ∙ ap (λ ps. time_text c.in-Some-next_time.opened ∷ ps)
    (c.in-Some-next_time-2.ensures.1
    ∙ ap (λ ps. time_text c.in-Some-next_time-2.closed ∷ ps) (c.in-Some-next_closing.ensures.1))))) refl
    c.in_default-next_tariffs.ensures

pub returns-in-Err : goal.returns-in-Err
returns-in-Err c =
    let are = (sym c.of-columns.ensures ∙ c.in-Some.ensures.1
    ∙ ap (λ ps. decimal c.in-Some.book ∷ ps)
    (c.in-Some-next_kind.ensures.1 ∙ ap (λ ps. kind_text c.in-Some-next_kind.kind ∷ ps)
    (c.in-Some-next_time.ensures.1 ∙ ap (λ ps. time_text c.in-Some-next_time.opened ∷ ps)
    (c.in-Some-next_time-2.ensures.1
    ∙ ap (λ ps. time_text c.in-Some-next_time-2.closed ∷ ps)
    (c.in-Some-next_closing.ensures.1
    ∙ ap (λ ps. closing_text c.in-Some-next_closing.why ∷ ps) (c.in-Some-next_tariffs.ensures.1)))))) in
    subst (IsWrong c.in-Err.column) (sym are)
    (c.in-Err.ensures (decimal c.in-Some.book ∷ kind_text c.in-Some-next_kind.kind
    ∷ time_text c.in-Some-next_time.opened ∷ time_text c.in-Some-next_time-2.closed
    ∷ closing_text c.in-Some-next_closing.why ∷ tariffs_text c.in-Some-next_tariffs.tariffs ∷ []) refl)

pub returns-in_default-next_digest : goal.returns-in_default-next_digest
returns-in_default-next_digest c =
    no_column (List ℕ) digest_text IsDigest (λ r. r.sha256) 11 _
    ((decimal c.in-Some.book ∷ kind_text c.in-Some-next_kind.kind ∷ time_text c.in-Some-next_time.opened
    ∷ time_text c.in-Some-next_time-2.closed ∷ closing_text c.in-Some-next_closing.why
    ∷ tariffs_text c.in-Some-next_tariffs.tariffs ∷ []) ++ total_columns c.in-Ok.totals) _
    (λ r is. is.sha256) (sym c.of-columns.ensures ∙ c.in-Some.ensures.1
    ∙ ap (λ ps. decimal c.in-Some.book ∷ ps)
    (c.in-Some-next_kind.ensures.1 ∙ ap (λ ps. kind_text c.in-Some-next_kind.kind ∷ ps)
    (c.in-Some-next_time.ensures.1 ∙ ap (λ ps. time_text c.in-Some-next_time.opened ∷ ps)
    (c.in-Some-next_time-2.ensures.1
    ∙ ap (λ ps. time_text c.in-Some-next_time-2.closed ∷ ps)
    (c.in-Some-next_closing.ensures.1
    ∙ ap (λ ps. closing_text c.in-Some-next_closing.why ∷ ps)
    (c.in-Some-next_tariffs.ensures.1
    ∙ ap (λ ps. tariffs_text c.in-Some-next_tariffs.tariffs ∷ ps) (c.in-Ok.ensures.1))))))) refl
    c.in_default-next_digest.ensures
