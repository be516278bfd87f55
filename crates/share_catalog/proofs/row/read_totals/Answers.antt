use Rattle.std.proofs.Common.{[], ◌∷◌, ◌∙◌, ap, refl, decimal}
use Rattle.share_catalog.proofs.RowLemmas.{no_total}
use Rattle.share_catalog.proofs.row.read_totals.Goals as goal

pub returns-in_default : goal.returns-in_default
returns-in_default c =
    no_total (λ t. t.events) 0 6 _ ([]) _ (λ t is. is.events)
    refl refl refl c.in_default.ensures

pub returns-in_default-next_number : goal.returns-in_default-next_number
returns-in_default-next_number c =
    no_total (λ t. t.packets) 1 7 _ (decimal c.in-Some.events ∷ []) _ (λ t is. is.packets)
    (c.in-Some.ensures.1) refl refl c.in_default-next_number.ensures

pub returns-in_default-next_number-2 : goal.returns-in_default-next_number-2
returns-in_default-next_number-2 c =
    no_total (λ t. t.bytes) 2 8 _ (decimal c.in-Some.events ∷ decimal c.in-Some-next_number.packets ∷ []) _
    (λ t is. is.bytes)
    (c.in-Some.ensures.1 ∙ ap (λ ps. decimal c.in-Some.events ∷ ps) (c.in-Some-next_number.ensures.1)) refl refl
    c.in_default-next_number-2.ensures

pub returns-in_default-next_number-3 : goal.returns-in_default-next_number-3
returns-in_default-next_number-3 c =
    no_total (λ t. t.units) 3 9 _ (decimal c.in-Some.events ∷ decimal c.in-Some-next_number.packets
    ∷ decimal c.in-Some-next_number-2.bytes ∷ []) _ (λ t is. is.units)
    (c.in-Some.ensures.1 ∙ ap (λ ps. decimal c.in-Some.events ∷ ps)
    (c.in-Some-next_number.ensures.1
    ∙ ap (λ ps. decimal c.in-Some-next_number.packets ∷ ps) (c.in-Some-next_number-2.ensures.1))) refl refl
    c.in_default-next_number-3.ensures

pub returns-in_default-next_number-4 : goal.returns-in_default-next_number-4
returns-in_default-next_number-4 c =
    no_total (λ t. t.amount) 4 10 _
    (decimal c.in-Some.events ∷ decimal c.in-Some-next_number.packets ∷ decimal c.in-Some-next_number-2.bytes
    ∷ decimal c.in-Some-next_number-3.units ∷ []) _ (λ t is. is.amount)
    (c.in-Some.ensures.1 ∙ ap (λ ps. decimal c.in-Some.events ∷ ps)
    (c.in-Some-next_number.ensures.1
    ∙ ap (λ ps. decimal c.in-Some-next_number.packets ∷ ps)
    (c.in-Some-next_number-2.ensures.1
    ∙ ap (λ ps. decimal c.in-Some-next_number-2.bytes ∷ ps) (c.in-Some-next_number-3.ensures.1)))) refl refl
    c.in_default-next_number-4.ensures
