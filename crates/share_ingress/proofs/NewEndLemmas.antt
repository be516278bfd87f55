-- The ends of a new queue: each is of a worker of the queue, and of its link.
use Rattle.std.proofs.Common.{◌≡◌, ◌≤◌, ℕ, zero, suc, [], ◌∷◌, refl, arith}
use Rattle.share_model.specs.ingress.Queue.{IsWorker}
use Rattle.share_model.specs.lists.Each.{Each}
use Rattle.share_model.proofs.lemmas.lists.FirstItemLemmas.{each-append, each-one}
use Rattle.share_ingress.specs.Ends.{EndView, new_end, new_ends}
use Rattle.share_ingress.specs.Names.{LinkName}

pub of_workers : (link : LinkName) (capacity n workers : ℕ) → n ≤ workers
    → Each (λ (e : EndView). IsWorker workers e.worker) (new_ends link capacity n)
of_workers link capacity zero workers few = tt
of_workers link capacity (suc n) workers few =
    each-append (λ e. IsWorker workers e.worker) (new_ends link capacity n) (new_end link capacity (suc n) ∷ [])
    (of_workers link capacity n workers (omega (arith, few)))
    (each-one (λ e. IsWorker workers e.worker) (new_end link capacity (suc n)) (omega arith, few))

pub of_link : (link : LinkName) (capacity n : ℕ)
    → Each (λ (e : EndView). e.link ≡ link) (new_ends link capacity n)
of_link link capacity zero = tt
of_link link capacity (suc n) =
    each-append (λ e. e.link ≡ link) (new_ends link capacity n) (new_end link capacity (suc n) ∷ [])
    (of_link link capacity n) (each-one (λ e. e.link ≡ link) (new_end link capacity (suc n)) refl)
