-- Jobs that are begun from the last to the first, and joined from the first to the last.
use Rattle.std.proofs.Common.{◌≡◌, ◌⊎◌, ℕ, inl, inr, List, [], ◌∷◌, ◌++◌, length, reverse, Option, Result, Ok, Err}
use Rattle.std.proofs.Common.{MatchResult, arith}
use Rattle.std.proofs.Common.{refl, sym, ap, ◌∙◌, subst}
use Rattle.std.proofs.lemmas.List.{append_assoc, append-nil, reverse-append}
use Rattle.share_model.specs.declared.reader.Got.{Got}
use Rattle.share_model.specs.lists.Each.{Each}
use Rattle.share_ingress.specs.Ends.{EndView}
use Rattle.share_ingress.specs.GateCalls.{GateCall}
use Rattle.share_ingress.specs.Threads.{IsJobDone, Matches}
use Rattle.share_ingress.specs.declared.threads.Job.{Job}
use Rattle.share_ingress.specs.declared.workers.Done.{Done}

-- all after these jobs were begun, the last one first
pub record AreBegun {A B : Type 0} (all jobs : List A) (slots : List B) (P : A → B → Type 0) : Type 0 where
  pub rest : List A
  pub split : all ≡ jobs ++ rest
  pub begun : Matches P rest (reverse slots)

-- jobs that were begun and not joined stand after those that were joined
pub record Joined {A B C : Type 0} (all : List A) (slots : List B) (dones : List C) (P : A → B → Type 0)
    (Q : A → C → Type 0) : Type 0 where
  pub front : List A
  pub rest : List A
  pub split : all ≡ front ++ rest
  pub joined : Matches Q front dones
  pub begun : Matches P rest (reverse slots)

pub begun_none : {A B : Type 0} (all : List A) (P : A → B → Type 0) → AreBegun all all [] P
begun_none all P = record { rest = []; split = sym (append-nil all); begun = tt }

pub begun_more : {A B : Type 0} (all jobs before : List A) (slots after : List B) (P : A → B → Type 0) (x : A) (y : B)
    → AreBegun all jobs slots P → jobs ≡ before ++ x ∷ [] → after ≡ slots ++ y ∷ [] → P x y
    → AreBegun all before after P
begun_more all jobs before slots after P x y f e g p =
    record {
      rest = x ∷ f.rest;
      split = f.split ∙ ap (λ t. t ++ f.rest) e ∙ append_assoc before (x ∷ []) f.rest;
      begun = let back : reverse after ≡ y ∷ reverse slots =
          ap (λ t. reverse t) g ∙ reverse-append slots (y ∷ []) in
          subst (λ t. Matches P (x ∷ f.rest) t) (sym back) (p, f.begun);
    }

matches_last : {A C : Type 0} (Q : A → C → Type 0) (xs : List A) (zs : List C) (x : A) (z : C) → Matches Q xs zs → Q x z
    → Matches Q (xs ++ x ∷ []) (zs ++ z ∷ [])
matches_last Q [] [] x z f q = (q, tt)
matches_last Q [] (w ∷ zs) x z f q = absurd f
matches_last Q (v ∷ xs) [] x z f q = absurd f
matches_last Q (v ∷ xs) (w ∷ zs) x z f q = (f.0, matches_last Q xs zs x z f.1 q)

matches_none : {A B : Type 0} (P : A → B → Type 0) (xs : List A) → Matches P xs [] → xs ≡ []
matches_none P [] f = refl
matches_none P (x ∷ xs) f = absurd f

pub joined_none : {A B C : Type 0} (all jobs : List A) (slots : List B) (dones : List C) (P : A → B → Type 0)
    (Q : A → C → Type 0) → AreBegun all jobs slots P → jobs ≡ [] → dones ≡ [] → Joined all slots dones P Q
joined_none all jobs slots dones P Q f none first =
    record {
      front = [];
      rest = f.rest;
      split = f.split ∙ ap (λ t. t ++ f.rest) none;
      joined = subst (λ t. Matches Q [] t) (sym first) tt;
      begun = f.begun;
    }

pub nil_of : {A : Type 0} (xs : List A) → length xs ≡ 0 → xs ≡ []
nil_of [] e = refl
nil_of (x ∷ xs) e = absurd (omega (arith, e))

module _ {A B C : Type 0} (all : List A) (slots before : List B) (dones after : List C) (P : A → B → Type 0)
    (Q : A → C → Type 0) (y : B) (z : C) (last : slots ≡ before ++ y ∷ []) (more : after ≡ dones ++ z ∷ [])
    (did : (x : A) → P x y → Q x z) where
  joins : (front rest : List A) → all ≡ front ++ rest → Matches Q front dones → Matches P rest (y ∷ reverse before)
      → Joined all before after P Q
  joins front [] split joined begun = absurd begun
  joins front (x ∷ rest) split joined begun =
      record {
        front = front ++ x ∷ [];
        rest = rest;
        split = split ∙ sym (append_assoc front (x ∷ []) rest);
        joined = subst (λ t. Matches Q (front ++ x ∷ []) t) (sym more)
            (matches_last Q front dones x z joined (did x begun.0));
        begun = begun.1;
      }

  pub joined_more : Joined all slots dones P Q → Joined all before after P Q
  joined_more f =
      let back : reverse slots ≡ y ∷ reverse before =
      ap (λ t. reverse t) last ∙ reverse-append before (y ∷ []) in
      joins f.front f.rest f.split f.joined (subst (λ t. Matches P f.rest t) back f.begun)

pub joined_all : {A B C : Type 0} (all : List A) (slots : List B) (dones : List C) (P : A → B → Type 0)
    (Q : A → C → Type 0) → Joined all slots dones P Q → slots ≡ [] → Matches Q all dones
joined_all all slots dones P Q f e =
    let none : Matches P f.rest [] = subst (λ t. Matches P f.rest (reverse t)) e f.begun in
    let is : all ≡ f.front =
    f.split ∙ ap (λ t. f.front ++ t) (matches_none P f.rest none) ∙ append-nil f.front in
    subst (λ t. Matches Q t dones) (sym is) f.joined

-- the value that one joined leaves is that of its job, which was done or not started
pub finished : {A H D : Type 0} (y : Result H D) (r : D) (P Q : A → D → Type 0) (job_of : H → A)
    → MatchResult y (λ h. P (job_of h) r) (λ d. r ≡ d) → (x : A) → MatchResult y (λ h. job_of h ≡ x) (Q x)
    → P x r ⊎ Q x r
finished (Ok h) r P Q job_of f x g = inl (subst (λ a. P a r) g f)
finished (Err d) r P Q job_of f x g = inr (subst (λ e. Q x e) (sym f) g)

-- The ends of jobs

pub matches_more : {A C : Type 0} (P Q : A → C → Type 0) → ((x : A) (z : C) → P x z → Q x z) → (xs : List A)
    (zs : List C) → Matches P xs zs → Matches Q xs zs
matches_more P Q f [] [] h = tt
matches_more P Q f [] (z ∷ zs) h = absurd h
matches_more P Q f (x ∷ xs) [] h = absurd h
matches_more P Q f (x ∷ xs) (z ∷ zs) h = (f x z h.0, matches_more P Q f xs zs h.1)

pub each_matched : {A C : Type 0} (P : A → C → Type 0) (Q : A → Type 0) (S : C → Type 0)
    → ((x : A) (z : C) → P x z → Q x → S z) → (xs : List A) (zs : List C) → Matches P xs zs → Each Q xs → Each S zs
each_matched P Q S f [] [] h all = tt
each_matched P Q S f [] (z ∷ zs) h all = absurd h
each_matched P Q S f (x ∷ xs) [] h all = absurd h
each_matched P Q S f (x ∷ xs) (z ∷ zs) h all = (f x z h.0 all.0, each_matched P Q S f xs zs h.1 all.1)

-- the end that a job leaves is of its queue
pub same_link : {R G : Type 0} (gives : R → List ℕ → Got → R → Type 0) (left : R → Option (List ℕ))
    (told : G → GateCall → G → Type 0) (job : Job R G) (done : Done G) → IsJobDone gives left told job done
    → done.end.link ≡ job.end.link
same_link gives left told job done (inl work) = ap (λ (e : EndView). e.link) work.worked.queued
same_link gives left told job done (inr none) = ap (λ (d : Done _). d.end.link) none
