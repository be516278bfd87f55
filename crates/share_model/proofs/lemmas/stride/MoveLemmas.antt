-- Laws of the tickets that compete, and of moves between which no time passes.
use Rattle.std.proofs.Common.{◌≡◌, ◌≢◌, ℕ, ◌+◌, ◌-◌, ◌*◌, ◌/◌, ◌≤◌, None, Some, unwrap_or, IsSome, refl, sym, ap, ◌∙◌}
use Rattle.std.proofs.Common.{arith}
use Rattle.std.specs.Ordering.{nat_cmp}
use Rattle.std.specs.FinMap.{FinMap, get, insert, remove, len}
use Rattle.share_model.specs.declared.stride.Client.{Client}
use Rattle.share_model.proofs.lemmas.stride.MapLemmas.{get-remove_other, get-insert_same, get-insert_other}
use Rattle.share_model.proofs.lemmas.stride.MapLemmas.{insert-insert_same, insert-insert_other, sum-insert_new}
use Rattle.share_model.proofs.lemmas.stride.MapLemmas.{sum-insert_found, sum-remove, sum_le}
use Rattle.share_model.specs.stride.Moves.{MovesCommute, Stride, Move, Join, Leave, Modify, after_move, client, update}
use Rattle.share_model.specs.stride.Moves.{after_join, after_leave, charge, after_charge, new_client, with_client}
use Rattle.share_model.specs.stride.Moves.{total, competing_tickets, global_stride, remove as remove_flow}

-- ---- The tickets that compete

-- a client that is put in place of another changes the total by the difference of their tickets
pub total-insert_found : (m : FinMap nat_cmp Client) (f : ℕ) (old new : Client) → get m f ≡ Some old
    → competing_tickets (f, old) + total (insert m f new) ≡ competing_tickets (f, new) + total m
unfolding total
total-insert_found m f old new found = sum-insert_found competing_tickets m f old new found

pub total-insert_new : (m : FinMap nat_cmp Client) (f : ℕ) (new : Client) → get m f ≡ None
    → total (insert m f new) ≡ competing_tickets (f, new) + total m
unfolding total
total-insert_new m f new absent = sum-insert_new competing_tickets m f new absent

pub total-remove : (m : FinMap nat_cmp Client) (f : ℕ) (old : Client) → get m f ≡ Some old
    → competing_tickets (f, old) + total (remove m f) ≡ total m
unfolding total
total-remove m f old found = sum-remove competing_tickets m f old found

pub total_le : (bound : ℕ) (m : FinMap nat_cmp Client)
    → ((f : ℕ) (c : Client) → get m f ≡ Some c → competing_tickets (f, c) ≤ bound) → total m ≤ len m * bound
unfolding total
total_le bound m each = sum_le competing_tickets bound m each

-- ---- Moves between which no time passes

-- a move: an update, and then a change of one client that depends on the global pass and this client alone
abbrev pub shift : (ℕ → Client → Client) → Stride → ℕ → Stride
shift change s f = let now = update s in with_client now f (change now.pass (client s f))

-- the change of a client by a move
abbrev pub change_of : Move → ℕ → Client → Client
change_of (Join tickets) global_pass c = after_join global_pass c tickets
change_of Leave global_pass c = after_leave global_pass c
change_of (Modify tickets) global_pass c = after_join global_pass (after_leave global_pass c) tickets

-- no time passed since an update
still : (a b c : ℕ) → a + b * (c - c) / 1024 ≡ a
still a b c = let none : c - c ≡ 0 = omega arith in ap (λ n. a + b * n / 1024) none ∙ omega arith

pub update-shift : (change : ℕ → Client → Client) (s : Stride) (f : ℕ) → update (shift change s f) ≡ shift change s f
update-shift change s f =
    ap (λ n. record (shift change s f) { pass = n }) (still (update s).pass (global_stride (shift change s f)) s.clock)

-- the client of a flow that has one
pub client_is : (s : Stride) (f : ℕ) (c : Client) → Some c ≡ get s.clients f → client s f ≡ c
client_is s f c found = sym (ap (λ o. unwrap_or o new_client) found)

pub is_there : (s : Stride) (f : ℕ) → IsSome (get s.clients f) → Some (client s f) ≡ get s.clients f
is_there s f there =
    elim (get s.clients f) as (λ o. IsSome o → Some (unwrap_or o new_client) ≡ o) [
      | None ↦ λ none. absurd (cc)
      | Some c ↦ λ _. refl
    ] there

pub client-with_client_same : (s : Stride) (f : ℕ) (c : Client) → client (with_client s f c) f ≡ c
client-with_client_same s f c = ap (λ o. unwrap_or o new_client) (get-insert_same s.clients f c)

pub client-with_client_other : (s : Stride) (f : ℕ) (c : Client) (g : ℕ) → g ≢ f
    → client (with_client s f c) g ≡ client s g
client-with_client_other s f c g apart = ap (λ o. unwrap_or o new_client) (get-insert_other s.clients f c g apart)

shift-shift_same : (a b : ℕ → Client → Client) (s : Stride) (f : ℕ)
    → shift b (shift a s f) f ≡ shift (λ global_pass c. b global_pass (a global_pass c)) s f
shift-shift_same a b s f =
    let once = shift a s f in
    ap (λ u. with_client u f (b u.pass (client once f))) (update-shift a s f)
    ∙ ap (λ c. with_client once f (b once.pass c)) (client-with_client_same (update s) f _)
    ∙ ap (λ m. record once { clients = m }) (insert-insert_same s.clients f _ _)

shift-shift : (a b : ℕ → Client → Client) (s : Stride) (f g : ℕ) → g ≢ f
    → shift b (shift a s f) g ≡ with_client (shift a s f) g (b (update s).pass (client s g))
shift-shift a b s f g apart =
    let once = shift a s f in
    ap (λ u. with_client u g (b u.pass (client once g))) (update-shift a s f)
    ∙ ap (λ c. with_client once g (b once.pass c)) (client-with_client_other (update s) f _ g apart)

pub moved_is : (s : Stride) (f : ℕ) (move : Move) → after_move s f move ≡ shift (change_of move) s f
moved_is s f (Join tickets) = refl
moved_is s f Leave = refl
moved_is s f (Modify tickets) = shift-shift_same after_leave (λ p c. after_join p c tickets) s f

pub shifts-commute : (a b : ℕ → Client → Client) (s : Stride) (f g : ℕ) → f ≢ g
    → shift b (shift a s f) g ≡ shift a (shift b s g) f
shifts-commute a b s f g apart =
    shift-shift a b s f g (λ e. apart (sym e))
    ∙ ap (λ m. record (update s) { clients = m }) (insert-insert_other s.clients f g _ _ apart)
    ∙ sym (shift-shift b a s g f apart)

pub moves_commute : MovesCommute
moves_commute s f g a b apart =
    moved_is (after_move s f a) g b
    ∙ ap (λ n. shift (change_of b) n g) (moved_is s f a)
    ∙ shifts-commute (change_of a) (change_of b) s f g apart
    ∙ ap (λ n. shift (change_of a) n f) (sym (moved_is s g b))
    ∙ sym (moved_is (after_move s g b) f a)

pub client-moved_same : (s : Stride) (f : ℕ) (move : Move)
    → client (after_move s f move) f ≡ change_of move (update s).pass (client s f)
client-moved_same s f move =
    ap (λ (n : Stride). client n f) (moved_is s f move)
    ∙ client-with_client_same (update s) f (change_of move (update s).pass (client s f))

-- the part of another's client that a move or a charge of one flow leaves
pub get-moved_other : (s : Stride) (f : ℕ) (move : Move) (g : ℕ) → g ≢ f
    → get (after_move s f move).clients g ≡ get s.clients g
get-moved_other s f move g apart =
    ap (λ (n : Stride). get n.clients g) (moved_is s f move)
    ∙ get-insert_other s.clients f (change_of move (update s).pass (client s f)) g apart

pub client-moved_other : (s : Stride) (f : ℕ) (move : Move) (g : ℕ) → g ≢ f → client (after_move s f move) g
    ≡ client s g
client-moved_other s f move g apart = ap (λ o. unwrap_or o new_client) (get-moved_other s f move g apart)

pub client-remove_other : (s : Stride) (f g : ℕ) → g ≢ f → client (remove_flow s f) g ≡ client s g
client-remove_other s f g apart = ap (λ o. unwrap_or o new_client) (get-remove_other s.clients f g apart)

pub client-charge_other : (s : Stride) (f units g : ℕ) → g ≢ f → client (charge s f units) g ≡ client s g
client-charge_other s f units g apart = client-with_client_other s f (after_charge (client s f) units) g apart

pub client-charge_same : (s : Stride) (f units : ℕ) → client (charge s f units) f ≡ after_charge (client s f) units
client-charge_same s f units = client-with_client_same s f (after_charge (client s f) units)
