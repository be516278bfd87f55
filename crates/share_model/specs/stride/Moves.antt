-- The dynamic stride queue. Each client has a stride, 2^40 divided by its tickets, and a pass. A charge of u units adds
-- stride * u / 1024 to the pass. The competing client with the least pass comes next. The global pass is that of a
-- client with all tickets of those that compete. A client that ceases to compete keeps its remain, the distance by
-- which its pass was ahead of the global pass. It begins there when it returns. All divisions round down.
use Rattle.std.specs.Prelude.{◌≡◌, ◌≢◌, ℕ, zero, suc, ◌+◌, ◌-◌, ◌*◌, ◌/◌, ◌^◌, ◌<◌, ℤ, pos, ◌+ℤ◌, ◌-ℤ◌, ◌*ℤ◌, ◌<ℤ◌}
use Rattle.std.specs.Prelude.{int_lt, Bool, true, false, List, [], ◌∷◌, sum_by, nat_le, Option, None, Some, option_map}
use Rattle.std.specs.Prelude.{unwrap_or, IsTrue, ◌⊎◌, if◌then◌else◌, refl}
use Rattle.std.specs.Int.{int_div_euclid}
use Rattle.std.specs.Ordering.{nat_cmp}
use Rattle.std.specs.FinMap as map
use Rattle.std.specs.FinMap.{FinMap, get, insert, entries}
use Rattle.std.specs.Coded.{Coded, code_by, coded×, coded_ℕ, coded_ℤ, coded_bool}
use Rattle.share_base.specs.declared.refusal.Refusal.{Refusal}
use Rattle.share_base.specs.declared.refusal.Refusal.TheVariants.{TableFull}
use Rattle.share_base.specs.Refusal.{first_refusal}
use Rattle.share_model.specs.declared.stride.Client.{Client}
use Rattle.share_model.specs.declared.stride.Position.{Position}
use Rattle.share_model.specs.declared.stride.GlobalPart.{GlobalPart}

-- the clients by their flow numbers; the global pass and the clock at the last update; and the clock: all units that
-- were charged
pub record Stride : Type 0 where
  pub clients : FinMap nat_cmp Client
  pub pass : ℕ
  pub last : ℕ
  pub clock : ℕ

abbrev pub coded_client : Coded Client
coded_client =
    code_by
    (ℕ × (ℕ × (ℤ × (ℤ × Bool))))
    (coded× coded_ℕ (coded× coded_ℕ (coded× coded_ℤ (coded× coded_ℤ coded_bool))))
    (λ c. (c.tickets, (c.stride, (c.remain, (c.pass, c.competes)))))
    (λ p. record { tickets = p.0; stride = p.1.0; remain = p.1.1.0; pass = p.1.1.1.0; competes = p.1.1.1.1 })
    (λ _. refl)

abbrev pub coded_stride : Coded Stride
coded_stride =
    code_by
    (FinMap nat_cmp Client × (ℕ × (ℕ × ℕ)))
    (coded× (map.code coded_ℕ coded_client) (coded× coded_ℕ (coded× coded_ℕ coded_ℕ)))
    (λ s. (s.clients, (s.pass, (s.last, s.clock))))
    (λ p. record { clients = p.0; pass = p.1.0; last = p.1.1.0; clock = p.1.1.1 })
    (λ _. refl)

-- no client yet
abbrev pub empty_queue : Stride
empty_queue = record { clients = map.empty; pass = 0; last = 0; clock = 0 }

-- ---- Tickets, strides and the global pass

-- rounded down, even below zero
abbrev pub floor_div : ℤ → ℕ → ℤ
floor_div z d = int_div_euclid z (pos d)

-- 0 if there are no tickets
abbrev pub stride_of : ℕ → ℕ
stride_of tickets = 2 ^ 40 / tickets

abbrev pub competing_tickets : ℕ × Client → ℕ
competing_tickets e = if e.1.competes then e.1.tickets else 0

-- the tickets of the clients that compete
unfoldable pub total : FinMap nat_cmp Client → ℕ
total clients = sum_by competing_tickets (entries clients)

abbrev pub global_stride : Stride → ℕ
global_stride s = stride_of (total s.clients)

-- the global pass moves on by what was charged since the last update
abbrev pub update : Stride → Stride
update s = record s { pass = s.pass + global_stride s * (s.clock - s.last) / 1024; last = s.clock }

-- ---- One client

-- a client that never competed
abbrev pub new_client : Client
new_client = record { tickets = 0; stride = 0; remain = pos 0; pass = pos 0; competes = false }

abbrev pub client : Stride → ℕ → Client
client s f = unwrap_or (get s.clients f) new_client

-- the remain on a new stride. The first remain is the stride itself
abbrev pub remain_on : ℕ → ℕ → ℤ → ℤ
remain_on new_stride zero remain = pos new_stride
remain_on new_stride (suc n) remain = floor_div (remain *ℤ pos new_stride) (suc n)

abbrev pub after_join : ℕ → Client → ℕ → Client
after_join global_pass c tickets =
    let remain = remain_on (stride_of tickets) c.stride c.remain in
    record {
      tickets = tickets;
      stride = stride_of tickets;
      remain = remain;
      pass = pos global_pass +ℤ remain;
      competes = true;
    }

-- tickets and stride stay
abbrev pub after_leave : ℕ → Client → Client
after_leave global_pass c = record c { remain = c.pass -ℤ pos global_pass; competes = false }

-- the share is added to the pass of a client that competes, and to the remain of one that does not
abbrev pub after_charge : Client → ℕ → Client
after_charge c units =
    let share = pos (c.stride * units / 1024) in
    if c.competes then record c { pass = c.pass +ℤ share } else record c { remain = c.remain +ℤ share }

-- ---- The moves

abbrev pub with_client : Stride → ℕ → Client → Stride
with_client s f c = record s { clients = insert s.clients f c }

-- there are at most 64 clients
abbrev pub add_refusal : Stride → Option Refusal
add_refusal s = first_refusal ((nat_le 64 (map.len s.clients), TableFull) ∷ [])

abbrev pub add : Stride → ℕ → Stride
add s f = with_client s f new_client

abbrev pub join : Stride → ℕ → ℕ → Stride
join s f tickets = let now = update s in with_client now f (after_join now.pass (client s f) tickets)

abbrev pub leave : Stride → ℕ → Stride
leave s f = let now = update s in with_client now f (after_leave now.pass (client s f))

abbrev pub modify : Stride → ℕ → ℕ → Stride
modify s f tickets = join (leave s f) f tickets

abbrev pub charge : Stride → ℕ → ℕ → Stride
charge s f units = record s { clients = insert s.clients f (after_charge (client s f) units); clock = s.clock + units }

abbrev pub remove : Stride → ℕ → Stride
remove s f = record s { clients = map.remove s.clients f }

-- a move in which no time passes
pub data Move : Type 0 where
  Join : ℕ → Move
  Leave : Move
  Modify : ℕ → Move

abbrev pub after_move : Stride → ℕ → Move → Stride
after_move s f (Join tickets) = join s f tickets
after_move s f Leave = leave s f
after_move s f (Modify tickets) = modify s f tickets

-- the moves of two flows give one state in either order
abbrev pub MovesCommute : Type 0
MovesCommute = (s : Stride) (f g : ℕ) (a b : Move) → f ≢ g → after_move (after_move s f a) g b
    ≡ after_move (after_move s g b) f a

-- ---- The readings

abbrev pub position : Client → Position
position c =
    record {
      competing = c.competes;
      tickets = c.tickets;
      stride = c.stride;
      place = if c.competes then c.pass else c.remain;
    }

abbrev pub global_part : Stride → GlobalPart
global_part s = record { tickets = total s.clients; pass = s.pass; last = s.last; clock = s.clock }

-- ---- The next flow

-- the lesser pass comes first, and of equal passes the lesser flow number
abbrev pub Precedes : ℤ → ℕ → ℤ → ℕ → Type 0
Precedes p f q g = (p <ℤ q) ⊎ ((p ≡ q) × (f < g))

pub record Competes (clients : FinMap nat_cmp Client) (f : ℕ) (c : Client) : Type 0 where
  pub found : get clients f ≡ Some c
  pub competing : IsTrue c.competes

-- f competes, and precedes each other flow that competes
pub record IsNextFlow (clients : FinMap nat_cmp Client) (f : ℕ) : Type 0 where
  pub chosen : Client
  pub competes : Competes clients f chosen
  pub least : (g : ℕ) (d : Client) → Competes clients g d → g ≢ f → Precedes chosen.pass f d.pass g

-- no flow is next if and only if none competes
abbrev pub IsNext : FinMap nat_cmp Client → Option ℕ → Type 0
IsNext clients None = (g : ℕ) (d : Client) → Competes clients g d → ⊥
IsNext clients (Some f) = IsNextFlow clients f

-- no list of clients has two next flows
abbrev pub NextIsUnique : Type 0
NextIsUnique = (clients : FinMap nat_cmp Client) (a b : Option ℕ) → IsNext clients a → IsNext clients b → a ≡ b

-- e, or the choice among the entries after it if that has a lesser pass
abbrev pub earlier : ℕ × Client → Option (ℕ × Client) → ℕ × Client
earlier e None = e
earlier e (Some later) = if int_lt later.1.pass e.1.pass then later else e

abbrev pub first_competing : List (ℕ × Client) → Option (ℕ × Client)
first_competing [] = None
first_competing (e ∷ es) = if e.1.competes then Some (earlier e (first_competing es)) else first_competing es

-- the entries are in the order of flow numbers
unfoldable pub next : FinMap nat_cmp Client → Option ℕ
next clients = option_map (λ e. e.0) (first_competing (entries clients))
