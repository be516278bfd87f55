-- The number of lines printed.
use Rattle.std.specs.Prelude.{ℕ, Bool, true, false, not, ◌&&◌, List, replicate, slice_set, if◌then◌else◌}
use Rattle.std.specs.List.{slice_index_or}
use Rattle.share_timing.specs.Limiter.{LimiterView, new_limiter, after_second, printing_of, after_message}
use Rattle.share_timing.specs.declared.limiter.Printing.{Printing}
use Rattle.share_timing.specs.declared.limiter.Printing.TheVariants.{Print, LeaveOut}
use Rattle.share_messages.specs.Kinds.{index_of, is_limited_kind, is_quiet_kind}
use Rattle.share_messages.specs.declared.kind.Kind.{Kind}
use Rattle.share_messages.specs.declared.messages.Decision.{Decision}

-- whether the gateway is quiet, and for each kind what was printed of it
pub record MessagesView : Type 0 where
  pub is_quiet : Bool
  pub limiters : List LimiterView

abbrev pub new_messages : Bool → MessagesView
new_messages is_quiet = record { is_quiet = is_quiet; limiters = replicate 18 new_limiter }

abbrev pub limiter_of : Kind → MessagesView → LimiterView
limiter_of kind m = slice_index_or m.limiters (index_of kind) new_limiter

abbrev pub with_limiter : Kind → LimiterView → MessagesView → MessagesView
with_limiter kind l m = record m { limiters = slice_set m.limiters (index_of kind) l }

-- a quiet gateway prints no line of this kind
abbrev pub is_silent : Kind → MessagesView → Bool
is_silent kind m = m.is_quiet && not (is_quiet_kind kind)

abbrev pub prints : Printing → Bool
prints Print = true
prints LeaveOut = false

abbrev pub limited : ℕ × LimiterView → Decision
limited began = record { left_out = began.0; is_printed = prints (printing_of began.1) }

-- the number of lines left out before this one, and whether it is printed
abbrev pub decision_of : Kind → ℕ → MessagesView → Decision
decision_of kind second m =
    if is_silent kind m then record { left_out = 0; is_printed = false }
    else (if is_limited_kind kind then limited (after_second second (limiter_of kind m))
    else record { left_out = 0; is_printed = true })

abbrev pub after_line : Kind → ℕ → MessagesView → MessagesView
after_line kind second m =
    if is_limited_kind kind && not (is_silent kind m)
    then with_limiter kind (after_message (after_second second (limiter_of kind m)).1) m
    else m

-- each line of the kind that was left out is reported, and another second begins
abbrev pub after_report : Kind → ℕ → MessagesView → MessagesView
after_report kind second m = with_limiter kind (record { second = second; printed = 0; left_out = 0 }) m
