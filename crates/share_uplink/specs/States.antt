-- The states of an uplink.
use Rattle.std.specs.Prelude.{ℕ, Bool, true, false}
use Rattle.std.specs.Time.{instant_nanos}
use Rattle.share_uplink.specs.declared.state.State.{State}
use Rattle.share_uplink.specs.declared.state.State.TheVariants.{Away, Dialling as DialBegan, Up as IsUp}
use Rattle.share_uplink.specs.declared.state.UplinkState.{UplinkState}
use Rattle.share_uplink.specs.declared.state.UplinkState.TheVariants.{Up, Dialling}

-- whether it is connected
abbrev pub state_of : State → UplinkState
state_of (Away at) = Dialling
state_of (DialBegan socket since) = Dialling
state_of (IsUp socket since) = Up

-- whether a dial began
abbrev pub dials_of : State → Bool
dials_of (Away at) = false
dials_of (DialBegan socket since) = true
dials_of (IsUp socket since) = false

-- the moment at which it is dialled, at which the dial began, or since which it is connected
abbrev pub since_of : State → ℕ
since_of (Away at) = instant_nanos at
since_of (DialBegan socket since) = instant_nanos since
since_of (IsUp socket since) = instant_nanos since
