-- The outcome of a connection.
use Rattle.std.specs.Prelude.{◌≡◌, ◌≢◌, ◌⊎◌, ℕ, Bool, true, false, List, [], ◌++◌, Option, None, Some, Result, Ok, Err}
use Rattle.std.specs.declared.net.SocketAddr.{SocketAddr}
use Rattle.share_base.specs.declared.version.Version.TheVariants.{Two}
use Rattle.share_frame.specs.Reading.{IsFirstBad}
use Rattle.share_model.specs.run.History.{IsBeginning}
use Rattle.share_downlink.specs.Given.{IncomingView, Passes}
use Rattle.share_downlink.specs.Steps.{GivesOne}
use Rattle.share_downlink.specs.declared.connection.ClosedConnection.{ClosedConnection}
use Rattle.share_downlink.specs.declared.connection.ClosedWhy.{ClosedWhy}
use Rattle.share_downlink.specs.declared.connection.ClosedWhy.TheVariants.{
  Ended,
  CutShort,
  Failed,
  BadFrame,
  Replaced,
  Crowded,
}
use Rattle.share_downlink.specs.declared.connection.Connection.{Connection}
use Rattle.share_downlink.specs.declared.connection.First.{First}
use Rattle.share_downlink.specs.declared.connection.First.TheVariants.{Given, Waits, More}
use Rattle.share_downlink.specs.declared.counts.Counts.{Counts}

-- a connection is over for this reason, unless there was one before
abbrev pub ended : ClosedWhy → Option ClosedWhy → Option ClosedWhy
ended why None = Some why
ended why (Some before) = Some before

-- the report on a connection, if it is over
abbrev pub closed_of : ℕ → SocketAddr → Option ClosedWhy → Option ClosedConnection
closed_of token from None = None
closed_of token from (Some why) = Some (record { token = token; from = from; why = why })

-- bytes of the stream came
pub record ComesMore (old new : IncomingView) : Type 0 where
  pub came : List ℕ
  pub bytes : new.bytes ≡ old.bytes ++ came
  pub offset : new.offset ≡ old.offset

-- the stream ended after a whole frame, or within one
abbrev pub IsEndOf : ClosedWhy → IncomingView → Type 0
IsEndOf Ended i = i.bytes ≡ []
IsEndOf CutShort i = i.bytes ≢ []
IsEndOf (Failed kind) i = ⊥
IsEndOf (BadFrame offset field) i = ⊥
IsEndOf Replaced i = ⊥
IsEndOf Crowded i = ⊥

-- why nothing more comes of a stream that was read
abbrev pub EndsRead : ClosedWhy → IncomingView → Type 0
EndsRead Ended i = i.bytes ≡ []
EndsRead CutShort i = i.bytes ≢ []
EndsRead (Failed kind) i = Unit {0}
EndsRead (BadFrame offset field) i = ⊥
EndsRead Replaced i = ⊥
EndsRead Crowded i = ⊥

-- the outcome of a read: bytes, or none and why
abbrev pub Reads : IncomingView → Result Bool ClosedWhy → IncomingView → Type 0
Reads old (Ok more) new = ComesMore old new
Reads old (Err why) new = (new ≡ old) × EndsRead why old

-- bytes of the stream came, and the packets of frames in front were given
abbrev pub PiecesGive : {T : Type 0} → (T → ℕ → List ℕ → Bool → T → Type 0) → T → Counts → IncomingView
    → T → Counts → IncomingView → Type 0
PiecesGive delivers before c old after d new = Passes delivers before c old after d new

-- why nothing more comes: the stream ended; or the bytes that are left begin with no frame, at their place of the
-- stream
abbrev pub EndsPieces : ClosedWhy → IncomingView → Type 0
EndsPieces Ended i = i.bytes ≡ []
EndsPieces CutShort i = (i.bytes ≢ []) × IsBeginning Two i.bytes
EndsPieces (Failed kind) i = IsBeginning Two i.bytes
EndsPieces (BadFrame offset field) i = (offset ≡ i.offset) × IsFirstBad Two field i.bytes
EndsPieces Replaced i = ⊥
EndsPieces Crowded i = ⊥

abbrev pub EndsFirst : ClosedWhy → IncomingView → Type 0
EndsFirst why i = EndsPieces why i

-- its socket has no more bytes, or it is over for a reason that its bytes show
abbrev pub EndsOrWaits : Option ClosedWhy → Connection → Type 0
EndsOrWaits old c =
    ((c.over ≡ old) × (c.is_readable ≡ false))
    ⊎ ((why : ClosedWhy) × (c.over ≡ ended why old) × EndsPieces why c.incoming)

-- more may be at hand if its socket may have bytes and it is not over
abbrev pub MayEnd : Bool → Option ClosedWhy → Connection → Type 0
MayEnd true old c = (c.over ≡ old) × (c.is_readable ≡ true)
MayEnd false old c = EndsOrWaits old c

-- whether its socket may have bytes, if its first frame is not whole
abbrev pub IsReadyAfter : First → Bool → Type 0
IsReadyAfter Given is_readable = Unit {0}
IsReadyAfter Waits is_readable = is_readable ≡ false
IsReadyAfter More is_readable = is_readable ≡ true

-- the same while it waits for its first frame
abbrev pub FirstMayEnd : First → Option ClosedWhy → Connection → Type 0
FirstMayEnd Given old c = c.over ≡ old
FirstMayEnd More old c = (c.over ≡ old) × (c.is_readable ≡ true)
FirstMayEnd Waits old c = EndsOrWaits old c

-- bytes of the stream came, and the packet of the frame in front of all that were there was given
pub record FirstOne {T : Type 0} (delivers : T → ℕ → List ℕ → Bool → T → Type 0) (before : T) (c : Counts)
    (old : IncomingView) (after : T) (d : Counts) (new : IncomingView) : Type 0 where
  pub buffered : IncomingView
  pub comes : ComesMore old buffered
  pub flow : ℕ
  pub seq : ℕ
  pub tariff : ℕ
  pub gives : GivesOne delivers before c buffered flow seq tariff after d new

-- bytes of the stream came, and nothing was given
pub record FirstNone {T : Type 0} (before : T) (c : Counts) (old : IncomingView) (after : T) (d : Counts)
    (new : IncomingView) : Type 0 where
  pub taker : after ≡ before
  pub counts : d ≡ c
  pub comes : ComesMore old new

-- the first frame was given if it is whole, and otherwise nothing
abbrev pub FirstGives : {T : Type 0} → (T → ℕ → List ℕ → Bool → T → Type 0) → T → Counts → IncomingView → First
    → T → Counts → IncomingView → Type 0
FirstGives delivers before c old Given after d new = FirstOne delivers before c old after d new
FirstGives delivers before c old Waits after d new = FirstNone before c old after d new
FirstGives delivers before c old More after d new = FirstNone before c old after d new
