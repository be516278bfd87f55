-- The treatment of the frame in front of a connection's bytes.
use Rattle.std.specs.Prelude.{◌≡◌, ℕ, ◌+◌, Bool, List}
use Rattle.share_base.specs.declared.version.Version.TheVariants.{Two}
use Rattle.share_frame.specs.Reading.{IsFirstBad}
use Rattle.share_gateway.specs.Frames.{GivesFrame}
use Rattle.share_gateway.specs.declared.frames.FrameCut.{FrameCut}
use Rattle.share_gateway.specs.declared.frames.FrameCut.TheVariants.{Frame, More, Bad}
use Rattle.share_model.specs.run.History.{IsBeginning}
use Rattle.share_downlink.specs.Given.{IncomingView, capped, counted, frame_size}
use Rattle.share_downlink.specs.declared.counts.Counts.{Counts}

-- the packet of the frame in front was given, and counted by the answer
pub record GivesOne {T : Type 0} (delivers : T → ℕ → List ℕ → Bool → T → Type 0) (before : T) (c : Counts)
    (old : IncomingView) (flow seq tariff : ℕ) (after : T) (d : Counts) (new : IncomingView) : Type 0 where
  pub gives : GivesFrame old.bytes tariff (record { flow = flow; seq = seq; payload = new.payload }) new.bytes
  pub is_known : Bool
  pub delivered : delivers before flow new.payload is_known after
  pub counts : d ≡ counted is_known (frame_size new.payload) c
  pub offset : new.offset ≡ capped (old.offset + frame_size new.payload)

-- nothing was given
pub record Stays {T : Type 0} (before : T) (c : Counts) (old : IncomingView) (after : T) (d : Counts)
    (new : IncomingView) : Type 0 where
  pub taker : after ≡ before
  pub counts : d ≡ c
  pub bytes : new ≡ old

abbrev pub StepGives : {T : Type 0} → (T → ℕ → List ℕ → Bool → T → Type 0) → T → Counts → IncomingView → FrameCut
    → T → Counts → IncomingView → Type 0
StepGives delivers before c old (Frame flow seq tariff) after d new =
    GivesOne delivers before c old flow seq tariff after d new
StepGives delivers before c old More after d new = Stays before c old after d new × IsBeginning Two new.bytes
StepGives delivers before c old (Bad place) after d new =
    Stays before c old after d new × IsFirstBad Two place new.bytes
