use Rattle.std.proofs.Common.{ℕ}
use Rattle.share_base.specs.declared.version.Version.TheVariants.{One}
use Rattle.share_frame.specs.declared.reading.FrameRead.TheVariants.{Frame, More, Bad}
use Rattle.share_frame.specs.Reading.{BeginsWithFrame}
use Rattle.share_frame.proofs.UniqueAnswerLemmas.{read-exact, any_tariff}
use Rattle.share_frame.proofs.reading.read_frame.Goals as goal

-- the frame is one under any tariff
whole : (c : goal.In-Frame) (tariff : ℕ)
    → BeginsWithFrame One c.in-Frame.flow c.in-Frame.seq tariff c.in-Frame.len c.args.bytes.now
whole c tariff = any_tariff _ _ _ _ tariff _ c.in-Frame.ensures

pub returns-in-Frame-clause-frame : goal.returns-in-Frame-clause-frame
returns-in-Frame-clause-frame c = λ flow seq tariff len.
    read-exact c.args.bytes.now tariff (Frame c.in-Frame.flow c.in-Frame.seq c.in-Frame.len) (Frame flow seq len)
    (whole c tariff)

pub returns-in-Frame-clause-more : goal.returns-in-Frame-clause-more
returns-in-Frame-clause-more c =
    read-exact c.args.bytes.now 0 (Frame c.in-Frame.flow c.in-Frame.seq c.in-Frame.len) More (whole c 0)

pub returns-in-Frame-clause-bad : goal.returns-in-Frame-clause-bad
returns-in-Frame-clause-bad c = λ place.
    read-exact c.args.bytes.now 0 (Frame c.in-Frame.flow c.in-Frame.seq c.in-Frame.len) (Bad place) (whole c 0)

pub returns-in-More-clause-frame : goal.returns-in-More-clause-frame
returns-in-More-clause-frame c = λ flow seq tariff len.
    read-exact c.args.bytes.now tariff More (Frame flow seq len) c.in-More.ensures

pub returns-in-Bad-clause-frame : goal.returns-in-Bad-clause-frame
returns-in-Bad-clause-frame c = λ flow seq tariff len.
    read-exact c.args.bytes.now tariff (Bad c.in-Bad.place) (Frame flow seq len) c.in-Bad.ensures

pub returns-in-Bad-clause-more : goal.returns-in-Bad-clause-more
returns-in-Bad-clause-more c = read-exact c.args.bytes.now 0 (Bad c.in-Bad.place) More c.in-Bad.ensures

pub returns-in-Bad-clause-bad : goal.returns-in-Bad-clause-bad
returns-in-Bad-clause-bad c = λ place.
    read-exact c.args.bytes.now 0 (Bad c.in-Bad.place) (Bad place) c.in-Bad.ensures
