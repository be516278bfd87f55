use Rattle.std.proofs.Common.{refl}
use Rattle.share_model.specs.link.Frame.{header, frame}
use Rattle.share_frame.proofs.writing.header.Goals as goal

pub returns-clause-bytes : goal.returns-clause-bytes
unfolding header
returns-clause-bytes c = λ tariff.
    rw (c.to_be_bytes.ensures, c.to_be_bytes-2.ensures, c.to_be_bytes-3.ensures, c.number.ensures) refl

pub returns-clause-frame : goal.returns-clause-frame
unfolding header frame
returns-clause-frame c = λ tariff payload same.
    rw (c.to_be_bytes.ensures, c.to_be_bytes-2.ensures, c.to_be_bytes-3.ensures, c.number.ensures, same) refl
