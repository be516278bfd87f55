use Rattle.std.proofs.Common.{refl}
use Rattle.share_model.specs.link.Frame.{header, frame}
use Rattle.share_frame.proofs.writing.header2.Goals as goal

pub returns-clause-bytes : goal.returns-clause-bytes
unfolding header
returns-clause-bytes c =
    rw (c.to_be_bytes.ensures, c.to_be_bytes-2.ensures, c.to_be_bytes-3.ensures, c.number.ensures) refl

pub returns-clause-frame : goal.returns-clause-frame
unfolding header frame
returns-clause-frame c = λ payload same.
    rw (c.to_be_bytes.ensures, c.to_be_bytes-2.ensures, c.to_be_bytes-3.ensures, c.number.ensures, same) refl
