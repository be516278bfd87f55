use Rattle.share_doors.proofs.FillLemmas.{drops_none}
use Rattle.share_doors.proofs.door.Door.remove_port.Goals as goal

pub returns-in_err-port : goal.returns-in_err-port
returns-in_err-port c = drops_none _ _ c.self.view_is
