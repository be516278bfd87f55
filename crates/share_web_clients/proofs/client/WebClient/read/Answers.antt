use Rattle.share_web_clients.proofs.ClientLemmas.{reads_more, reads_nothing}
use Rattle.share_web_clients.proofs.client.WebClient.read.Goals as goal

pub calls-init : goal.calls-init
calls-init c = reads_nothing c.args.self.now

pub calls-preserved : goal.calls-preserved
calls-preserved c = reads_more c.args.self.now c.calls.self c.read_piece.new.self c.calls.invariant c.read_piece.ensures
