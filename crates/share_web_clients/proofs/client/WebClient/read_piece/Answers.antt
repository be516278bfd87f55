use Rattle.std.proofs.Common.{refl, inl, inr}
use Rattle.share_web_clients.proofs.ClientLemmas.{reads_no_byte, reads_nothing}
use Rattle.share_web_clients.proofs.client.WebClient.read_piece.Goals as goal

pub returns-in-Again : goal.returns-in-Again
returns-in-Again c = reads_nothing c.args.self.now

pub returns-in-Waits : goal.returns-in-Waits
returns-in-Waits c = rw (← c.self.view_is) (reads_no_byte _ _ refl (inl refl))

pub returns-in-Over : goal.returns-in-Over
returns-in-Over c = rw (← c.self.view_is) (reads_no_byte _ _ refl (inr refl))
