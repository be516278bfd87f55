use Rattle.share_web_clients.specs.Clients.{Sends}
use Rattle.share_web_clients.proofs.client.WebClient.send.Given as goal

abbrev pub invariant-calls : goal.invariant-calls
invariant-calls l = Sends l.initial.self l.self
