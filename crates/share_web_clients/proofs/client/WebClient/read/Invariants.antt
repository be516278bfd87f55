use Rattle.share_web_clients.specs.Clients.{Reads}
use Rattle.share_web_clients.proofs.client.WebClient.read.Given as goal

abbrev pub invariant-calls : goal.invariant-calls
invariant-calls l = Reads l.initial.self l.self
