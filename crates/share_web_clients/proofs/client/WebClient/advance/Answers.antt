use Rattle.std.proofs.Common.{refl, inl, sym}
use Rattle.std.proofs.lemmas.List.{drop-drop}
use Rattle.share_web_clients.proofs.client.WebClient.advance.Goals as goal

pub returns-else-self-len : goal.returns-else-self-len
returns-else-self-len c = rw (← c.self.view_is) (record {
  same = refl;
  sent = (c.args.count, sym (drop-drop c.args.count c.self.inside.sent c.self.inside.answer.items));
  stage = inl refl;
})
