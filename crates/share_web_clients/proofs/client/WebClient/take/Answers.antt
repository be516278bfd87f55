use Rattle.std.proofs.Common.{◌≡◌, ◌∙◌, true, false, take, refl, sym, inl, inr}
use Rattle.share_web.specs.Heads.{is_over}
use Rattle.share_web_clients.specs.Clients.{is_open}
use Rattle.share_web_clients.proofs.ClientLemmas.{reads_nothing}
use Rattle.share_web_clients.proofs.client.WebClient.take.Goals as goal

pub returns-then-not-is_open : goal.returns-then-not-is_open
returns-then-not-is_open c = reads_nothing c.args.self.now

pub returns-in-Err : goal.returns-in-Err
returns-in-Err c = rw (← c.self.view_is) (record {
  same = refl;
  head = (take c.in-Err.ensures.front.0 c.args.piece.now, c.in-Err.ensures.front.1);
  stage = inr (inl refl);
  waits = λ no. let over : false ≡ true = no in absurd (cc);
})

pub returns-then-is_over : goal.returns-then-is_over
returns-then-is_over c =
    let is : is_open c.self.inside.stage ≡ true = sym c.is_open.ensures ∙ c.if-not-is_open.false in
    let over : is_over c.take.new.self ≡ true = sym c.is_over.ensures ∙ c.if-is_over.true in
    rw (← c.self.view_is) (record {
      same = refl;
      head = (c.args.piece.now, c.in-Ok.ensures.ok);
      stage = inr (inr (is, refl, over));
      waits = λ no. let asked : false ≡ true = no in absurd (cc);
    })

pub returns-else-is_over : goal.returns-else-is_over
returns-else-is_over c =
    let waits : is_over c.take.new.self ≡ false = sym c.is_over.ensures ∙ c.if-is_over.false in
    rw (← c.self.view_is) (record {
      same = refl;
      head = (c.args.piece.now, c.in-Ok.ensures.ok);
      stage = inl refl;
      waits = λ _ _. waits;
    })
