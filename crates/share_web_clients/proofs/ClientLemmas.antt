-- Bytes that come and go call by call.
use Rattle.std.proofs.Common.{◌≡◌, ◌+◌, ◌⊎◌, ℕ, List, [], ◌++◌, true, false, drop, refl, sym, ap, ◌∙◌, inl, inr}
use Rattle.std.proofs.Common.{arith}
use Rattle.std.proofs.lemmas.List.{drop-drop, drop_all}
use Rattle.share_web.proofs.HeadLemmas.{taken-append, taken-nothing, taken-over}
use Rattle.share_web.specs.Heads.{is_over, taken}
use Rattle.share_web_clients.specs.Clients.{Asks, ClientView, Closes, Reads, Sends, is_answering, is_open}
use Rattle.share_web_clients.specs.declared.client.Stage.TheVariants.{Over}

-- ---- Bytes that come

-- no byte comes
pub reads_no_byte : (c d : ClientView) → d ≡ record c { stage = d.stage; reads = d.reads }
    → (d.stage ≡ c.stage) ⊎ (d.stage ≡ Over) → Reads c d
reads_no_byte c d same stage =
    let head : d.head ≡ c.head = ap (λ (v : ClientView). v.head) same in
    record {
      same = same ∙ ap (λ (h : List ℕ). record c { stage = d.stage; head = h; reads = d.reads }) (sym head);
      head = ([], head ∙ sym (taken-nothing c.head));
      stage = ends stage;
      waits = λ _ fresh. ap is_over head ∙ fresh;
    }
  where
    ends : (d.stage ≡ c.stage) ⊎ (d.stage ≡ Over) → (d.stage ≡ c.stage) ⊎ ((d.stage ≡ Over) ⊎ Asks c d)
    ends (inl e) = inl e
    ends (inr e) = inr (inl e)

pub reads_nothing : (c : ClientView) → Reads c c
reads_nothing c = reads_no_byte c c refl (inl refl)

stage_more : (a b c : ClientView) → Reads b c → (b.stage ≡ a.stage) ⊎ ((b.stage ≡ Over) ⊎ Asks a b)
    → (c.stage ≡ b.stage) ⊎ ((c.stage ≡ Over) ⊎ Asks b c)
    → (c.stage ≡ a.stage) ⊎ ((c.stage ≡ Over) ⊎ Asks a c)
stage_more a b c q (inl e) (inl f) = inl (f ∙ e)
stage_more a b c q (inl e) (inr (inl f)) = inr (inl f)
stage_more a b c q (inl e) (inr (inr f)) = inr (inr (ap is_open (sym e) ∙ f.0, f.1, f.2))
stage_more a b c q (inr (inl e)) (inl f) = inr (inl (f ∙ e))
stage_more a b c q (inr (inl e)) (inr (inl f)) = inr (inl f)
stage_more a b c q (inr (inl e)) (inr (inr f)) =
    let no : false ≡ true = ap is_open (sym e) ∙ f.0 in absurd (cc)
stage_more a b c q (inr (inr e)) (inl f) =
    inr (inr (e.0, f ∙ e.1, ap is_over (q.head.1 ∙ taken-over b.head q.head.0 e.2) ∙ e.2))
stage_more a b c q (inr (inr e)) (inr (inl f)) = inr (inl f)
stage_more a b c q (inr (inr e)) (inr (inr f)) =
    let no : false ≡ true = ap is_open (sym e.1) ∙ f.0 in absurd (cc)

-- a head that is still open was open before
was_open : (b c : ClientView) → (c.stage ≡ b.stage) ⊎ ((c.stage ≡ Over) ⊎ Asks b c) → is_open c.stage ≡ true
    → is_open b.stage ≡ true
was_open b c (inl e) is = ap is_open (sym e) ∙ is
was_open b c (inr (inl e)) is = let no : false ≡ true = ap is_open (sym e) ∙ is in absurd (cc)
was_open b c (inr (inr e)) is = e.0

-- one call after others
pub reads_more : (a b c : ClientView) → Reads a b → Reads b c → Reads a c
reads_more a b c p q = record {
  same = q.same ∙ ap (λ (v : ClientView). record v { stage = c.stage; head = c.head; reads = c.reads }) p.same;
  head = (
    p.head.0 ++ q.head.0,
    q.head.1 ∙ ap (λ (h : List ℕ). taken h q.head.0) p.head.1 ∙ taken-append a.head p.head.0 q.head.0,
  );
  stage = stage_more a b c q p.stage q.stage;
  waits = λ is fresh. q.waits is (p.waits (was_open b c q.stage is) fresh);
}

-- ---- Bytes that go

sends_stage : (a b c : ClientView) → Sends b c → (b.stage ≡ a.stage) ⊎ ((b.stage ≡ Over) ⊎ Closes a b)
    → (c.stage ≡ b.stage) ⊎ ((c.stage ≡ Over) ⊎ Closes b c)
    → (c.stage ≡ a.stage) ⊎ ((c.stage ≡ Over) ⊎ Closes a c)
sends_stage a b c q (inl e) (inl f) = inl (f ∙ e)
sends_stage a b c q (inl e) (inr (inl f)) = inr (inl f)
sends_stage a b c q (inl e) (inr (inr f)) = inr (inr (ap is_answering (sym e) ∙ f.0, f.1, f.2))
sends_stage a b c q (inr (inl e)) (inl f) = inr (inl (f ∙ e))
sends_stage a b c q (inr (inl e)) (inr (inl f)) = inr (inl f)
sends_stage a b c q (inr (inl e)) (inr (inr f)) =
    let no : false ≡ true = ap is_answering (sym e) ∙ f.0 in absurd (cc)
sends_stage a b c q (inr (inr e)) (inl f) =
    inr (inr (e.0, f ∙ e.1, q.sent.1 ∙ ap (drop q.sent.0) e.2 ∙ drop_all q.sent.0 [] (omega arith)))
sends_stage a b c q (inr (inr e)) (inr (inl f)) = inr (inl f)
sends_stage a b c q (inr (inr e)) (inr (inr f)) =
    let no : false ≡ true = ap is_answering (sym e.1) ∙ f.0 in absurd (cc)

pub sends_more : (a b c : ClientView) → Sends a b → Sends b c → Sends a c
sends_more a b c p q = record {
  same = q.same ∙ ap (λ (v : ClientView). record v { stage = c.stage; answer = c.answer; writes = c.writes }) p.same;
  sent = (
    p.sent.0 + q.sent.0,
    q.sent.1 ∙ ap (drop q.sent.0) p.sent.1 ∙ drop-drop q.sent.0 p.sent.0 a.answer,
  );
  stage = sends_stage a b c q p.stage q.stage;
}
