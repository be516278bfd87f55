use Rattle.std.proofs.Common.{◌≡◌, ℕ, refl, ◌∙◌, ap, subst}
use Rattle.share_model.specs.funding.Graph.{NameBytes}
use Rattle.share_book.specs.Audited.{Audited}
use Rattle.share_doors.specs.Door.{DoorView, counted}
use Rattle.share_doors.specs.Takes.{TakesBytes}
use Rattle.share_doors.proofs.FillLemmas.{fills_nothing, fills_one}
use Rattle.share_doors.proofs.door.Door.serve_sender.Goals as goal

of_tenant : (name other : NameBytes) (n : ℕ) (a b : Audited) → name ≡ other → TakesBytes name n a b
    → TakesBytes other n a b
of_tenant name other n a b same one = subst (λ (x : NameBytes). TakesBytes x n a b) same one

pub returns-in_default-clause-counted : goal.returns-in_default-clause-counted
returns-in_default-clause-counted g c = fills_nothing _ _ _ _ c.self.view_is refl

pub returns-then-is_over-clause-counted : goal.returns-then-is_over-clause-counted
returns-then-is_over-clause-counted g c = fills_nothing _ _ _ _ c.self.view_is refl

pub returns-in-Packet-clause-counted : goal.returns-in-Packet-clause-counted
returns-in-Packet-clause-counted g c =
    fills_one _ _ c.in-Packet.bytes _ _
    (c.count.ensures ∙ ap (λ (d : DoorView). counted c.in-Packet.bytes d) c.self.view_is)
    (of_tenant _ _ _ _ _ (ap (λ (d : DoorView). d.tenant) c.self.view_is) c.in-Packet.ensures.book)

pub returns-in-More-clause-counted : goal.returns-in-More-clause-counted
returns-in-More-clause-counted g c = fills_nothing _ _ _ _ c.self.view_is c.in-More.ensures.book

pub returns-in-Nothing-clause-counted : goal.returns-in-Nothing-clause-counted
returns-in-Nothing-clause-counted g c = fills_nothing _ _ _ _ c.self.view_is c.in-Nothing.ensures.book

pub returns-in-Over-clause-counted : goal.returns-in-Over-clause-counted
returns-in-Over-clause-counted g c = fills_nothing _ _ _ _ c.self.view_is c.in-Over.ensures.book
