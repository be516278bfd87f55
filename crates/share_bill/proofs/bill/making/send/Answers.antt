use Rattle.std.proofs.Common.{sym, ◌∙◌, ◌-◌, ap, arith}
use Rattle.share_model.specs.declared.stride.GlobalPart.{GlobalPart}
use Rattle.share_bill.proofs.MakingLemmas.{turn-later, turn-made}
use Rattle.share_bill.proofs.bill.making.send.Goals as goal

pub overflow_sub-units : goal.overflow_sub-units
overflow_sub-units g c =
    let later = turn-later c.args.engine.now c.write_frame.new.engine c.requires.book c.events.ensures.sound
    (sym c.spent.ensures ∙ c.if-spent.false) c.args.count c.in-Some.frame c.in-Some.ensures in
    let before = ap (λ (p : GlobalPart). p.clock) c.global-before.ensures in
    let now = ap (λ (p : GlobalPart). p.clock) c.global.ensures in
    omega (arith, later, before, now)

pub returns-clause-made : goal.returns-clause-made
returns-clause-made g c =
    let living = sym c.spent.ensures ∙ c.if-spent.false in
    let later = turn-later c.args.engine.now c.write_frame.new.engine c.requires.book c.events.ensures.sound
    living c.args.count c.in-Some.frame c.in-Some.ensures in
    let before = ap (λ (p : GlobalPart). p.clock) c.global-before.ensures in
    let now = ap (λ (p : GlobalPart). p.clock) c.global.ensures in
    let clock = c.events-2.ensures.sound.queue.clock in
    let events = c.events-2.ensures.sound.counts.events in
    let life = c.events-2.ensures.life in
    turn-made c.args.engine.now c.write_frame.new.engine c.requires.book c.events.ensures.sound living c.args.count
    c.in-Some.frame c.in-Some.ensures (sym c.from.ensures ∙ c.if-from-count.false)
    (c.global.result.clock - c.global-before.result.clock) c.account_of.result
    (omega (arith, later, before, now)) (omega (arith, before, now, clock, events, life)) (sym c.account_of.ensures)
