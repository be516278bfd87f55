use Rattle.std.proofs.Common.{◌≡◌, ◌<◌, ◌+◌, ◌∙◌, ap, sym, subst, arith, length, drop, true, false, IfOk}
use Rattle.std.specs.Prelude.{Result}
use Rattle.share_base.specs.declared.refusal.Refusal.{Refusal}
use Rattle.share_gateway.specs.Opening.{grantees, grants_to}
use Rattle.share_gateway.specs.OpeningLeft.{seen}
use Rattle.share_gateway.specs.GrantTickets.{is_named, ticket_after, ticket_among, IsTicketOf}
use Rattle.share_gateway.proofs.TicketLemmas.{before-few, before-next, ticket-stands, among-here, among-later}
use Rattle.share_gateway.proofs.plan.Plan.ticket_of.Goals as goal

pub ticket_after-requires : goal.ticket_after-requires
ticket_after-requires c =
    let size = ap length c.grants.ensures in
    let few = before-few c.args.self.now c.loop-index.index (seen c.grantee_at-to.result) c.grantee_at-to.ensures
    c.tenants.ensures.limits in
    omega (arith, size, few, c.loop-index.invariant.before_is)

pub returns-then-is_named-clause-ticket : goal.returns-then-is_named-clause-ticket
returns-then-is_named-clause-ticket c =
    let named : is_named c.args.name (seen c.grantee_at-to.result) ≡ true =
    sym c.is_named.ensures ∙ c.if-is_named.true in
    c.ticket_after.ensures
    ∙ ap (λ gs. ticket_after c.loop-index.before c.args.number (length gs)) c.grants.ensures
    ∙ sym (among-here c.args.self.now c.loop-index.index (seen c.grantee_at-to.result) c.grantee_at-to.ensures
    c.args.name
    named c.loop-index.before c.args.number)
    ∙ sym c.loop-index.invariant.ticket

pub returns-then-is_named-clause-stands : goal.returns-then-is_named-clause-stands
returns-then-is_named-clause-stands c =
    let named : is_named c.args.name (seen c.grantee_at-to.result) ≡ true =
    sym c.is_named.ensures ∙ c.if-is_named.true in
    let is =
    c.ticket_after.ensures
    ∙ ap (λ gs. ticket_after c.loop-index.before c.args.number (length gs)) c.grants.ensures
    ∙ ap (λ before. ticket_after before c.args.number (length (grants_to (seen c.grantee_at-to.result))))
    c.loop-index.invariant.before_is in
    subst (λ result. IfOk result (λ ticket. IsTicketOf c.args.self.now c.args.name c.args.number ticket)) (sym is)
    (ticket-stands c.args.self.now c.loop-index.index (seen c.grantee_at-to.result) c.grantee_at-to.ensures c.args.name
    named c.args.number)

pub overflow_add-before : goal.overflow_add-before
overflow_add-before c =
    let size = ap length c.grants.ensures in
    let few = before-few c.args.self.now c.loop-index.index (seen c.grantee_at-to.result) c.grantee_at-to.ensures
    c.tenants.ensures.limits in
    omega (arith, size, few, c.loop-index.invariant.before_is)

pub loop-index-preserved : goal.loop-index-preserved
loop-index-preserved c =
    let other : is_named c.args.name (seen c.grantee_at-to.result) ≡ false =
    sym c.is_named.ensures ∙ c.if-is_named.false in
    let size = ap length c.grants.ensures in
    let next = before-next c.args.self.now c.loop-index.index (seen c.grantee_at-to.result) c.grantee_at-to.ensures in
    record {
      ticket =
          c.loop-index.invariant.ticket
          ∙ among-later c.args.self.now c.loop-index.index (seen c.grantee_at-to.result) c.grantee_at-to.ensures
          c.args.name other c.loop-index.before c.args.number
          ∙ ap (λ n. ticket_among (c.loop-index.before + n) c.args.name c.args.number
          (drop (c.loop-index.index + 1) (grantees c.args.self.now))) (sym size);
      before_is = omega (arith, size, next, c.loop-index.invariant.before_is);
    }
