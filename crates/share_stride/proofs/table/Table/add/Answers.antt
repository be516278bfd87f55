use Rattle.std.proofs.Common.{Some, ap, sym, ◌∙◌, ◌+◌, arith}
use Rattle.std.specs.FinMap.{get, insert, len}
use Rattle.share_model.proofs.lemmas.stride.MapLemmas.{len-insert_new}
use Rattle.share_stride.specs.Table.{Clients, entry_in}
use Rattle.share_stride.proofs.TableLemmas.{len-client_map}
use Rattle.share_stride.proofs.KeyLemmas.{distinct, keyless_of_absent, IsIndexed-add, client_map-add}
use Rattle.share_stride.proofs.RankLemmas.{IsRanked-idle, entry_of-idle, key_fits-written}
use Rattle.share_stride.proofs.table.Table.add.Goals as goal

pub insert_reserved-key-requires : goal.insert_reserved-key-requires
insert_reserved-key-requires c =
    let count =
    sym (len-client_map c.self.inside.slots.slots (distinct _ _ c.self.invariant.indexed))
    ∙ ap (λ (clients : Clients). len clients.by_flow) c.self.view_is in
    let room = c.self.invariant.room in
    omega (arith, c.requires.room)

pub insert-requires-clause-absent : goal.insert-requires-clause-absent
insert-requires-clause-absent c =
    keyless_of_absent _ _ c.args.flow c.self.invariant.indexed
    (ap (λ (clients : Clients). get clients.by_flow c.args.flow) c.self.view_is ∙ c.requires.absent)

pub invariant_of-self : goal.invariant_of-self
invariant_of-self c =
    let u = c.insert_reserved-key.ensures.updates in
    let absent = ap (λ (clients : Clients). get clients.by_flow c.args.flow) c.self.view_is ∙ c.requires.absent in
    let keyless = keyless_of_absent _ _ c.args.flow c.self.invariant.indexed absent in
    let vacant = c.insert_reserved-key.ensures.was_vacant in
    rw c.insert.ensures (record {
      indexed = IsIndexed-add c.self.inside.slots.slots c.insert_reserved-key.new.self.slots c.self.inside.index
          c.insert_reserved-key.result (record { flow = c.args.flow; client = c.args.client }) c.self.invariant.indexed
          vacant keyless (record { changed = u.changed; others = u.others });
      count = len-insert_new _ c.args.flow c.insert_reserved-key.result keyless
          ∙ ap (λ n. n + 1) c.self.invariant.count
          ∙ sym (len-insert_new _ c.args.flow c.args.client absent)
          ∙ ap len (sym (client_map-add c.self.inside.slots.slots c.insert_reserved-key.new.self.slots
          c.self.inside.index c.insert_reserved-key.result (record { flow = c.args.flow; client = c.args.client })
          c.self.invariant.indexed absent vacant (record { changed = u.changed; others = u.others })));
      room = rw c.insert_reserved-key.ensures.capacity c.self.invariant.room;
      ranked = IsRanked-idle _ _ c.insert_reserved-key.result
          (Some (record { flow = c.args.flow; client = c.args.client })) _ c.self.invariant.ranked
          (record { changed = u.changed; others = u.others })
          (ap (entry_in c.insert_reserved-key.result) vacant)
          (entry_of-idle c.insert_reserved-key.result (record { flow = c.args.flow; client = c.args.client })
          c.requires.idle);
      wide = c.self.invariant.wide ∙ sym c.insert_reserved-key.ensures.capacity;
      key_fits = key_fits-written _ _ c.insert_reserved-key.result
          (record { flow = c.args.flow; client = c.args.client }) _ _ c.self.invariant.key_fits
          (record { changed = u.changed; others = u.others }) c.insert_reserved-key.ensures.capacity
          c.insert_reserved-key.ensures.key_in_range;
    })

pub returns : goal.returns
returns c =
    let u = c.insert_reserved-key.ensures.updates in
    client_map-add c.self.inside.slots.slots c.insert_reserved-key.new.self.slots c.self.inside.index
    c.insert_reserved-key.result (record { flow = c.args.flow; client = c.args.client }) c.self.invariant.indexed
    (ap (λ (clients : Clients). get clients.by_flow c.args.flow) c.self.view_is ∙ c.requires.absent)
    c.insert_reserved-key.ensures.was_vacant (record { changed = u.changed; others = u.others })
    ∙ ap (λ (clients : Clients). insert clients.by_flow c.args.flow c.args.client) c.self.view_is
