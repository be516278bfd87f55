use Rattle.std.proofs.Common.{◌≡◌, Option, None, unwrap_or, refl, ap, sym, ◌∙◌, ◌-◌}
use Rattle.std.specs.FinMap.{get, remove, len}
use Rattle.share_model.proofs.lemmas.stride.MapLemmas.{len-remove_found}
use Rattle.share_model.specs.declared.stride.Client.{Client}
use Rattle.share_model.specs.stride.Moves.{new_client}
use Rattle.share_stride.specs.Table.{Clients, client_map, entry_in}
use Rattle.share_stride.proofs.TableLemmas.{client_map-removal, client_of_slot}
use Rattle.share_stride.proofs.KeyLemmas.{distinct, key_holds, IsIndexed-removal}
use Rattle.share_stride.proofs.RankLemmas.{IsRanked-idle, entry_of-idle, key_fits-removed}
use Rattle.share_stride.proofs.ClientKeyLemmas.{absent_in_view}
use Rattle.share_stride.proofs.table.Table.remove.Goals as goal

pub unreachable-requires : goal.unreachable-requires
unreachable-requires c =
    absent_in_view _ _ _ c.args.flow c.self.invariant.indexed c.self.view_is c.in-None.ensures.key
    c.requires.there

map_removed : (c : goal.After-try_remove)
    → client_map c.try_remove.new.self.slots ≡ remove (client_map c.self.inside.slots.slots) c.args.flow
map_removed c =
    let u = c.try_remove.ensures.updates in
    let indexed = c.self.invariant.indexed in
    client_map-removal c.self.inside.slots.slots c.try_remove.new.self.slots c.args.flow c.in-Some.key
    (distinct _ _ indexed) (key_holds _ _ _ _ indexed (sym c.in-Some.ensures.key))
    (record { changed = u.changed; others = u.others })

pub invariant_of-self : goal.invariant_of-self
invariant_of-self c =
    let u = c.try_remove.ensures.updates in
    let indexed = c.self.invariant.indexed in
    let holds = key_holds _ _ _ _ indexed (sym c.in-Some.ensures.key) in
    let found =
    ap (get (client_map c.self.inside.slots.slots)) (sym holds.has)
    ∙ client_of_slot _ (distinct _ _ indexed) c.in-Some.key holds.slot holds.found in
    rw c.remove.ensures.removed (record {
      indexed = IsIndexed-removal c.self.inside.slots.slots c.try_remove.new.self.slots c.self.inside.index c.args.flow
          c.in-Some.key indexed (sym c.in-Some.ensures.key) (record { changed = u.changed; others = u.others });
      count = len-remove_found _ c.args.flow c.in-Some.key (sym c.in-Some.ensures.key)
          ∙ ap (λ n. n - 1) c.self.invariant.count
          ∙ sym (len-remove_found _ c.args.flow holds.slot.client found)
          ∙ ap len (sym (map_removed c));
      room = rw c.try_remove.ensures.capacity c.self.invariant.room;
      ranked = IsRanked-idle _ _ c.in-Some.key None _ c.self.invariant.ranked
          (record { changed = u.changed; others = u.others })
          (ap (entry_in c.in-Some.key) holds.found
          ∙ entry_of-idle c.in-Some.key holds.slot
          (ap (λ (o : Option Client). (unwrap_or o new_client).competes)
          (sym found ∙ ap (λ (clients : Clients). get clients.by_flow c.args.flow) c.self.view_is)
          ∙ c.requires.idle)) refl;
      wide = c.self.invariant.wide ∙ sym c.try_remove.ensures.capacity;
      key_fits = key_fits-removed _ _ c.in-Some.key _ _ c.self.invariant.key_fits
          (record { changed = u.changed; others = u.others }) c.try_remove.ensures.capacity;
    })

pub returns : goal.returns
returns c = map_removed c ∙ ap (λ (clients : Clients). remove clients.by_flow c.args.flow) c.self.view_is
