use Rattle.std.proofs.Common.{◌≡◌, ◌≤◌, rules, false, ◌∙◌}
use mir.Val.{SFits}
use mir.Syntax.{w32}
use Rattle.std.proofs.lemmas.Int.{to_z-of_z}
use Rattle.mq_queue.specs.Row.{is_live, made_count}
use Rattle.mq_table.specs.declared.limits.TheConstants.{MAX_SEQ}
use Rattle.mq_table.specs.KeptPart.{whole}
use Rattle.mq_table.specs.Slot.{next_id}
use Rattle.mq_table.proofs.Kepts.{entries_is, live_is, made_is, next_id_is}
use Rattle.mq_system.proofs.KeysLemmas.{entered_within, slot_of_next}
use Rattle.mq_system.proofs.SharedLemmas.{make_changes}
use Rattle.mq_system.proofs.slots.slot.SharedSlot.make.Goals as goal

pub make_under-requires-clause-empty : goal.make_under-requires-clause-empty
make_under-requires-clause-empty g c =
    let off : is_live c.args.self.now.whole.events ≡ false = search rules in
    live_is _ _ c.self.invariant.published.kept ∙ (rw (← c.self.view_is) at off)

pub make_under-requires-clause-unused : goal.make_under-requires-clause-unused
make_under-requires-clause-unused g c =
    let unused : made_count c.args.self.now.whole.events ≤ MAX_SEQ = search rules in
    rw (made_is _ _ c.self.invariant.published.kept) (rw (← c.self.view_is) at unused)

pub publish-requires-clause-due : goal.publish-requires-clause-due
publish-requires-clause-due g c =
    let fits : SFits w32 c.args.key = search rules in
    let made = simp to_z-of_z at c.in_ok-id.ensures.answer.made in
    let noticed = simp to_z-of_z at c.in_ok-id.ensures.noticed in
    let off : is_live c.args.self.now.whole.events ≡ false = search rules in
    let unused : made_count c.args.self.now.whole.events ≤ g.N.Names.last_seq = search rules in
    let short = rw (← c.self.view_is) at c.holds.ensures.few in
    let few = rw (← c.self.view_is) at c.holds.ensures.made in
    rw (← c.number-number.ensures) (make_changes _ _ _ _ _ c.self.inside.parts.writer _ _ _ c.self.invariant short few c.args.key
    c.number-number.result c.args.moment (rw (← c.self.view_is) at off) (rw (← c.self.view_is) at unused)
    made noticed).due

pub publish-requires-clause-known : goal.publish-requires-clause-known
publish-requires-clause-known g c =
    let fits : SFits w32 c.args.key = search rules in
    let made = simp to_z-of_z at c.in_ok-id.ensures.answer.made in
    let noticed = simp to_z-of_z at c.in_ok-id.ensures.noticed in
    let off : is_live c.args.self.now.whole.events ≡ false = search rules in
    let unused : made_count c.args.self.now.whole.events ≤ g.N.Names.last_seq = search rules in
    let short = rw (← c.self.view_is) at c.holds.ensures.few in
    let few = rw (← c.self.view_is) at c.holds.ensures.made in
    let its = make_changes _ _ _ _ _ c.self.inside.parts.writer _ _ _ c.self.invariant short few c.args.key
    c.number-number.result c.args.moment (rw (← c.self.view_is) at off) (rw (← c.self.view_is) at unused)
    made noticed in
    rw (its.number, its.known) (rw (← c.self.view_is) at c.requires.known)

pub invariant_of-keys-2 : goal.invariant_of-keys-2
invariant_of-keys-2 g c =
    let fits : SFits w32 c.args.key = search rules in
    let entered = simp to_z-of_z at c.in_ok-id.ensures.answer.entered in
    let s = whole c.self.inside.parts.writer.events c.self.inside.parts.slot in
    let id = c.in_ok-id.ensures.answer.id ∙ next_id_is _ _ c.self.invariant.published.kept in
    rw (entered, id)
    (entered_within g.N.Names.slots c.keys.inside.table c.args.key (next_id s) c.keys.invariant
    (rw (slot_of_next s (rw (← c.self.view_is) at c.holds.ensures.numbered))
    c.self.invariant.within))

pub returns : goal.returns
returns g c =
    let fits : SFits w32 c.args.key = search rules in
    let made = simp to_z-of_z at c.in_ok-id.ensures.answer.made in
    let noticed = simp to_z-of_z at c.in_ok-id.ensures.noticed in
    let off : is_live c.args.self.now.whole.events ≡ false = search rules in
    let unused : made_count c.args.self.now.whole.events ≤ g.N.Names.last_seq = search rules in
    let short = rw (← c.self.view_is) at c.holds.ensures.few in
    let few = rw (← c.self.view_is) at c.holds.ensures.made in
    let entered = simp to_z-of_z at c.in_ok-id.ensures.answer.entered in
    let kept = c.self.invariant.published.kept in
    let id = c.in_ok-id.ensures.answer.id ∙ next_id_is _ _ kept in
    let entry = c.events-entry.ensures.value ∙ entries_is _ _ kept in
    let its = make_changes _ _ _ _ _ c.self.inside.parts.writer _ _ _ c.self.invariant short few c.args.key
    c.number-number.result c.args.moment (rw (← c.self.view_is) at off) (rw (← c.self.view_is) at unused)
    made noticed in
    record {
      answer = record {
        is = rw (← c.self.view_is) (search (rules, id, entry));
        made =
            rw (
              ← c.number-number.ensures,
              ← c.self.view_is,
              c.publish.ensures.slot,
              c.publish.ensures.events,
            ) its.left;
        entered_is =
            rw (
              ← c.self.view_is,
              ← c.keys.view_is,
              ← next_id_is _ _ kept,
              ← c.in_ok-id.ensures.answer.id,
            ) entered;
        number = rw (← c.self.view_is, c.publish.ensures.slot) its.number;
        kept = rw (← c.self.view_is, c.publish.ensures.slot) its.first;
        noted = rw (← c.self.view_is, ← its.number) c.publish.ensures.noted;
      };
    }
