use Rattle.std.proofs.Common.{◌≡◌, Ok, ap, rules, ◌∙◌, subst, sym}
use Rattle.mq_queue.specs.Queue.{CutLog, rest_of}
use Rattle.mq_queue.specs.Row.{last_log}
use Rattle.mq_table.specs.Calls.{removes}
use Rattle.mq_table.specs.KeptPart.{whole}
use Rattle.mq_table.proofs.Kepts.{entries_is, last_id_is, live_is}
use Rattle.mq_table.proofs.LogLeft.{log_left}
use Rattle.mq_calls.specs.declared.results.Removal.{Removal}
use Rattle.mq_system.proofs.AnswerLemmas.{removed_by}
use Rattle.mq_system.proofs.KeysLemmas.{left_within}
use Rattle.mq_system.proofs.SharedLemmas.{has_changed, remove_changes}
use Rattle.mq_system.proofs.slots.slot.SharedSlot.remove.Goals as goal

pub remove_under-removed-requires : goal.remove_under-removed-requires
remove_under-removed-requires g c = record {
  live = live_is _ _ c.self.invariant.published.kept ∙ (rw (← c.self.view_is) at c.in_ok-look.ensures.live);
}

pub publish-requires-clause-due : goal.publish-requires-clause-due
publish-requires-clause-due g c =
    let live = rw (← c.self.view_is) at c.in_ok-look.ensures.live in
    let short = rw (← c.self.view_is) at c.holds.ensures.few in
    let few = rw (← c.self.view_is) at c.holds.ensures.made in
    rw (← c.number-number.ensures) (remove_changes _ _ _ _ _ c.self.inside.parts.writer _ _ _ c.self.invariant short few live
    c.number-number.result c.args.moment c.in-Ok.ensures.answer.taken.removed c.in-Ok.ensures.noticed).due

pub publish-requires-clause-known : goal.publish-requires-clause-known
publish-requires-clause-known g c =
    let live = rw (← c.self.view_is) at c.in_ok-look.ensures.live in
    let short = rw (← c.self.view_is) at c.holds.ensures.few in
    let few = rw (← c.self.view_is) at c.holds.ensures.made in
    let its = remove_changes _ _ _ _ _ c.self.inside.parts.writer _ _ _ c.self.invariant short few live
    c.number-number.result c.args.moment c.in-Ok.ensures.answer.taken.removed c.in-Ok.ensures.noticed in
    rw (its.number, its.known) (rw (← c.self.view_is) at c.requires.begun.known)

pub invariant_of-self : goal.invariant_of-self
invariant_of-self g c =
    rw (c.in_default.ensures.answer.0, c.in_default.ensures.noticed) c.self.invariant

pub invariant_of-keys : goal.invariant_of-keys
invariant_of-keys g c = rw c.in_default.ensures.answer.1 c.keys.invariant

pub invariant_of-keys-2 : goal.invariant_of-keys-2
invariant_of-keys-2 g c = rw c.in-Ok.ensures.answer.forgotten (left_within _ _ _ c.keys.invariant)

pub returns-clause-lawful : goal.returns-clause-lawful
returns-clause-lawful g c = c.publish.ensures.shared.lawful

pub returns-clause-keys : goal.returns-clause-keys
returns-clause-keys g c =
    rw (← c.self.view_is, ← c.keys.view_is, ← last_id_is _ _ c.self.invariant.published.kept)
    c.in-Ok.ensures.answer.forgotten

pub returns-clause-answer : goal.returns-clause-answer
returns-clause-answer g c =
    let live = rw (← c.self.view_is) at c.in_ok-look.ensures.live in
    let short = rw (← c.self.view_is) at c.holds.ensures.few in
    let few = rw (← c.self.view_is) at c.holds.ensures.made in
    let had = c.self.invariant in
    let its = remove_changes _ _ _ _ _ c.self.inside.parts.writer _ _ _ c.self.invariant short few live
    c.number-number.result c.args.moment c.in-Ok.ensures.answer.taken.removed c.in-Ok.ensures.noticed in
    let told = c.in-Ok.ensures.answer.taken.log in
    let log = told
    ∙ log_left _ _ _ had.published.kept had.lawful live c.number-number.result c.args.moment in
    let places = ap (λ (l : CutLog). l.base.places) told in
    let entry = c.events-entry.ensures.value ∙ entries_is _ _ had.published.kept in
    let there = rw (← c.self.view_is) at c.in_ok-look.ensures.value in
    let s = whole c.self.inside.parts.writer.events c.self.inside.parts.slot in
    let after = removes s c.number-number.result c.args.moment in
    let removed : Removal = record { entry = c.events-entry.result; log = c.in-Ok.log } in
    let ok = rw c.number-number.ensures at (removed_by s _ there after removed entry
    (subst (λ n. c.in-Ok.log ≡ rest_of n (last_log after.events)) (sym places) log)
    ∙ ap (λ t. Ok (removed, t)) (sym its.left)) in
    rw (← c.self.view_is)
    (search (
      rules,
      has_changed _ _ _ _ _ _ c.self.inside.parts.writer _ _ _ _ its _
          c.publish.ensures.events _ _ c.publish.ensures.noted _ _ ok,
    ))
