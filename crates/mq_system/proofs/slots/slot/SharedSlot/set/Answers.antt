use Rattle.std.proofs.Common.{◌≡◌, refl, rules, ◌∙◌}
use Rattle.mq_table.specs.KeptPart.{whole}
use Rattle.mq_table.proofs.Kepts.{live_is}
use Rattle.mq_table.proofs.Whole.{set_refused}
use Rattle.mq_calls.specs.Look.{errno_of}
use Rattle.mq_system.specs.Answer.{refused_here}
use Rattle.mq_system.proofs.AnswerLemmas.{answered_by, refused_by}
use Rattle.mq_system.proofs.SharedLemmas.{has_changed, set_changes}
use Rattle.mq_system.proofs.slots.slot.SharedSlot.set.Goals as goal

pub set-requires : goal.set-requires
set-requires g c = record {
  live = live_is _ _ c.self.invariant.published.kept ∙ (rw (← c.self.view_is) at c.in_ok-look.ensures.live);
}

pub publish-requires-clause-due : goal.publish-requires-clause-due
publish-requires-clause-due g c =
    let live = rw (← c.self.view_is) at c.in_ok-look.ensures.live in
    let short = rw (← c.self.view_is) at c.holds.ensures.few in
    let few = rw (← c.self.view_is) at c.holds.ensures.made in
    rw (← c.number-number.ensures) (set_changes _ _ _ _ _ c.self.inside.parts.writer _ _ c.set.new.self c.self.invariant short few live c.args.qbytes
    c.number-number.result c.args.moment c.in-Ok.entry (cc (c.in-Ok.ensures.answer)) c.in-Ok.ensures.noticed).due

pub publish-requires-clause-known : goal.publish-requires-clause-known
publish-requires-clause-known g c =
    let live = rw (← c.self.view_is) at c.in_ok-look.ensures.live in
    let short = rw (← c.self.view_is) at c.holds.ensures.few in
    let few = rw (← c.self.view_is) at c.holds.ensures.made in
    let its = set_changes _ _ _ _ _ c.self.inside.parts.writer _ _ _ c.self.invariant short few live c.args.qbytes
    c.number-number.result c.args.moment _ c.in-Ok.ensures.answer c.in-Ok.ensures.noticed in
    rw (its.number, its.known) (rw (← c.self.view_is) at c.requires.begun.known)

pub returns-in-Ok : goal.returns-in-Ok
returns-in-Ok g c =
    let live = rw (← c.self.view_is) at c.in_ok-look.ensures.live in
    let short = rw (← c.self.view_is) at c.holds.ensures.few in
    let few = rw (← c.self.view_is) at c.holds.ensures.made in
    let its = set_changes _ _ _ _ _ c.self.inside.parts.writer _ _ _ c.self.invariant short few live c.args.qbytes
    c.number-number.result c.args.moment _ c.in-Ok.ensures.answer c.in-Ok.ensures.noticed in
    let there = rw (← c.self.view_is) at c.in_ok-look.ensures.value in
    let ok = rw c.number-number.ensures at (answered_by (whole c.self.inside.parts.writer.events c.self.inside.parts.slot) _ there _ _ _ its.left) in
    record {
      answer =
          rw (← c.self.view_is)
          (search (
            rules,
            has_changed _ _ _ _ _ _ c.self.inside.parts.writer _ _ _ _ its _
                c.publish.ensures.events _ _ c.publish.ensures.noted _ _ ok,
          ));
    }

pub returns-in-Err : goal.returns-in-Err
returns-in-Err g c =
    let live = rw (← c.self.view_is) at c.in_ok-look.ensures.live in
    let there = rw (← c.self.view_is) at c.in_ok-look.ensures.value in
    let why = c.in-Err.ensures.answer.refused
    ∙ set_refused _ _ c.self.invariant.published.kept live c.args.qbytes c.number-number.result
    c.args.moment in
    let s = whole c.self.inside.parts.writer.events c.self.inside.parts.slot in
    let is : c.refused.result ≡ refused_here s (errno_of c.in-Err.refusal) = search rules in
    record {
      answer =
          rw (← c.self.view_is)
          (record {
            why = rw (← c.number-number.ensures) (refused_by s _ there _ _ _ why is);
            unchanged = search rules;
            same = refl;
          });
    }
