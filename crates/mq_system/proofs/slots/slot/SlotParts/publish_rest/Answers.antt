use Rattle.std.proofs.Common.{◌≡◌, ◌<◌, ap, arith, length, length-append, sym, ◌∙◌}
use Rattle.mq_table.proofs.Kepts.{entries_is, row_is}
use Rattle.mq_system.specs.Shared.{all_events, unpublished}
use Rattle.mq_system.proofs.NoteLemmas.{noted_none}
use Rattle.mq_system.proofs.RestLemmas.{none_behind}
use Rattle.mq_system.proofs.slots.slot.SlotParts.publish_rest.Goals as goal

pub returns-then-count-published-clause-noted : goal.returns-then-count-published-clause-noted
returns-then-count-published-clause-noted g c =
    let published = c.args.self.now.writer.events in
    let slot = c.args.self.now.slot in
    let same : length (all_events published slot) ≡ length published =
    omega (arith, c.if-count-published.true, c.events-count.ensures.value, entries_is (all_events published slot) slot c.requires.behind.shared.published.kept, c.count-published.ensures) in
    sym (rw (none_behind published slot same)
    (noted_none c.args.seat.now slot.number published c.requires.known))

pub publish_rest-requires-clause-row : goal.publish_rest-requires-clause-row
publish_rest-requires-clause-row g c =
    c.row-row.ensures.value
    ∙ row_is (all_events c.args.self.now.writer.events c.args.self.now.slot) c.args.self.now.slot
    c.requires.behind.shared.published.kept

-- something was appended, and so a queue is there
pub publish_rest-requires-clause-live : goal.publish_rest-requires-clause-live
publish_rest-requires-clause-live g c =
    let published = c.args.self.now.writer.events in
    let slot = c.args.self.now.slot in
    let kept = c.requires.behind.shared.published.kept in
    let some : 0 < length (unpublished (length published) slot) =
    omega (arith, c.if-count-published.false, c.events-count.ensures.value, entries_is (all_events published slot) slot kept, c.count-published.ensures, length-append published (unpublished (length published) slot)) in
    ap (λ r. r.live) (c.row-row.ensures.value ∙ row_is (all_events published slot) slot kept)
    ∙ c.requires.behind.live some
