use Rattle.std.proofs.Common.{◌≡◌, ◌+◌, ◌<◌, length, slice_set, arith, rules}
use Rattle.mq_table.specs.SlotParts.{empty_kept}
use Rattle.mq.proofs.LocalLemmas.{AreRowsOf, all_rows, rows_more}
use Rattle.mq.proofs.local_caller.LocalCaller.report.Goals as goal

pub loop-slot-preserved : goal.loop-slot-preserved
loop-slot-preserved g c =
    let had = c.loop-slot.invariant in
    let slots = c.args.self.now.of.now.queues.slots in
    let within : c.loop-slot.slot < length c.loop-slot.rows = search rules in
    let more : AreRowsOf slots (slice_set c.loop-slot.rows c.loop-slot.slot c.row.result)
    (c.loop-slot.slot + 1) =
    rows_more slots c.loop-slot.rows c.loop-slot.slot c.row.result within c.row.ensures.value had.1 in
    (search rules, search (rules, more))

pub returns : goal.returns
returns g c =
    let had = c.loop-slot.invariant in
    let slots = c.args.self.now.of.now.queues.slots in
    let same : length c.loop-slot.rows ≡ length slots = search (rules, had.0, c.requires) in
    all_rows empty_kept slots c.loop-slot.rows same
    (λ k d less. had.1 k d (omega (arith, less, had.0, c.requires, c.slots-slot-end.ensures, c.loop-slot.end-fits)))
