use Rattle.std.proofs.Common.{◌+◌, drop, true}
use Rattle.mq_trace.specs.Steps.{steps_of}
use Rattle.mq_trace.specs.Trace.{slot_records, slots_records}
use Rattle.mq_trace.proofs.Lists.{drop_at}
use Rattle.mq_trace.proofs.Sheets.{so_far_failed, so_far_step}
use Rattle.mq_trace.proofs.trace.write_slots.Goals as goal

pub loop-slot-preserved : goal.loop-slot-preserved
loop-slot-preserved g c =
    let cut = drop_at c.args.slots.now c.loop-slot.slot-index c.slot-item.result c.loop-slot-test.true c.slot-item.is in
    so_far_step _ _ _ c.args.sheet.now c.loop-slot.sheet c.write_slot.new.sheet (slots_records c.args.scale c.args.slots.now)
    (slot_records c.args.scale true (steps_of c.slot-item.result)) (slots_records c.args.scale (drop (c.loop-slot.slot-index + 1) c.args.slots.now))
    (rw cut at c.loop-slot.invariant) c.in_default.ensures

pub returns-in-Err : goal.returns-in-Err
returns-in-Err g c =
    let cut = drop_at c.args.slots.now c.loop-slot.slot-index c.slot-item.result c.loop-slot-test.true c.slot-item.is in
    so_far_failed _ _ _ c.args.sheet.now c.loop-slot.sheet (slots_records c.args.scale c.args.slots.now)
    (slot_records c.args.scale true (steps_of c.slot-item.result)) (slots_records c.args.scale (drop (c.loop-slot.slot-index + 1) c.args.slots.now))
    (rw cut at c.loop-slot.invariant) c.in-Err.ensures
