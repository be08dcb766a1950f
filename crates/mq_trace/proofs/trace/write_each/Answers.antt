use Rattle.std.proofs.Common.{◌∷◌, ◌+◌, [], None, drop, get_or, map}
use Rattle.mq_calls.specs.declared.errno.Errno.TheVariants.{EINVAL}
use Rattle.mq_trace.specs.Records.{refusal_record}
use Rattle.mq_trace.specs.declared.refusal.CallName.TheVariants.{Get}
use Rattle.mq_trace.specs.declared.refusal.Refusal.{Refusal}
use Rattle.mq_trace.proofs.Lists.{drop_from}
use Rattle.mq_trace.proofs.Sheets.{so_far_failed, so_far_step}
use Rattle.mq_trace.proofs.trace.write_each.Goals as goal

-- what a read past the end would find
abbrev nobody : Refusal
nobody = record { moment = 0; seat = 0; call = Get; id = None; errno = EINVAL }

pub loop-refusal-preserved : goal.loop-refusal-preserved
loop-refusal-preserved g c =
    let cut = drop_from c.args.refusals.now c.loop-refusal.refusal-index nobody c.loop-refusal-test.true in
    so_far_step _ _ _ c.args.sheet.now c.loop-refusal.sheet c.write_refusal.new.sheet (map refusal_record c.args.refusals.now)
    (refusal_record (get_or c.args.refusals.now c.loop-refusal.refusal-index nobody) ∷ [])
    (map refusal_record (drop (c.loop-refusal.refusal-index + 1) c.args.refusals.now)) (rw cut at c.loop-refusal.invariant) c.in_default.ensures

pub returns-in-Err : goal.returns-in-Err
returns-in-Err g c =
    let cut = drop_from c.args.refusals.now c.loop-refusal.refusal-index nobody c.loop-refusal-test.true in
    so_far_failed _ _ _ c.args.sheet.now c.loop-refusal.sheet (map refusal_record c.args.refusals.now)
    (refusal_record (get_or c.args.refusals.now c.loop-refusal.refusal-index nobody) ∷ [])
    (map refusal_record (drop (c.loop-refusal.refusal-index + 1) c.args.refusals.now)) (rw cut at c.loop-refusal.invariant) c.in-Err.ensures
