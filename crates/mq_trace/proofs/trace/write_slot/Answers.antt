use Rattle.std.proofs.Common.{◌≡◌, refl}
use Rattle.mq_trace.specs.Steps.{steps_from, steps_of}
use Rattle.mq_trace.proofs.Sheets.{so_far_failed, so_far_nothing, so_far_step}
use Rattle.mq_trace.proofs.trace.write_slot.Goals as goal

pub loop-step-preserved : goal.loop-step-preserved
loop-step-preserved g c =
    let inv = c.loop-step.invariant in
    let left = c.in-Some.ensures.steps in (
      tt,
      tt,
      so_far_step _ _ _ _ _ _ _ _ _ (rw left at inv.2) c.in_default.ensures,
    )

pub returns-in-Err : goal.returns-in-Err
returns-in-Err g c =
    let inv = c.loop-step.invariant in
    so_far_failed _ _ _ _ _ _ _ _ (rw c.in-Some.ensures.steps at inv.2) c.in-Err.ensures

pub loop-step-init : goal.loop-step-init
loop-step-init g c =
    let all : steps_from c.into_iter-step-iterator.result.at c.into_iter-step-iterator.result.rest ≡ steps_of c.args.slot =
    rw (c.into_iter-step-iterator.ensures.into_iter_gives, c.steps-step-items.ensures.at, c.steps-step-items.ensures.rest) refl in
    rw all (tt, tt, so_far_nothing _ _ _)
