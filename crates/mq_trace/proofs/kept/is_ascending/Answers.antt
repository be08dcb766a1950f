use Rattle.std.proofs.Common.{◌-◌, ◌<◌, arith}
use Rattle.mq_trace.specs.Walk.{place_in}
use Rattle.mq_trace.proofs.Places.{ascending_more}
use Rattle.mq_trace.proofs.kept.is_ascending.Goals as goal

pub loop-i-preserved : goal.loop-i-preserved
loop-i-preserved c =
    let next : place_in c.args.waiting.now (c.loop-i.i - 1) < place_in c.args.waiting.now c.loop-i.i = omega arith in
    ascending_more c.loop-i.i c.args.waiting.now c.loop-i.invariant next
