use Rattle.std.proofs.Common.{◌++◌, take}
use Rattle.std.proofs.KnownBytes.{Appends-trans}
use Rattle.mq_trace.proofs.Bytes.{prefix_grown}
use Rattle.mq_trace.proofs.output.write_bytes.Goals as goal

pub loop-rest-preserved : goal.loop-rest-preserved
loop-rest-preserved g c =
    let inv = c.loop-rest.invariant in (
      inv.0 ++ take c.in-Ok.count c.loop-rest.rest.now,
      prefix_grown c.args.bytes.now inv.0 c.loop-rest.rest.now c.in-Ok.count inv.1,
      Appends-trans _ _ _ inv.0 (take c.in-Ok.count c.loop-rest.rest.now) inv.2 c.in-Ok.ensures.bytes,
    )
