use Rattle.std.proofs.Common.{arith, ap, length, length-append, ◌∷◌, []}
use Rattle.mq_system.proofs.parts.fill_monitors.Goals as goal

pub loop-slot-preserved : goal.loop-slot-preserved
loop-slot-preserved g c =
    let had = c.loop-slot.invariant in
    let left = c.pop.new.self.items in
    let items = c.in-Some.ensures.items in
    let grown = c.push_reserved.ensures in (
      omega (arith, had.0, ap length items, length-append left (c.in-Some.slot ∷ []), ap length grown.items, length-append c.loop-slot.monitors.items (c.new.result ∷ [])),
      omega (arith, had.1, grown.capacity),
    )
