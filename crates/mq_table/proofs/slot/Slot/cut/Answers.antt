use Rattle.std.proofs.Common.{arith, rules}
use Rattle.mq_table.proofs.SlotEnds.{cut_slot, with_cut}
use Rattle.mq_table.proofs.slot.Slot.cut.Goals as goal

pub invariant_of-self-2 : goal.invariant_of-self-2
invariant_of-self-2 g c =
    let entries =
    rw (← c.self.view_is, ← c.replace-first.ensures.after) at c.events-entries.ensures.value in
    cut_slot _ _ _ _ _ _ _ _ _ c.self.invariant _ _ entries _ c.take.ensures.after _
    (rw c.replace-past.ensures.after c.new.ensures.items) _ c.in_ok-base.ensures.after
    (omega (arith, c.replace-made.ensures.after))
    (omega arith)

pub returns-clause-after : goal.returns-clause-after
returns-clause-after g c =
    let entries =
    rw (← c.self.view_is, ← c.replace-first.ensures.after) at c.events-entries.ensures.value in
    let told = with_cut _ _ _ _ _ _ _ _ _ c.self.invariant c.replace-first.new.dest c.replace-made.new.dest
    entries c.take.new.self c.take.ensures.after c.replace-past.new.dest.items
    (rw c.replace-past.ensures.after c.new.ensures.items) c.cut_live.new.live c.in_ok-base.ensures.after
    (omega (arith, c.replace-made.ensures.after)) in
    rw (← c.self.view_is) (search (rules, told))
