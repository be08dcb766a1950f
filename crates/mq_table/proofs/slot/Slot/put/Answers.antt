use Rattle.std.proofs.Common.{rules, arith}
use mir.Val.{SFits}
use mir.Syntax.{w32}
use Rattle.std.proofs.lemmas.Int.{to_z-of_z}
use Rattle.mq_table.proofs.SlotEnds.{made_slot}
use Rattle.mq_table.proofs.slot.Slot.put.Goals as goal

pub invariant_of-self : goal.invariant_of-self
invariant_of-self g c =
    let fits : SFits w32 c.args.key = search rules in
    let new = c.requires.made.2 in
    rw (to_z-of_z w32 _ fits, c.put_in.ensures)
    (made_slot _ _ _ _ _ _ _ _ _ c.self.invariant (rw (← c.self.view_is) at c.requires.empty)
    (rw (← c.self.view_is) at c.requires.unused) c.args.key
    c.requires.made.0 c.requires.made.1 c.args.queue new.base new.tail new.messages _ (omega arith))
