use Rattle.std.proofs.Common.{rules}
use mir.Val.{SFits}
use mir.Syntax.{w32}
use Rattle.std.proofs.lemmas.Int.{to_z-of_z}
use Rattle.mq_table.proofs.Found.{entered, keys_entered}
use Rattle.mq_table.proofs.keys.KeyTable.enter.Goals as goal

pub invariant_of-self-2 : goal.invariant_of-self-2
invariant_of-self-2 c =
    let fits : SFits w32 c.args.key = search rules in
    let told = simp to_z-of_z at c.in_ok-insert.ensures.entries in
    let absent = rw (← c.self.view_is) at c.requires.absent in
    keys_entered c.self.inside.ids _ c.args.key c.args.id c.self.invariant absent told
    c.requires.key c.in_ok-insert.ensures.unique

pub returns : goal.returns
returns c =
    let fits : SFits w32 c.args.key = search rules in
    let told = simp to_z-of_z at c.in_ok-insert.ensures.entries in
    let absent = rw (← c.self.view_is) at c.requires.absent in
    let grown = entered c.self.inside.ids c.args.key c.args.id absent in
    rw (← c.self.view_is) (rw told (search (rules, grown)))
