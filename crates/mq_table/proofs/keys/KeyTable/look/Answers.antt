use Rattle.std.proofs.Common.{rules}
use mir.Val.{SFits}
use mir.Syntax.{w32}
use Rattle.std.proofs.lemmas.Int.{to_z-of_z}
use Rattle.mq_table.proofs.Found.{lookup_is}
use Rattle.mq_table.proofs.keys.KeyTable.look.Goals as goal

pub returns : goal.returns
returns c =
    let fits : SFits w32 c.args.key = search rules in
    let told = simp to_z-of_z at c.get.ensures.value in
    let found = lookup_is c.self.inside.ids.entries c.args.key in
    rw (← c.self.view_is) (cc (c.copied.ensures, told, found))
