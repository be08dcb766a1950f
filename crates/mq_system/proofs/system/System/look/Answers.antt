use Rattle.std.proofs.Common.{rules}
use mir.Val.{SFits}
use mir.Syntax.{w32}
use Rattle.std.proofs.lemmas.Int.{to_z-of_z}
use Rattle.mq_system.proofs.LaterLemmas.{later_self}
use Rattle.mq_system.proofs.GetLemmas.{found}
use Rattle.mq_system.proofs.system.System.look.Goals as goal

pub returns-in-Some-with_key-clause-found : goal.returns-in-Some-with_key-clause-found
returns-in-Some-with_key-clause-found g c =
    let fits : SFits w32 c.args.key = search rules in
    let now = c.with_key.new.seat in
    let told = simp to_z-of_z at c.in-Some-with_key.ensures.answer in
    found c.slot-number.result c.args.key c.args.seat.now c.args.seat.now now _
    (later_self c.args.seat.now) c.with_key.ensures.look.later told
