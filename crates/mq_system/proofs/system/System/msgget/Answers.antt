use Rattle.std.proofs.Common.{rules}
use mir.Val.{SFits}
use mir.Syntax.{w32}
use Rattle.std.proofs.lemmas.Int.{to_z-of_z}
use Rattle.mq_system.proofs.system.System.msgget.Goals as goal

pub returns : goal.returns
returns g c =
    let fits : SFits w32 c.args.key = search rules in
    record { answer = simp to_z-of_z at c.get-answer.ensures.answer }
