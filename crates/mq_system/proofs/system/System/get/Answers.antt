use Rattle.std.proofs.Common.{rules}
use mir.Val.{SFits}
use mir.Syntax.{w32}
use Rattle.std.proofs.lemmas.Int.{to_z-of_z}
use Rattle.mq_system.proofs.GetLemmas.{answers}
use Rattle.mq_system.proofs.system.System.get.Goals as goal

pub returns : goal.returns
returns g c =
    let fits : SFits w32 c.args.key = search rules in
    let lacked = simp to_z-of_z at c.in_default.ensures.lacked in
    let told = simp to_z-of_z at c.make-2.ensures.answer in
    record {
      answer =
          answers g.N.Names.slots g.N.Names.last_seq c.args.key c.args.flags c.args.moment
          c.args.seat.now c.find.new.seat c.make-2.new.seat c.find.ensures.look (search rules)
          (λ some. lacked) c.make-2.result told c.make-2.ensures.look;
    }
