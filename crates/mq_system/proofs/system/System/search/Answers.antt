use Rattle.std.proofs.Common.{rules}
use mir.Val.{SFits}
use mir.Syntax.{w32}
use Rattle.std.proofs.lemmas.Int.{to_z-of_z}
use Rattle.mq_system.proofs.LaterLemmas.{look_trans}
use Rattle.mq_system.proofs.GetLemmas.{below_more, found}
use Rattle.mq_system.proofs.system.System.search.Goals as goal

pub returns-in-Some-clause-found : goal.returns-in-Some-clause-found
returns-in-Some-clause-found g c =
    let fits : SFits w32 c.args.key = search rules in
    let told = simp to_z-of_z at c.in-Some.ensures.answer in
    found c.loop-number.number c.args.key c.args.seat.now c.loop-number.seat c.with_key.new.seat _
    c.loop-number.invariant.0.later c.with_key.ensures.look.later told

pub returns-in-Some-clause-look : goal.returns-in-Some-clause-look
returns-in-Some-clause-look g c =
    look_trans c.args.seat.now c.loop-number.seat c.with_key.new.seat c.loop-number.invariant.0
    c.with_key.ensures.look

pub loop-number-preserved : goal.loop-number-preserved
loop-number-preserved g c =
    let had = c.loop-number.invariant in
    let seat = c.loop-number.seat in
    let now = c.with_key.new.seat in
    let look = c.with_key.ensures.look in (
      look_trans c.args.seat.now seat now had.0 look,
      below_more _ c.args.seat.now seat now c.loop-number.number had.0.later look.later
          c.in_default.ensures.answer had.1,
    )
