use Rattle.std.proofs.Common.{rules}
use Rattle.mq_calls.proofs.UsageLemmas.{usage_none}
use Rattle.mq_system.proofs.LaterLemmas.{look_self, look_trans}
use Rattle.mq_system.proofs.ReportLemmas.{usage_known}
use Rattle.mq_system.proofs.seat.Seat.info.Goals as goal

pub loop-number-init : goal.loop-number-init
loop-number-init g c = search (rules, usage_none, look_self)

pub loop-number-preserved : goal.loop-number-preserved
loop-number-preserved g c =
    let seat = c.loop-number.self in
    let now = c.row.new.self in
    let told = c.row.ensures in
    let more =
    usage_known g.N.Names.slots g.N.Names.height seat now c.loop-number.number c.row.result told.others told.row in (
      look_trans c.args.self.now seat now c.loop-number.invariant.0
          (record { same = told.same; later = told.later }),
      search (rules, more),
    )
