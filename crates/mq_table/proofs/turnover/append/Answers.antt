use Rattle.std.proofs.Common.{sym, arith, ◌∙◌}
use Rattle.mq_queue.proofs.Uncut.{event_at}
use Rattle.mq_table.proofs.Logs.{added}
use Rattle.mq_table.proofs.turnover.append.Goals as goal

pub loop-i-preserved : goal.loop-i-preserved
loop-i-preserved c =
    let here = rw c.first-first.ensures at c.get.ensures in
    let next = added c.args.log.now.tail c.args.past.now.items c.loop-i.past.items c.loop-i.i
    c.in-Some.event
    (sym (event_at c.args.log.now.base.places c.args.log.now.tail c.loop-i.i)
    ∙ sym here ∙ c.in-Some.is) c.loop-i.invariant.0 in
    (c.push_reserved.ensures.items ∙ next, omega arith)
