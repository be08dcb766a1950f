use Rattle.std.proofs.Common.{◌∙◌, arith}
use Rattle.mq.proofs.WorkerLemmas.{one_pushed}
use Rattle.mq.proofs.at_seat.leave_seats.Goals as goal

pub loop-at-preserved : goal.loop-at-preserved
loop-at-preserved g c =
    let kept = c.loop-at.invariant in
    let seat = c.push_reserved.ensures in
    let answer = c.push_reserved-in-Some.ensures in (
      one_pushed g.W.Worker.after g.C.Crew.workers c.loop-at.seats.items c.push_reserved.new.self.items c.loop-at.answers.items
          c.push_reserved-in-Some.new.self.items c.leave-seat.result.0 c.leave-seat.result.1 c.len.result seat.items answer.items
          (c.len.ensures ∙ c.loop-at.answers.ok.0) kept.0 c.leave-seat.ensures,
      omega (arith, answer.len, c.in-Some.ensures.cases, kept.1),
      omega (arith, answer.len, seat.len, kept.2),
      omega (arith, seat.capacity, kept.3),
      omega (arith, answer.capacity, kept.4),
    )
