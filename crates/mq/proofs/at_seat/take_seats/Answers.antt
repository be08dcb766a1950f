use Rattle.std.proofs.Common.{◌≡◌, ◌∷◌, Some, slice_get, arith, rules}
use Rattle.mq.proofs.WorkerLemmas.{last_is, others_are}
use Rattle.mq.proofs.at_seat.take_seats.Goals as goal

pub invariant_of-push_reserved : goal.invariant_of-push_reserved
invariant_of-push_reserved g c =
    let kept = c.loop-worker.invariant in
    let left = c.pop.new.self in
    let told : slice_get g.C.Crew.workers c.len.result ≡ Some c.in-Some.worker =
    rw (c.len.ensures, left.ok.0)
    (last_is g.C.Crew.workers c.loop-worker.workers.items left.items kept.0.0 c.in-Some.worker c.in-Some.ensures.items kept.0.1) in
    search (rules, told)

pub loop-worker-preserved : goal.loop-worker-preserved
loop-worker-preserved g c =
    let kept = c.loop-worker.invariant in
    let pushed = c.push_reserved.ensures in (
      (
        c.in-Some.worker ∷ kept.0.0,
        others_are g.C.Crew.workers c.loop-worker.workers.items c.pop.new.self.items kept.0.0 c.in-Some.worker c.in-Some.ensures.items kept.0.1,
      ),
      omega (arith, c.in-Some.ensures.cases, c.in-Some-pop.ensures.cases, kept.1),
      omega (arith, c.in-Some-pop.ensures.capacity, kept.2),
      omega (arith, pushed.len, c.in-Some.ensures.cases, kept.3),
      omega (arith, pushed.capacity, kept.4),
    )
