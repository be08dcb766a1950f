use Rattle.mq_select.proofs.index.IndexWaitingWaiting.pop_any.Goals as goal
use Rattle.mq_select.proofs.index.IndexWaitingWaiting.pop_any.Goals.{in-Few, in-Many}

pub returns-clause-some : goal.returns-clause-some
returns-clause-some g c = elim c.match-self.branch [
  | in-Few w ↦ rw (w.result-is, w.self-inside-is, ← c.self.view_is, w.in-Few.is) w.pop_any.ensures.some
  | in-Many w ↦ rw (w.result-is, w.self-inside-is, ← c.self.view_is, w.in-Many.is) w.pop_any-in-Many.ensures.some
]
