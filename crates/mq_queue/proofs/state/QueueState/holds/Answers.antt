use Rattle.mq_queue.proofs.Keeps.{sound_kept}
use Rattle.mq_queue.proofs.state.QueueState.holds.Goals as goal

pub returns : goal.returns
returns g c = rw (← c.self.view_is) (sound_kept g.B.Body.bytes _ _ _ _ c.self.invariant)
