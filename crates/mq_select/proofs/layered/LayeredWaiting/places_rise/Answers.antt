use Rattle.mq_select.proofs.Counts.{pairs_rise}
use Rattle.mq_select.proofs.layered.LayeredWaiting.places_rise.Goals as goal

pub returns : goal.returns
returns g c = rw (← c.self.view_is) (pairs_rise _ c.self.invariant.rising)
