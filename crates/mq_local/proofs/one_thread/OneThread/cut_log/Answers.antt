use Rattle.mq_local.proofs.KeptLemmas.{kept_cut}
use Rattle.mq_local.proofs.one_thread.OneThread.cut_log.Goals as goal

pub invariant_of-self : goal.invariant_of-self
invariant_of-self g c =
    let within = rw (← c.self.view_is) at c.requires in
    kept_cut _ _ _ _ _ c.self.invariant _ within _ c.cut.new.self _ c.index_mut.ensures.value
    c.in-Ok.ensures.after
