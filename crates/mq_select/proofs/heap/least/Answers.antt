use Rattle.std.proofs.Common.{true, refl, arith}
use Rattle.mq_select.proofs.Entries.{root_least, least_of_entry}
use Rattle.mq_select.proofs.heap.least.Goals as goal

pub returns : goal.returns
returns c =
    rw c.place_of_entry.ensures
    (least_of_entry c.args.heap.now.entries (λ _. true) 0 c.len.ensures.unique (root_least c.args.heap.now.entries (λ _. true) c.requires (omega arith) refl))
