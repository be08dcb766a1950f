use Rattle.mq_select.proofs.Nodes.{cut_out}
use Rattle.mq_select.proofs.queue.taken_at.Goals as goal

pub returns-clause-rest : goal.returns-clause-rest
returns-clause-rest g c =
    let joined = c.in-Ok-append.ensures.items in
    let front = c.in-Ok.ensures.items in
    let tail = c.in-Ok.ensures.tail in
    let rest = c.pop_front.ensures.rest in
    rw (joined, front, rest, tail) (cut_out c.args.nodes.now c.args.index)
