use Rattle.std.proofs.Common.{◌≡◌, ◌++◌}
use Rattle.mq_message.specs.Waiting.{headers_of}
use Rattle.mq_select.specs.Queue.{in_nodes}
use Rattle.mq_select.proofs.queue.add_nodes.Given as goal

abbrev pub invariant-loop-node : goal.invariant-loop-node
invariant-loop-node g l =
    l.headers.items ++ headers_of g.B.Body.bytes (in_nodes l.rest) ≡ l.initial.headers.items ++ headers_of g.B.Body.bytes (in_nodes l.nodes)
