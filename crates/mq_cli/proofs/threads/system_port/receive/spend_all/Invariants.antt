use Rattle.std.proofs.Common.{◌≡◌, ◌+◌, ◌≤◌, ◌++◌, length, map, vec_len, vec_capacity}
use Rattle.mq_cli.specs.Ports.{taken_of}
use Rattle.mq_cli.proofs.threads.system_port.receive.spend_all.Given as goal

-- those that are left follow those that were returned, and there is room for them
abbrev pub invariant-loop-delivered : goal.invariant-loop-delivered
invariant-loop-delivered g l =
    (l.out.items ++ map taken_of l.left.items ≡ map taken_of l.fn.batch.items) × (vec_len l.out + length l.left.items ≤ vec_capacity l.out)

abbrev pub decreases-loop-delivered : goal.decreases-loop-delivered
decreases-loop-delivered g l = length l.left.items
