use Rattle.std.proofs.Common.{◌≡◌, ◌≤◌, length, map, take, vec_len, vec_capacity}
use Rattle.std.specs.List.{range_with_len}
use Rattle.mq_cli.specs.Drafts.{letter}
use Rattle.mq_cli.specs.declared.threads.system_port.TheConstants.{LETTERS}
use Rattle.mq_cli.proofs.threads.system_port.ports_of.Given as goal

-- each seat so far has its port, and there is room for all
abbrev pub invariant-loop-seat : goal.invariant-loop-seat
invariant-loop-seat g l =
    (length l.ports.items ≡ l.seat-index) × (vec_len l.ports ≡ l.seat-index)
    × (l.seat-index-end ≡ length l.fn.seats) × (l.seat-index-end ≤ vec_capacity l.ports)
    × (l.letters ≡ map letter (range_with_len 0 LETTERS))
    × (map (λ port. port.seat.now) l.ports.items ≡ take l.seat-index l.fn.seats)
