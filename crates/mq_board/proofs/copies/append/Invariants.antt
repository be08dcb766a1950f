use Rattle.std.proofs.Common.{◌≡◌, [], drop}
use Rattle.mq_board.proofs.copies.append.Given as goal

-- what is to be shown is what was passed in, and is not appended yet
abbrev pub invariant-loop : goal.invariant-loop
invariant-loop g l =
    (goal.iterator-loop g).can_next l.iterator' × (goal.iterator-loop g).is_finite l.iterator'
    × (l.next ≡ l.fn.next) × (l.pair.desk ≡ l.initial.pair.desk)
    × (drop l.pair.behind l.pair.log.items ≡ [])
