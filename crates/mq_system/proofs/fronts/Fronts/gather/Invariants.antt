use Rattle.std.proofs.Common.{◌≤◌, length, vec_capacity}
use Rattle.mq_system.proofs.FrontLemmas.{AreTaken}
use Rattle.mq_system.proofs.fronts.Fronts.gather.Given as goal

-- what was taken so far, and room for the rest
abbrev pub invariant-loop-board : goal.invariant-loop-board
invariant-loop-board g l =
    AreTaken l.fn.place l.board l.rows l.readers.items
    × (length l.fn.rows ≤ vec_capacity l.readers)
