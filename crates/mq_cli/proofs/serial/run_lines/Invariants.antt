use Rattle.std.proofs.Common.{◌+◌, ◌≤◌, length}
use Rattle.mq_cli.specs.Lines.{lines_of}
use Rattle.mq_cli.specs.Parts.{lines_left}
use Rattle.mq_cli.specs.Transcript.{run_from}
use Rattle.mq_cli.proofs.Runs.{SoFar}
use Rattle.mq_cli.proofs.serial.run_lines.Given as goal

-- what is written stands before the run of the lines that are left, which are few
abbrev pub invariant-loop-line : goal.invariant-loop-line
invariant-loop-line g l =
    (goal.iterator-loop-line g).can_next l.line-iterator
    × (goal.iterator-loop-line g).is_finite l.line-iterator
    × SoFar (g.W.Write.contents l.fn.writer) (g.W.Write.contents l.writer)
    (run_from 1 l.fn.session (lines_of l.script))
    (run_from (l.number + 1) l.session (lines_left l.line-iterator.rest))
    × (l.number + length (lines_left l.line-iterator.rest) ≤ 1048577)
