use Rattle.std.proofs.Common.{◌≡◌, ◌+◌, ◌≤◌, [], length}
use Rattle.mq_cli.specs.Lines.{lines_of}
use Rattle.mq_cli.specs.Parts.{lines_left}
use Rattle.mq_cli.specs.Recording.{recorded_from, recording}
use Rattle.mq_cli.proofs.serial.record.record_lines.Given as goal

-- the lines leave what was recorded so far and the lines that are left leave, which are few
abbrev pub invariant-loop-line : goal.invariant-loop-line
invariant-loop-line g l =
    (goal.iterator-loop-line g).can_next l.line-iterator
    × (goal.iterator-loop-line g).is_finite l.line-iterator
    × (recorded_from 1 (recording l.fn.session []) (lines_of l.script)
    ≡ recorded_from (l.number + 1) (recording l.session l.refusals.items) (lines_left l.line-iterator.rest))
    × (l.number + length (lines_left l.line-iterator.rest) ≤ 1048577)
