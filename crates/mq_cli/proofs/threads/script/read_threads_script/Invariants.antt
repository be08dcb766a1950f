use Rattle.std.proofs.Common.{◌≡◌, ◌+◌, ◌≤◌, length}
use Rattle.mq_cli.specs.Parts.{lines_left}
use Rattle.mq_cli.specs.ThreadsParsed.{wanted_seen}
use Rattle.mq_cli.specs.ThreadsScript.{wanted_from, wanted_of}
use Rattle.mq_cli.proofs.WantedLemmas.{IsSmall}
use Rattle.mq_cli.proofs.threads.script.read_threads_script.Given as goal

-- what the script asks for is what was read and what the lines that are left ask for, which are few
abbrev pub invariant-loop-line : goal.invariant-loop-line
invariant-loop-line l =
    (goal.iterator-loop-line).can_next l.line-iterator
    × (goal.iterator-loop-line).is_finite l.line-iterator
    × (wanted_of l.script ≡ wanted_from (l.number + 1) (wanted_seen l.wanted) (lines_left l.line-iterator.rest))
    × (l.number + length (lines_left l.line-iterator.rest) ≤ 1048577)
    × IsSmall l.number (wanted_seen l.wanted)
