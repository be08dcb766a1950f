use Rattle.std.proofs.Common.{◌≤◌, length}
use Rattle.std.specs.Io.KnownBytes.{Consumes}
use Rattle.mq_cli.specs.declared.limits.TheConstants.{SCRIPT_LIMIT}
use Rattle.mq_cli.proofs.script.read_script.Given as goal

-- what was read so far is the script so far, which is within the limit
abbrev pub invariant-loop : goal.invariant-loop
invariant-loop g l =
    Consumes (g.R.Read.remaining l.initial.reader) (g.R.Read.remaining l.reader) l.script.items
    × (length l.script.items ≤ SCRIPT_LIMIT)
