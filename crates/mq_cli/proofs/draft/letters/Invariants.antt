use Rattle.std.proofs.Common.{◌≡◌, ◌*◌, map}
use Rattle.std.specs.List.{range_with_len}
use Rattle.mq_cli.specs.Drafts.{letter}
use Rattle.mq_cli.proofs.draft.letters.Given as goal

abbrev pub invariant-loop : goal.invariant-loop
invariant-loop l = l.letters.items ≡ map letter (range_with_len 0 (26 * l.counter))
