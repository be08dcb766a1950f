use Rattle.std.proofs.Common.{◌≡◌}
use Rattle.std.specs.List.{list_all}
use Rattle.mq_cli.specs.Commands.{is_filled}
use Rattle.mq_cli.specs.Lines.{words_of}
use Rattle.mq_cli.specs.Parts.{parts_left}
use Rattle.mq_cli.proofs.form.are_filled.Given as goal

-- all words are filled where those are that are still to come
abbrev pub invariant-loop-word : goal.invariant-loop-word
invariant-loop-word l =
    (goal.iterator-loop-word).can_next l.word-iterator
    × (goal.iterator-loop-word).is_finite l.word-iterator
    × (list_all is_filled (words_of l.line) ≡ list_all is_filled (parts_left 32 l.word-iterator.rest))
