use Rattle.std.proofs.Common.{◌≤◌, List, length, ap, subst, arith}
use Rattle.std.proofs.lemmas.Bool.Decides.{nat_tests}
use mathlib.Core.List.{IsPrefix}
use Rattle.mq_queue.specs.declared.event.Event.{Event}
use Rattle.mq_board.specs.Histories.{events_of}
use Rattle.mq_board.proofs.Counting.{events_prefix}
use Rattle.mq_board.proofs.Fronts.{prefix_shorter}
use Rattle.mq_board.proofs.snapshot.Snapshot.is_prefix_of.Goals as goal

pub returns-clause-prefix : goal.returns-clause-prefix
returns-clause-prefix c = λ is.
    let mine = c.self.inside.seen.log in
    let theirs = c.other.inside.seen.log in
    let both = c.learn.new.self.log in
    let begins : IsPrefix mine both =
    subst (λ (l : List (List Event)). IsPrefix l both) (ap (λ s. s.log) c.again-both.ensures) c.learn.ensures.2 in
    let few : c.self.inside.count ≤ c.other.inside.count = grind (arith, nat_tests, is) in
    let shorter : length (events_of mine) ≤ length (events_of theirs) =
    omega (arith, few, c.self.invariant.1, c.other.invariant.1) in
    rw (← c.self.view_is, ← c.other.view_is)
    (prefix_shorter (events_of mine) (events_of theirs) (events_of both) (events_prefix mine both begins)
    (events_prefix theirs both c.learn.ensures.3) shorter)
