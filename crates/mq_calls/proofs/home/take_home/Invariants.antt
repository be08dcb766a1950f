use Rattle.std.proofs.Common.{◌≡◌, length}
use Rattle.mq_calls.specs.Texts.{spends_all}
use Rattle.mq_calls.proofs.home.take_home.Given as goal

abbrev pub decreases-loop-message : goal.decreases-loop-message
decreases-loop-message g l = length (g.W.Waiting.messages l.waiting)

-- once all that is left is freed, all that was pending is
abbrev pub invariant-loop-message : goal.invariant-loop-message
invariant-loop-message g l =
    spends_all (g.W.Waiting.messages l.waiting) l.arena
    ≡ spends_all (g.W.Waiting.messages l.initial.waiting) l.initial.arena
