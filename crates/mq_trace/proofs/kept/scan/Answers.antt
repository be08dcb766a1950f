use Rattle.std.proofs.Common.{◌≡◌, Some, sym, arith, ◌∙◌}
use Rattle.std.specs.List.{slice_get}
use Rattle.mq_trace.proofs.Places.{find_first, find_none}
use Rattle.mq_trace.proofs.kept.scan.Goals as goal

pub returns-then-message-place : goal.returns-then-message-place
returns-then-message-place c =
    let got : slice_get c.args.waiting.now c.loop-i.i ≡ Some c.in_ok-message.message = sym c.get.ensures ∙ c.in_ok-message.was in
    sym (find_first c.args.place c.args.waiting.now c.loop-i.i c.in_ok-message.message got c.if-message-place.true c.loop-i.invariant)

pub returns : goal.returns
returns c = sym (find_none c.args.place c.args.waiting.now (λ k within. c.loop-i.invariant k (omega arith)))
