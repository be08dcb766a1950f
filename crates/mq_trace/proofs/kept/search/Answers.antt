use Rattle.std.proofs.Common.{◌≡◌, ◌+◌, ◌-◌, ◌/◌, ◌<◌, Some, sym, arith, ◌∙◌}
use Rattle.std.specs.List.{slice_get}
use Rattle.mq_trace.specs.Walk.{place_in}
use Rattle.mq_trace.proofs.Places.{above_middle, below_middle, first_in, greater_of, none_between, place_got}
use Rattle.mq_trace.proofs.kept.search.Goals as goal

pub returns-then-message-place : goal.returns-then-message-place
returns-then-message-place c =
    let inv = c.loop-low.invariant in
    let got : slice_get c.args.waiting.now (c.loop-low.low + (c.loop-low.high - c.loop-low.low) / 2) ≡ Some c.in_ok-message.message =
    sym c.get.ensures ∙ c.in_ok-message.was in
    sym (first_in c.args.place c.args.waiting.now (c.loop-low.low + (c.loop-low.high - c.loop-low.low) / 2) c.in_ok-message.message c.requires got c.if-message-place.true)

pub loop-low-preserved-then-message-place-2 : goal.loop-low-preserved-then-message-place-2
loop-low-preserved-then-message-place-2 c =
    let inv = c.loop-low.invariant in
    let got : slice_get c.args.waiting.now (c.loop-low.low + (c.loop-low.high - c.loop-low.low) / 2) ≡ Some c.in_ok-message.message =
    sym c.get.ensures ∙ c.in_ok-message.was in
    let at : place_in c.args.waiting.now (c.loop-low.low + (c.loop-low.high - c.loop-low.low) / 2) ≡ c.in_ok-message.message.place =
    place_got c.args.waiting.now (c.loop-low.low + (c.loop-low.high - c.loop-low.low) / 2) c.in_ok-message.message got in (
      omega arith,
      inv.1,
      below_middle c.args.waiting.now (c.loop-low.low + (c.loop-low.high - c.loop-low.low) / 2) c.args.place c.requires (omega arith) (omega arith),
      inv.3,
    )

pub loop-low-preserved : goal.loop-low-preserved
loop-low-preserved c =
    let inv = c.loop-low.invariant in
    let got : slice_get c.args.waiting.now (c.loop-low.low + (c.loop-low.high - c.loop-low.low) / 2) ≡ Some c.in_ok-message.message =
    sym c.get.ensures ∙ c.in_ok-message.was in
    let at : place_in c.args.waiting.now (c.loop-low.low + (c.loop-low.high - c.loop-low.low) / 2) ≡ c.in_ok-message.message.place =
    place_got c.args.waiting.now (c.loop-low.low + (c.loop-low.high - c.loop-low.low) / 2) c.in_ok-message.message got in
    let other = c.if-message-place.false in
    let greater : c.args.place < c.in_ok-message.message.place = greater_of _ _ c.if-message-place-2.false other in (
      omega arith,
      omega arith,
      inv.2,
      above_middle c.args.waiting.now (c.loop-low.low + (c.loop-low.high - c.loop-low.low) / 2) c.args.place c.requires (omega arith),
    )

pub returns : goal.returns
returns c =
    let inv = c.loop-low.invariant in
    sym (none_between c.args.place c.args.waiting.now c.loop-low.low c.loop-low.high (omega arith) inv.2 inv.3)
