use Rattle.std.proofs.Common.{rules, arith}
use Rattle.std.proofs.lemmas.List.FromFn.{map-range_with_len_more}
use Rattle.mq_table.specs.SlotParts.{empty_kept}
use Rattle.mq_calls.proofs.SlotLemmas.{length_new}
use Rattle.mq_local.proofs.one_thread.fill.Goals as goal

pub push_reserved-requires : goal.push_reserved-requires
push_reserved-requires g c =
    let so_far = length_new c.loop-number.number in
    let same = rw (← c.loop-number.invariant.0) at so_far in
    omega (arith, same, c.loop-number.invariant.1, c.loop-number.auto.number-end, c.loop-number-test.true, c.loop-number.slots.ok.0)

pub loop-number-preserved : goal.loop-number-preserved
loop-number-preserved g c = (
  rw (map-range_with_len_more empty_kept 0 c.loop-number.number c.loop-number.number (omega arith)) (search rules),
  search rules,
)
