use Rattle.std.proofs.Common.{◌++◌, Result, Ok, Err, OnOk, arith, rules}
use Rattle.std.proofs.lemmas.Grind.{common_steps}
use Rattle.std.proofs.lemmas.Int.{to_z-of_z}
use Rattle.mq_select.proofs.Counts.{next_above, no_first}
use Rattle.mq_select.proofs.crossing.go_over.Goals as goal

-- what holds anyway, and what holds on success
with_ok : {T E P : Type 0} (Q : Type 0) (r : Result T E) → P → OnOk r Q → OnOk r (P × Q)
with_ok Q (Ok x) p q = (p, q)
with_ok Q (Err e) p q = tt

pub put_prepared-requires : goal.put_prepared-requires
put_prepared-requires g c = record {
  prepared = first_of (search rules, grind (arith, common_steps));
  above = rw c.prepare.ensures.unchanged
      (next_above c.loop-next.index.messages c.loop-next.messages.items (c.args.index.now.messages ++ c.args.messages.now.items) c.pop_front.new.self.items c.unwrap-place.result c.requires.rising c.loop-next.invariant.whole (rw c.unwrap-place.ensures at c.pop_front.ensures.items));
}

pub returns-clause-ok : goal.returns-clause-ok
returns-clause-ok g c =
    with_ok _ c.prepare-2.result (no_first (λ m. m.1.mtype) c.loop-next.messages.items c.in_default.ensures) (simp (to_z-of_z, c.ranges.mtype) at c.prepare-2.ensures.ok)
