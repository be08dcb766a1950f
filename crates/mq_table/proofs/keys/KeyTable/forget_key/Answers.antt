use Rattle.std.proofs.Common.{rules, not}
use Rattle.std.specs.Ordering.{int_eq}
use mir.Val.{SFits}
use mir.Syntax.{w32}
use Rattle.std.proofs.lemmas.Int.{to_z-of_z}
use Rattle.indexmap.proofs.CallerLemmas.{filter-RetainsPairs}
use Rattle.mq_table.proofs.Found.{key_gone, keys_left}
use Rattle.mq_table.proofs.keys.KeyTable.forget_key.Goals as goal

pub invariant_of-self : goal.invariant_of-self
invariant_of-self c =
    let fits : SFits w32 c.args.key = search rules in
    let left = filter-RetainsPairs _ (λ p. not (int_eq p.0 c.args.key)) _
    (λ k v b w g call. simp to_z-of_z (search rules)) _ _ c.retain.ensures.filtered in
    keys_left _ _ _ c.self.invariant left c.retain.ensures.unique

pub returns-clause-left : goal.returns-clause-left
returns-clause-left c =
    let fits : SFits w32 c.args.key = search rules in
    let left = filter-RetainsPairs _ (λ p. not (int_eq p.0 c.args.key)) _
    (λ k v b w g call. simp to_z-of_z (search rules)) _ _ c.retain.ensures.filtered in
    rw (← c.self.view_is) (cc (left))

pub returns-clause-absent : goal.returns-clause-absent
returns-clause-absent c =
    rw (returns-clause-left c) (key_gone _ c.args.key)
