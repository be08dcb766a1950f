use Rattle.std.proofs.Common.{rules, not, ◌==◌}
use Rattle.indexmap.proofs.CallerLemmas.{filter-RetainsPairs}
use Rattle.mq_table.proofs.Found.{keys_left}
use Rattle.mq_table.proofs.keys.KeyTable.forget.Goals as goal

pub invariant_of-self : goal.invariant_of-self
invariant_of-self c =
    let left = filter-RetainsPairs _ (λ p. not (p.1 == c.args.id)) _
    (λ k v b w g call. search rules) _ _ c.retain.ensures.filtered in
    keys_left _ _ _ c.self.invariant left c.retain.ensures.unique

pub returns : goal.returns
returns c =
    let left = filter-RetainsPairs _ (λ p. not (p.1 == c.args.id)) _
    (λ k v b w g call. search rules) _ _ c.retain.ensures.filtered in
    rw (← c.self.view_is) (cc (left))
