use Rattle.std.proofs.Common.{◌<◌, ◌^◌, ap, subst, arith}
use Rattle.mq_tree.proofs.Powers.{pow_le}
use Rattle.mq_tree.specs.declared.limits.TheConstants.{MAX_HEIGHT}
use Rattle.mq_arena.specs.declared.limits.TheConstants.{LEDGER_PARTS}
use Rattle.mq_arena.proofs.unopened.Unopened.new.Goals as goal

pub returns-clause-parts : goal.returns-clause-parts
returns-clause-parts c =
    subst (λ n. 2 ^ n < LEDGER_PARTS) (ap (λ tree. tree.height) c.tree.view_is)
    (omega (arith, pow_le c.tree.inside.height MAX_HEIGHT c.tree.invariant.tree.low))
