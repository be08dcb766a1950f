use Rattle.std.proofs.Common.{arith}
use Rattle.mq_tree.proofs.FreePages.{free_sum}
use Rattle.mq_arena.proofs.state.ArenaState.lent_pages.Goals as goal

pub returns-clause-blocks : goal.returns-clause-blocks
returns-clause-blocks g c =
    let tree = c.self.inside.tree in
    let all = free_sum tree.height tree.lent c.self.invariant.stocked.lent_set in
    rw (← c.self.view_is) (omega (arith, all, c.pages-all.ensures.value, c.free_pages.ensures.value))
