use Rattle.std.proofs.Common.{◌≡◌, length}
use Rattle.mq_arena.proofs.state.ArenaState.unload.Given as goal

abbrev pub decreases-loop-block : goal.decreases-loop-block
decreases-loop-block g l = length l.magazine

abbrev pub invariant-loop-block : goal.invariant-loop-block
invariant-loop-block g l = l.self.height ≡ l.fn.self.height
