use Rattle.std.proofs.Common.{length}
use Rattle.mq_arena.proofs.account.+audit.Given as goal

-- the blocks that are left
abbrev pub decreases-audit : goal.decreases-audit
decreases-audit g l = length l.blocks.now
