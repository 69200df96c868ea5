-- Each turn gives up a level.
use Rattle.std.proofs.Common.{length}
use Rattle.pool_plans.proofs.partition.Partition.advance.Given as goal

abbrev pub decreases-loop-level : goal.decreases-loop-level
decreases-loop-level l = length l.self.levels.items
