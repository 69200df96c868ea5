use Rattle.std.proofs.Common.{[], ◌∷◌}
use Rattle.node_leaves.specs.Place.{root}
use Rattle.node_leaves.specs.Target.{no_target}
use Rattle.branch_tree.proofs.UsedDives.{counted_used}
use Rattle.branch_tree.proofs.laws.dives_are_used.Goals as goal

pub returns : goal.returns
returns c = λ table book limit outcome tree is. counted_used table book is.final (root book ∷ []) tree.counted is.left (no_target table) is.grown is.falls
