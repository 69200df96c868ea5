use Rattle.std.proofs.Common.{◌≡◌, ◌<◌, ℕ, suc}
use Rattle.std.specs.Prelude.{Contains, slice_index_or}
use Rattle.branch_marks.specs.declared.fact.Fact.TheVariants.{Tie}
use Rattle.node_leaves.proofs.split_pair.pair_at.Given as goal

-- what came directly before the activity so far is tied to it
abbrev pub invariant-loop-i : goal.invariant-loop-i
invariant-loop-i l = (j : ℕ) → suc j < l.i → slice_index_or l.route (suc j) 0 ≡ l.a → Contains l.marks.facts (Tie (slice_index_or l.route j 0) l.a)
