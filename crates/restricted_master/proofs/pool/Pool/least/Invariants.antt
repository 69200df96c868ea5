use Rattle.std.proofs.Common.{◌≡◌, ◌-◌, drop, length}
use Rattle.branch_marks.specs.Pool.{least_in}
use Rattle.restricted_master.proofs.pool.Pool.least.Given as goal

-- the routes from the end so far
abbrev pub invariant-loop-behind : goal.invariant-loop-behind
invariant-loop-behind l = l.least ≡ least_in l.table l.book l.duals.values l.k (drop (length l.self.entries - l.behind) l.self.entries)
