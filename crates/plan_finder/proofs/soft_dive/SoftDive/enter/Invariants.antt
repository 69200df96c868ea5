use Rattle.std.proofs.Common.{◌≡◌}
use Rattle.plan_finder.proofs.soft_dive.SoftDive.enter.Given as goal

-- the marks stay
abbrev pub invariant-loop-k : goal.invariant-loop-k
invariant-loop-k l = l.self.marks ≡ l.initial.self.marks
