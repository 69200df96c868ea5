use Rattle.std.proofs.Common.{◌<◌, ◌≡◌, ℕ, true, get_or}
use Rattle.cert_checker.specs.inside.Leaf.{is_met_in}
use Rattle.cert_checker.proofs.cover.goes_on.Given as goal

-- the ways before the next one are met
abbrev pub invariant-loop-b : goal.invariant-loop-b
invariant-loop-b l = (i : ℕ) → i < l.b-index → is_met_in l.leaf l.from l.weight l.counters (get_or l.b-items i 0) ≡ true
