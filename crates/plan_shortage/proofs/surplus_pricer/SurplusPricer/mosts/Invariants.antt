use Rattle.std.proofs.Common.{◌≡◌, ◌<◌, ℕ, length}
use Rattle.plan_shortage.specs.Shortage.{IsMost, most_of}
use Rattle.plan_shortage.specs.inside.Pricing.{IsSurplusPricerOf}
use Rattle.plan_shortage.proofs.surplus_pricer.SurplusPricer.mosts.Given as goal

-- the mosts of the aircraft before k are found
abbrev pub invariant-loop-k : goal.invariant-loop-k
invariant-loop-k l = record {
  count : length l.mosts.items ≡ l.k;
  each : (j : ℕ) → j < l.k → IsMost l.book j l.asked l.brought (most_of l.mosts.items j);
  kept : IsSurplusPricerOf l.book l.self;
}
