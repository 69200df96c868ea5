use Rattle.std.proofs.Common.{◌≡◌, ◌++◌, drop}
use Rattle.plan_audit.specs.Kept.{legs_met, legs_from}
use Rattle.plan_audit.proofs.leg.legs_in.Given as goal

-- the legs so far, and those of the names that are left
abbrev pub invariant-loop-name : goal.invariant-loop-name
invariant-loop-name l = legs_met l.met ≡ l.legs.items ++ legs_from l.tail l.from (drop l.name-index l.met)
