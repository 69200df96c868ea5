-- What the legs of a plan cost, in cost units: together what the kept plan costs.
use Rattle.std.specs.Prelude.{ℕ, ◌+◌, List, sum_by}
use Rattle.tail_book.specs.Seen.{BookSeen}
use Rattle.tail_book.specs.Cost.{activity_cost, connection_cost}
use Rattle.plan_audit.specs.declared.leg.Leg.{Leg}

-- a leg costs what its activity costs, and the connection to it
abbrev pub leg_cost : BookSeen → Leg → ℕ
leg_cost book leg = activity_cost book leg.tail leg.activity + connection_cost book leg.tail leg.from leg.activity

-- legs cost what they cost together
abbrev pub legs_cost : BookSeen → List Leg → ℕ
legs_cost book legs = sum_by (leg_cost book) legs
