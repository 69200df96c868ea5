-- What an activity, a connection and a legal plan cost at most.
use Rattle.std.specs.Prelude.{ℕ, ◌*◌, ◌≤◌, ◌<◌, List}
use Rattle.tail_book.specs.declared.limits.TheConstants.{ACTIVITY_COST_LIMIT, BAND_COST_LIMIT, LEG_COST_LIMIT}
use Rattle.tail_book.specs.Seen.{BookSeen}
use Rattle.tail_book.specs.declared.place.Place.{Place}
use Rattle.tail_book.specs.Lookup.{activities}
use Rattle.tail_book.specs.Cost.{activity_cost, connection_cost, plan_cost}
use Rattle.tail_book.specs.Plan.{IsLegalPlan}
use Rattle.tail_book.specs.inside.Sound.{IsBook}

-- the number that bounds the cost of every legal plan
abbrev pub greatest_cost : BookSeen → ℕ
greatest_cost book = LEG_COST_LIMIT * activities book

-- an activity costs at most 964,000: its minutes at the greatest rate, and the greatest fixed amount
abbrev pub ActivitiesCostAtMost : Type 0
ActivitiesCostAtMost = (book : BookSeen) → IsBook book → (k a : ℕ) → a < activities book → activity_cost book k a ≤ ACTIVITY_COST_LIMIT

-- a connection costs at most a million
abbrev pub ConnectionsCostAtMost : Type 0
ConnectionsCostAtMost = (book : BookSeen) → IsBook book → (k : ℕ) (x : Place) (b : ℕ) → connection_cost book k x b ≤ BAND_COST_LIMIT

-- a legal plan costs at most two million for each activity
abbrev pub LegalPlansCostAtMost : Type 0
LegalPlansCostAtMost = (book : BookSeen) → IsBook book → (plan : List (List ℕ)) → IsLegalPlan book plan → plan_cost book plan ≤ greatest_cost book
