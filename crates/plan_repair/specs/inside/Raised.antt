-- Costs with each move raised: a table, and what plans cost by it. For src/raised.rt.
use Rattle.std.specs.Prelude.{ℕ, ◌+◌, ◌*◌, ◌≡◌, List, [], map, cond, replicate, Option}
use Rattle.std.specs.List.{flat_map, range_with_len}
use Rattle.tail_book.specs.Seen.{BookSeen}
use Rattle.tail_book.specs.TableSeen.{CostTableSeen}
use Rattle.tail_book.specs.Lookup.{activities, aircraft}
use Rattle.tail_book.specs.Plan.{IsLegalPlan}
use Rattle.tail_book.specs.CostTable.{IsTableFor, activity_cost_in, plan_cost_in}
use Rattle.plan_homes.specs.Moves.{is_moved, moves}

-- what an activity costs aircraft k where each move costs so much beside
abbrev pub raised_cost : CostTableSeen → List (Option ℕ) → ℕ → ℕ → ℕ → ℕ
raised_cost table homes raise k a = activity_cost_in table k a + cond (is_moved homes k a) raise 0

-- the same of each activity, in the table's order
abbrev pub raised_costs : CostTableSeen → List (Option ℕ) → ℕ → ℕ → List ℕ
raised_costs table homes raise k = map (raised_cost table homes raise k) (range_with_len 0 table.n)

-- the table with each move raised by so much; connections cost what they cost
abbrev pub raised : CostTableSeen → List (Option ℕ) → ℕ → CostTableSeen
raised table homes raise = record {
  n = table.n;
  m = table.m;
  fly = flat_map (raised_costs table homes raise) (range_with_len 0 table.m);
  bands = table.bands;
  fly_max = table.fly_max + raise;
  band_max = table.band_max;
}

-- a table for the book by which nothing costs anything
abbrev pub no_costs : BookSeen → CostTableSeen
no_costs book = record {
  n = activities book;
  m = aircraft book;
  fly = replicate (activities book * aircraft book) 0;
  bands = [];
  fly_max = 0;
  band_max = 0;
}

-- by the raised table a legal plan costs what it cost, and so much for each move
abbrev pub RaisedPlansCost : Type 0
RaisedPlansCost = (book : BookSeen) (table : CostTableSeen) (homes : List (Option ℕ)) (raise : ℕ) → IsTableFor book table
    → (plan : List (List ℕ)) → IsLegalPlan book plan → plan_cost_in (raised table homes raise) book plan ≡ plan_cost_in table book plan + raise * moves homes plan
