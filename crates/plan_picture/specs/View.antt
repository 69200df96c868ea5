-- What a picture shows beside the plan. For src/view.rt.
use Rattle.std.specs.Prelude.{ℕ, Bool, List, Option}

-- the airport whose curfews are drawn, by number, the homes of activities, if a plan was published before, whether each day
-- has a strip of its own, and whether the picture stands on a page of its own
pub record ViewSeen : Type 0 where
  pub airport : Option ℕ
  pub homes : Option (List (Option ℕ))
  pub by_day : Bool
  pub html : Bool
