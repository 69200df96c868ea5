-- The home of an activity: who flies it in a published plan. For src/at_home.rt.
use Rattle.std.specs.Prelude.{ℕ, List, map, position, Option}
use Rattle.std.specs.List.{range_with_len}
use Rattle.tail_book.specs.Seen.{BookSeen, RawPlanSeen}
use Rattle.tail_book.specs.Numbers.{contains}
use Rattle.tail_book.specs.Lookup.{activities}
use Rattle.plan_audit.specs.Kept.{kept}

-- the first aircraft whose route has the activity, or nobody
abbrev pub home_in : List (List ℕ) → ℕ → Option ℕ
home_in routes a = position (λ route. contains route a) routes

-- the home of an activity: the aircraft whose route in the kept plan has it, or nobody; no two routes there have it
abbrev pub home : BookSeen → RawPlanSeen → ℕ → Option ℕ
home book raw a = home_in (kept book raw) a

-- the homes of the book's activities, by number
abbrev pub homes : BookSeen → RawPlanSeen → List (Option ℕ)
homes book raw = map (home book raw) (range_with_len 0 (activities book))
