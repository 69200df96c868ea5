-- The moves of a plan: the activities that another aircraft flies than their home. For plan_repair/src/moved.rt and
-- plan_picture/src/moved.rt.
use Rattle.std.specs.Prelude.{ℕ, ◌+◌, ◌≡◌, Bool, not, List, [], ◌∷◌, All, IsTrue, length, count_by, slice_index_or, Option, None}
use Rattle.tail_book.specs.Seen.{BookSeen}
use Rattle.tail_book.specs.Numbers.{is_none_or}
use Rattle.tail_book.specs.Lookup.{activities, aircraft}
use Rattle.tail_book.specs.inside.Sound.{is_none_or_below}

-- the home of an activity among those of all activities, by number
abbrev pub home_of : List (Option ℕ) → ℕ → Option ℕ
home_of homes a = slice_index_or homes a None

-- aircraft k moves the activity by flying it: its home is another aircraft; what has no home is never moved
abbrev pub is_moved : List (Option ℕ) → ℕ → ℕ → Bool
is_moved homes k a = not (is_none_or (home_of homes a) k)

-- how many activities of its route aircraft k moves
abbrev pub moves_in : List (Option ℕ) → ℕ → List ℕ → ℕ
moves_in homes k route = count_by (is_moved homes k) route

-- the moves of the routes of aircraft k, k + 1 and so on
abbrev pub moves_of_routes : List (Option ℕ) → ℕ → List (List ℕ) → ℕ
moves_of_routes homes k [] = 0
moves_of_routes homes k (route ∷ routes) = moves_in homes k route + moves_of_routes homes (k + 1) routes

-- the moves of a plan
abbrev pub moves : List (Option ℕ) → List (List ℕ) → ℕ
moves homes plan = moves_of_routes homes 0 plan

-- a home for each activity of the book, each nobody or an aircraft of the book
pub record AreHomesFor (book : BookSeen) (homes : List (Option ℕ)) : Type 0 where
  pub one_each : length homes ≡ activities book
  pub in_range : All (λ home. IsTrue (is_none_or_below home (aircraft book))) homes
