-- A tally: for each activity how often routes fly it. For src/tally.rt and src/dive_choice.rt.
use Rattle.std.specs.Prelude.{◌≡◌, ℕ, ◌<◌, ◌+◌, List, length, count_by, nat_eq, slice_index_or}
use Rattle.tail_book.specs.declared.flown.Flown.{Flown}
use Rattle.tail_book.specs.declared.flown.Flown.TheVariants.{Never}
use Rattle.tail_book.specs.inside.Flown.{flown_of_count}

-- the tally has these counts
abbrev pub IsTally : (ℕ → ℕ) → List Flown → Type 0
IsTally times tally = (a : ℕ) → a < length tally → slice_index_or tally a Never ≡ flown_of_count (times a)

-- the counts with a route more
abbrev pub times_with : (ℕ → ℕ) → List ℕ → ℕ → ℕ
times_with times route a = times a + count_by (nat_eq a) route

-- the tally counts a route more
pub record TalliesRoute (old new : List Flown) (route : List ℕ) : Type 0 where
  pub count : length new ≡ length old
  pub each : (times : ℕ → ℕ) → IsTally times old → IsTally (times_with times route) new
