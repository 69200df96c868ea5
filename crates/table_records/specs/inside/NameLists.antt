-- Lists of names in their grammar, not too long.
use Rattle.std.specs.Prelude.{ℕ, List, length, ◌≤◌}
use Rattle.std.specs.List.{AllPass}
use Rattle.tail_book.specs.Name.{is_name}

-- names in their grammar, and no more than so many
pub record AreNames (limit : ℕ) (names : List (List ℕ)) : Type 0 where
  pub grammar : AllPass is_name names
  pub few : length names ≤ limit
