-- What floors keep to, however they are made. For src/laws/consequences.rt.
use Rattle.std.specs.Prelude.{ℕ, ℤ, ◌≡◌, ◌<◌, ◌≤◌, List, Option, None, length, slice_index_or}
use Rattle.tail_book.specs.Seen.{BookSeen}
use Rattle.branch_marks.specs.declared.fact.Fact.{Fact}
use Rattle.branch_marks.specs.Floors.{lesser_floor, floor_by, floors_below}

-- the law of lesser floors: they may be taken in any order
pub record LesserInAnyOrder : Type 0 where
  pub grouped : (one two three : Option (List ℤ)) → lesser_floor (lesser_floor one two) three ≡ lesser_floor one (lesser_floor two three)
  pub turned : (one other : Option (List ℤ)) → lesser_floor one other ≡ lesser_floor other one

-- the law of floors in turn: each is made of those before it, and stays as it is while further ones are made
pub record FloorsComeInTurn (book : BookSeen) (marks : List Fact) (k : ℕ) : Type 0 where
  pub count : (n : ℕ) → length (floors_below book marks k n) ≡ n
  pub made : (n b : ℕ) → b < n → slice_index_or (floors_below book marks k n) b None ≡ floor_by book marks k b (floors_below book marks k b)
  pub kept : (n b x : ℕ) → x < b → b ≤ n → slice_index_or (floors_below book marks k n) x None ≡ slice_index_or (floors_below book marks k b) x None
