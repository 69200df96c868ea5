-- Aircraft that are asked in turn about a link. For src/laws.rt.
use Rattle.std.specs.Prelude.{ℕ, ◌≡◌, ◌<◌, ◌≤◌, List, Bool, true, false}
use Rattle.tail_book.specs.Seen.{BookSeen}
use Rattle.tail_book.specs.declared.place.Place.TheVariants.{After}
use Rattle.tail_book.specs.Lookup.{aircraft}
use Rattle.branch_marks.specs.declared.fact.Fact.{Fact}
use Rattle.branch_marks.specs.Following.{CannotGoBy}
use Rattle.branch_marks.specs.Marks.{IsUsable}
use Rattle.branch_marks.specs.MarkTests.{is_alive}
use Rattle.floor_rows.specs.inside.LeastOver.{floor_of}

-- the aircraft below n have been asked: whether one may use the link, and that none of them goes on
pub record AreAsked (book : BookSeen) (marks : List Fact) (a b n : ℕ) (used : Bool) : Type 0 where
  pub some : used ≡ true → (k : ℕ) × (k < aircraft book) × IsUsable book marks k (After a) b
  pub none : used ≡ false → (k : ℕ) → k < n → ¬ IsUsable book marks k (After a) b
  pub dead : (k : ℕ) → k < n → IsUsable book marks k (After a) b → CannotGoBy book k a b (floor_of book marks k a)

-- the law of asking: at first nobody has been asked, and who is not alive at the first activity need not be
pub record AskingPassesOver (book : BookSeen) (marks : List Fact) (a b : ℕ) : Type 0 where
  pub nobody : AreAsked book marks a b 0 false
  pub over : (n m : ℕ) (used : Bool) → ((k : ℕ) → n ≤ k → k < m → is_alive book marks k a ≡ false)
      → AreAsked book marks a b n used → AreAsked book marks a b m used
