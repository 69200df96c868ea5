-- Marks that leave an aircraft the same: activities, links and ends, and so its floors and what is dead for it.
-- For src/laws.rt.
use Rattle.std.specs.Prelude.{ℕ, ◌≡◌, ◌≢◌, ◌++◌, false, List, [], ◌∷◌}
use Rattle.tail_book.specs.Seen.{BookSeen}
use Rattle.tail_book.specs.declared.place.Place.{Place}
use Rattle.branch_marks.specs.declared.fact.Fact.{Fact}
use Rattle.branch_marks.specs.declared.fact.Fact.TheVariants.{Bar, Must}
use Rattle.branch_marks.specs.MarkTests.{is_alive, is_usable, may_end}
use Rattle.branch_marks.specs.Floors.{floors}
use Rattle.branch_marks.specs.Following.{IsDead}

-- both lists of marks leave aircraft k the same activities, links and ends
pub record SameFor (book : BookSeen) (k : ℕ) (old new : List Fact) : Type 0 where
  pub alive : (a : ℕ) → is_alive book new k a ≡ is_alive book old k a
  pub usable : (x : Place) (b : ℕ) → is_usable book new k x b ≡ is_usable book old k x b
  pub ends : (x : Place) → may_end new k x ≡ may_end old k x

-- then its floors are the same
abbrev pub SameFloors : Type 0
SameFloors = (book : BookSeen) (k : ℕ) (old new : List Fact) → SameFor book k old new → floors book new k ≡ floors book old k

-- and nothing new is dead for it
abbrev pub SameDead : Type 0
SameDead = (book : BookSeen) (k : ℕ) (old new : List Fact) → SameFor book k old new → (a : ℕ) → IsDead book new k a → IsDead book old k a

-- a Bar of one aircraft leaves every other the same
abbrev pub BarsLeaveOthers : Type 0
BarsLeaveOthers = (book : BookSeen) (marks : List Fact) (k a j : ℕ) → j ≢ k → SameFor book j marks (marks ++ Bar k a ∷ [])

-- and so does a Must, where its activity was not alive for the other
abbrev pub MustsLeaveOthers : Type 0
MustsLeaveOthers = (book : BookSeen) (marks : List Fact) (k a j : ℕ) → j ≢ k → is_alive book marks j a ≡ false
    → SameFor book j marks (marks ++ Must k a ∷ [])
