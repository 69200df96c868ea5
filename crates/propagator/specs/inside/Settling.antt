-- What is told of marks while the facts are added that follow for one aircraft from its floors.
-- For src/settled_aircraft.rt, src/dead_ends.rt and others.
use Rattle.std.specs.Prelude.{ℕ, ◌≡◌, ◌≢◌, ◌<◌, true, List}
use Rattle.tail_book.specs.Seen.{BookSeen}
use Rattle.tail_book.specs.Lookup.{activities}
use Rattle.branch_marks.specs.declared.fact.Fact.{Fact}
use Rattle.branch_marks.specs.MarkTests.{is_alive}
use Rattle.branch_marks.specs.Following.{IsDead}
use Rattle.branch_marks.specs.Floors.{floors}
use Rattle.floor_rows.specs.inside.FloorRow.{FloorRowSeen}
use Rattle.propagator.specs.inside.Rows.{floors_in}
use Rattle.propagator.specs.inside.SameFor.{SameFor}

-- new marks that leave all but aircraft k the same, and make nothing alive for k
pub record ActsOn (book : BookSeen) (k : ℕ) (old new : List Fact) : Type 0 where
  pub others : (j : ℕ) → j ≢ k → SameFor book j old new
  pub fewer : (a : ℕ) → is_alive book new k a ≡ true → is_alive book old k a ≡ true

-- nothing is dead for aircraft k
abbrev pub IsSettledFor : BookSeen → List Fact → ℕ → Type 0
IsSettledFor book marks k = (a : ℕ) → a < activities book → ¬ IsDead book marks k a

-- nothing is dead for aircraft k, and its row has its floors
pub record StandsFor (book : BookSeen) (marks : List Fact) (rows : List FloorRowSeen) (k : ℕ) : Type 0 where
  pub settled : IsSettledFor book marks k
  pub floors : floors_in rows k ≡ floors book marks k

-- and so for each aircraft below n
abbrev pub StandBelow : BookSeen → List Fact → List FloorRowSeen → ℕ → Type 0
StandBelow book marks rows n = (k : ℕ) → k < n → StandsFor book marks rows k
