-- The pair on which a node is split, which one least route for each aircraft decides: it is about the activity and the
-- aircraft that a dive would choose. For src/split_pair.rt.
use Rattle.std.specs.Prelude.{◌≡◌, ℕ, true, List, Contains}
use Rattle.tail_book.specs.Seen.{BookSeen}
use Rattle.tail_book.specs.Plan.{route_of}
use Rattle.branch_marks.specs.declared.fact.Fact.{Fact}
use Rattle.branch_marks.specs.declared.fact.Fact.TheVariants.{Tie}
use Rattle.branch_marks.specs.declared.fact.Pair.{Pair}
use Rattle.branch_marks.specs.declared.fact.Pair.TheVariants.{Fly, Link}
use Rattle.branch_marks.specs.Facts.{directly}
use Rattle.dive_heuristic.specs.Choice.{IsChoice}

-- the pair for aircraft k with this route and activity a: the link into a from the activity directly before it, unless it is
-- tied or there is none, and then that k flies a
abbrev pub IsPairAt : List Fact → List ℕ → ℕ → ℕ → Pair → Type 0
IsPairAt marks route k a (Link x b) = (b ≡ a) × (directly route x a ≡ true) × (¬ Contains marks (Tie x a))
IsPairAt marks route k a (Fly j b) = (j ≡ k) × (b ≡ a) × ((x : ℕ) → directly route x a ≡ true → Contains marks (Tie x a))

-- the pair is the one that these routes choose
pub record IsChosenPair (book : BookSeen) (marks : List Fact) (routes : List (List ℕ)) (pair : Pair) : Type 0 where
  pub carrier : ℕ
  pub activity : ℕ
  pub choice : IsChoice book marks routes carrier activity
  pub at : IsPairAt marks (route_of routes carrier) carrier activity pair
