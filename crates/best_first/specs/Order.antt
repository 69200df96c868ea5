-- When a search by least bound counts which node: the tree and the bounds of its splits leave no choice.
-- For BestTree.antt and src/rank.rt.
use Rattle.std.specs.Prelude.{◌≡◌, ◌+◌, ◌≤◌, ⊤, ℕ, List, [], ◌∷◌, ◌++◌, All, Option, Some, None}
use Rattle.branch_marks.specs.Bound.{bound_of, Passes}
use Rattle.best_first.specs.declared.rank.Rank.{Rank}
use Rattle.best_first.specs.Rank.{IsBefore}

-- that a node was counted: how many were before it, and the cost to undercut, in cost units, as it was left
pub record Count : Type 0 where
  pub number : ℕ
  pub target : ℕ

-- a place of the tree as the order sees it: its rank, and whether a node was counted there
pub record Standing : Type 0 where
  pub rank : Rank
  pub counted : Option Count

-- no node was counted there while there were at most so many
abbrev pub IsUncounted : ℕ → Option Count → Type 0
IsUncounted n None = ⊤
IsUncounted n (Some count) = n ≤ count.number

-- when so many nodes had been counted, the place was open: a node had opened it, and none was counted there
abbrev pub IsOpenAt : ℕ → Standing → Type 0
IsOpenAt n standing = (standing.rank.since ≤ n) × IsUncounted n standing.counted

-- what targets a node leaves to one that is counted later: none that is higher; and to the next one, above whose place the bound
-- leaves room below the target
abbrev pub LeavesTo : Count → Rank → Option Count → Type 0
LeavesTo count rank None = ⊤
LeavesTo count rank (Some other) =
    (count.number ≤ other.number → other.target ≤ count.target) × (other.number ≡ count.number + 1 → ¬ Passes (bound_of rank.bound) count.target)

-- a node that was counted at a place of this rank, beside another place: where that was open too, it does not come before
pub record IsTakenBeside (rank : Rank) (count : Count) (other : Standing) : Type 0 where
  pub first : IsOpenAt count.number other → ¬ IsBefore other.rank rank
  pub leaves : LeavesTo count other.rank other.counted

-- a node that was counted at a place was counted after that was opened, and before none of the places it stands beside
abbrev pub IsTakenAmong : List Standing → Rank → Option Count → Type 0
IsTakenAmong standings rank None = ⊤
IsTakenAmong standings rank (Some count) = (rank.since ≤ count.number) × All (IsTakenBeside rank count) standings

-- each node was counted at the place that came first then
abbrev pub AreInOrder : List Standing → Type 0
AreInOrder standings = All (λ (one : Standing). IsTakenAmong standings one.rank one.counted) standings

-- the numbers of the nodes that were counted
abbrev pub number_of : Option Count → List ℕ
number_of None = []
number_of (Some count) = count.number ∷ []

unfoldable pub numbers_of : List Standing → List ℕ
numbers_of [] = []
numbers_of (one ∷ standings) = number_of one.counted ++ numbers_of standings

-- where a node was counted, its target is at least this
abbrev pub IsOver : ℕ → Option Count → Type 0
IsOver final None = ⊤
IsOver final (Some count) = final ≤ count.target

-- where none was counted, the bound of the node that opened the place reaches the target
abbrev pub IsPruned : ℕ → Rank → Option Count → Type 0
IsPruned final rank None = Passes (bound_of rank.bound) final
IsPruned final rank (Some count) = ⊤
