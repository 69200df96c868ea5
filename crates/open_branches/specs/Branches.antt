-- The open branches of a tree as they are kept: the marks of a node, and of each branch behind it a front of them and a fact.
-- For src/branches.rt.
use Rattle.std.specs.Prelude.{◌≡◌, ◌≤◌, ⊤, List, [], ◌∷◌, ◌++◌, true, false, length, take, reverse, if◌then◌else◌}
use Rattle.tail_book.specs.Seen.{BookSeen}
use Rattle.branch_marks.specs.Branches.{first_branch, second_branch}
use Rattle.branch_marks.specs.Facts.{IsFactOf}
use Rattle.branch_marks.specs.declared.fact.Fact.{Fact}
use Rattle.branch_marks.specs.declared.fact.Pair.{Pair}
use Rattle.branch_marks.specs.Undecided.{is_undecided}
use Rattle.branch_marks.specs.FactTests.{has_fact}
use Rattle.branch_marks.specs.inside.MarkTables.{AreMarksOf}
use Rattle.open_branches.specs.declared.branches.Branches.{Branches}
use Rattle.open_branches.specs.declared.branches.Owed.{Owed}

-- the marks of the branches behind a node with these facts, the next one first
abbrev pub owed_behind : List Fact → List Owed → List (List Fact)
owed_behind facts [] = []
owed_behind facts (owed ∷ more) = (take owed.count facts ++ owed.fact ∷ []) ∷ owed_behind (take owed.count facts) more

-- the marks of what is owed behind the node, and with the node itself where it is owed
abbrev pub behind_of : Branches → List (List Fact)
behind_of branches = owed_behind branches.marks.facts (reverse branches.behind.items)

abbrev pub owed_of : Branches → List (List Fact)
owed_of branches = if branches.owes then branches.marks.facts ∷ behind_of branches else behind_of branches

-- each branch begins with a front of the facts of the one before it, and its own fact is of the book and not among them
abbrev pub AreBehind : BookSeen → List Fact → List Owed → Type 0
AreBehind book facts [] = ⊤
AreBehind book facts (owed ∷ more) =
    (owed.count ≤ length facts) × IsFactOf book owed.fact × (has_fact (take owed.count facts) owed.fact ≡ false) × AreBehind book (take owed.count facts) more

-- what open branches keep
pub record AreBranchesOf (book : BookSeen) (branches : Branches) : Type 0 where
  pub marks : AreMarksOf book branches.marks
  pub behind : AreBehind book branches.marks.facts (reverse branches.behind.items)

-- both facts are of the book, and neither is among the marks
pub record AreNewFacts (book : BookSeen) (marks : List Fact) (first second : Fact) : Type 0 where
  pub first_of_book : IsFactOf book first
  pub second_of_book : IsFactOf book second
  pub first_new : has_fact marks first ≡ false
  pub second_new : has_fact marks second ≡ false

-- the branches of an undecided pair are
abbrev pub BranchesAreNew : Type 0
BranchesAreNew = (book : BookSeen) (marks : List Fact) (pair : Pair) → is_undecided book marks pair ≡ true
    → AreNewFacts book marks (first_branch pair) (second_branch pair)
