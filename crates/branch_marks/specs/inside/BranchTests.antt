-- Undecided pairs as a test, and how many of them marks leave: the measure by which a search ends.
-- For src/laws/branching.rt.
use Rattle.std.specs.Prelude.{ℕ, ◌+◌, ◌<◌, ◌≤◌, List, [], ◌∷◌, ◌++◌, Bool, true, false}
use Rattle.std.specs.Bool.{Decides}
use Rattle.tail_book.specs.Seen.{BookSeen}
use Rattle.tail_book.specs.Lookup.{activities, aircraft}
use Rattle.branch_marks.specs.declared.fact.Fact.{Fact}
use Rattle.branch_marks.specs.declared.fact.Pair.{Pair}
use Rattle.branch_marks.specs.declared.fact.Pair.TheVariants.{Fly, Link}
use Rattle.branch_marks.specs.Below.{count_below}
use Rattle.branch_marks.specs.Branches.{first_branch, second_branch, IsUndecided}
use Rattle.branch_marks.specs.Undecided.{is_undecided}

-- the test is true exactly where they do
abbrev pub UndecidedDecides : Type 0
UndecidedDecides = (book : BookSeen) (marks : List Fact) (pair : Pair) → Decides (is_undecided book marks pair) (IsUndecided book marks pair)

-- 1 where the test is true, and else 0
abbrev pub one_if : Bool → ℕ
one_if true = 1
one_if false = 0

-- how many pairs of an aircraft and an activity, and how many of two activities, are undecided
abbrev pub undecided_flights : BookSeen → List Fact → ℕ
undecided_flights book marks = count_below (λ k. count_below (λ a. one_if (is_undecided book marks (Fly k a))) (activities book)) (aircraft book)

abbrev pub undecided_links : BookSeen → List Fact → ℕ
undecided_links book marks = count_below (λ a. count_below (λ b. one_if (is_undecided book marks (Link a b))) (activities book)) (activities book)

-- how many of the book's pairs the marks leave undecided
abbrev pub undecided : BookSeen → List Fact → ℕ
undecided book marks = undecided_flights book marks + undecided_links book marks

-- a further fact leaves no more of them
abbrev pub FactsLeaveNoMore : Type 0
FactsLeaveNoMore = (book : BookSeen) (marks : List Fact) (fact : Fact) → undecided book (marks ++ fact ∷ []) ≤ undecided book marks

-- and each branch of a split on an undecided pair leaves fewer
abbrev pub BranchesLeaveFewer : Type 0
BranchesLeaveFewer = (book : BookSeen) (marks : List Fact) (pair : Pair) → IsUndecided book marks pair
    → (undecided book (marks ++ first_branch pair ∷ []) < undecided book marks) × (undecided book (marks ++ second_branch pair ∷ []) < undecided book marks)
