-- What a split decides, its two branches, and what is still undecided. For src/laws/branching.rt.
use Rattle.std.specs.Prelude.{ℕ, ◌<◌, ◌⊎◌, List, [], ◌∷◌, ◌++◌, Contains}
use Rattle.tail_book.specs.Seen.{BookSeen}
use Rattle.tail_book.specs.declared.place.Place.TheVariants.{After}
use Rattle.tail_book.specs.Lookup.{activities, aircraft}
use Rattle.branch_marks.specs.declared.fact.Fact.{Fact}
use Rattle.branch_marks.specs.declared.fact.Fact.TheVariants.{Bar, Must, Cut, Tie}
use Rattle.branch_marks.specs.declared.fact.Pair.{Pair}
use Rattle.branch_marks.specs.declared.fact.Pair.TheVariants.{Fly, Link}
use Rattle.branch_marks.specs.Facts.{Holds}
use Rattle.branch_marks.specs.Marks.{IsAlive, IsUsable}

-- the first branch of a split: that the aircraft flies the activity, or that the one activity comes directly after the other
abbrev pub first_branch : Pair → Fact
first_branch (Fly k a) = Must k a
first_branch (Link a b) = Tie a b

-- the second branch: that it does not
abbrev pub second_branch : Pair → Fact
second_branch (Fly k a) = Bar k a
second_branch (Link a b) = Cut a b

-- the numbers in a pair are of the book
abbrev pub IsPairOf : BookSeen → Pair → Type 0
IsPairOf book (Fly k a) = (k < aircraft book) × (a < activities book)
IsPairOf book (Link a b) = (a < activities book) × (b < activities book)

-- the marks leave the pair undecided: the activity is alive for the aircraft, which need not fly it; or some aircraft may use
-- the link, which is neither cut nor tied
abbrev pub IsUndecided : BookSeen → List Fact → Pair → Type 0
IsUndecided book marks (Fly k a) = IsAlive book marks k a × (¬ Contains marks (Must k a))
IsUndecided book marks (Link a b) =
    ((k : ℕ) × (k < aircraft book) × IsUsable book marks k (After a) b) × (¬ Contains marks (Cut a b)) × (¬ Contains marks (Tie a b))

-- an undecided pair is of the book
abbrev pub UndecidedPairsAreOfBook : Type 0
UndecidedPairsAreOfBook = (book : BookSeen) (marks : List Fact) (pair : Pair) → IsUndecided book marks pair → IsPairOf book pair

-- every plan is in one branch of a split, and in one alone
abbrev pub OneBranchHolds : Type 0
OneBranchHolds = (pair : Pair) (plan : List (List ℕ))
    → (Holds (first_branch pair) plan ⊎ Holds (second_branch pair) plan) × (Holds (first_branch pair) plan → ¬ Holds (second_branch pair) plan)

-- a further fact leaves no pair undecided that was not
abbrev pub FactsDecide : Type 0
FactsDecide = (book : BookSeen) (marks : List Fact) (fact : Fact) (pair : Pair) → IsUndecided book (marks ++ fact ∷ []) pair → IsUndecided book marks pair

-- and neither branch leaves its own pair so
abbrev pub BranchesDecide : Type 0
BranchesDecide = (book : BookSeen) (marks : List Fact) (pair : Pair)
    → (¬ IsUndecided book (marks ++ first_branch pair ∷ []) pair) × (¬ IsUndecided book (marks ++ second_branch pair ∷ []) pair)
