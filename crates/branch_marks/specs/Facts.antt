-- Branching facts: what each says of a plan. Marks are a list of these, and hold of a plan where each of them does.
-- For src/alive_rows.rt, src/carriers.rt and others.
use Rattle.std.specs.Prelude.{◌≡◌, ◌<◌, ℕ, List, [], ◌∷◌, All, Bool, true, false, ◌&&◌, ◌||◌, nat_eq}
use Rattle.std.specs.List.{list_any}
use Rattle.tail_book.specs.Seen.{BookSeen}
use Rattle.tail_book.specs.Numbers.{contains}
use Rattle.tail_book.specs.Lookup.{activities, aircraft}
use Rattle.tail_book.specs.Plan.{route_of}
use Rattle.branch_marks.specs.declared.fact.Fact.{Fact}
use Rattle.branch_marks.specs.declared.fact.Fact.TheVariants.{Bar, Must, Cut, Tie}

-- the route begins with b
abbrev pub begins : List ℕ → ℕ → Bool
begins [] b = false
begins (a ∷ rest) b = nat_eq b a

-- b stands directly after a in the route
abbrev pub directly : List ℕ → ℕ → ℕ → Bool
directly [] a b = false
directly (first ∷ rest) a b = (nat_eq a first && begins rest b) || directly rest a b

-- aircraft k flies activity a in the plan
abbrev pub flies : List (List ℕ) → ℕ → ℕ → Bool
flies plan k a = contains (route_of plan k) a

-- b comes directly after a in one of the plan's routes
abbrev pub joins : List (List ℕ) → ℕ → ℕ → Bool
joins plan a b = list_any (λ route. directly route a b) plan

-- what a fact says of a plan: k does not fly a; k flies a; b does not come directly after a; b comes directly after a
abbrev pub Holds : Fact → List (List ℕ) → Type 0
Holds (Bar k a) plan = flies plan k a ≡ false
Holds (Must k a) plan = flies plan k a ≡ true
Holds (Cut a b) plan = joins plan a b ≡ false
Holds (Tie a b) plan = joins plan a b ≡ true

-- the marks hold of a plan where each of their facts does
abbrev pub HoldAll : List Fact → List (List ℕ) → Type 0
HoldAll marks plan = All (λ fact. Holds fact plan) marks

-- the numbers in a fact are of the book
abbrev pub IsFactOf : BookSeen → Fact → Type 0
IsFactOf book (Bar k a) = (k < aircraft book) × (a < activities book)
IsFactOf book (Must k a) = (k < aircraft book) × (a < activities book)
IsFactOf book (Cut a b) = (a < activities book) × (b < activities book)
IsFactOf book (Tie a b) = (a < activities book) × (b < activities book)
