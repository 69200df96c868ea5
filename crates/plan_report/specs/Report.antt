-- What is printed for an outcome: its first line, and with a plan a line for each aircraft in the book's order.
use Rattle.std.specs.Prelude.{ℕ, ◌+◌, List, [], ◌∷◌, ◌++◌, codes, decimal}
use Rattle.tail_book.specs.Seen.{BookSeen}
use Rattle.tail_book.specs.Lookup.{activity_of, tail_of}
use Rattle.tail_book.specs.Truth.{claim_of}
use Rattle.tail_book.specs.declared.outcome.Outcome.{Outcome}
use Rattle.tail_book.specs.declared.outcome.Outcome.TheVariants.{Optimal, Infeasible, Between, Above}
use Rattle.tail_text.specs.ClaimWords.{claim_text}
use Rattle.plan_report.specs.Lines.{newline, text_of}

-- a space and its id, for each activity
abbrev pub ids_of : BookSeen → List ℕ → List ℕ
ids_of book [] = []
ids_of book (a ∷ route) = codes " " ++ (activity_of book a).id ++ ids_of book route

-- the aircraft's name, a colon, and the ids of its activities
abbrev pub aircraft_line : BookSeen → ℕ → List ℕ → List ℕ
aircraft_line book k route = (tail_of book k).name ++ codes ":" ++ ids_of book route ++ newline

-- the lines of aircraft k, k + 1 and so on
abbrev pub aircraft_lines : BookSeen → ℕ → List (List ℕ) → List (List ℕ)
aircraft_lines book k [] = []
aircraft_lines book k (route ∷ routes) = aircraft_line book k route ∷ aircraft_lines book (k + 1) routes

-- what was found, as a claim: the least cost, that no plan is legal, or the bound and the cost of the best plan found
abbrev pub first_line : Outcome → List ℕ
first_line outcome = claim_text (claim_of outcome) ++ newline

-- what a repair found: how many activities are moved, and what the plan costs
abbrev pub repaired_text : ℕ → ℕ → List ℕ
repaired_text moves cost = codes "repaired " ++ decimal moves ++ (codes " " ++ decimal cost)

-- the first line of a repaired plan
abbrev pub repaired_line : ℕ → ℕ → List ℕ
repaired_line moves cost = repaired_text moves cost ++ newline

-- the plan of an outcome, where it has one
abbrev pub routes_of : Outcome → List (List ℕ)
routes_of (Optimal plan cost) = plan
routes_of Infeasible = []
routes_of (Between plan low high nodes) = plan
routes_of (Above low nodes) = []

-- the first line, and a line for each aircraft
abbrev pub report_lines : BookSeen → Outcome → List (List ℕ)
report_lines book outcome = first_line outcome ∷ aircraft_lines book 0 (routes_of outcome)

-- the report
abbrev pub report : BookSeen → Outcome → List ℕ
report book outcome = text_of (report_lines book outcome)
