-- The laws of reports: what is found can be written, and a report whose plan flies nothing twice is read back as the
-- names of that plan.
use Rattle.std.specs.Prelude.{ℕ, ◌≡◌, ◌+◌, ◌<◌, ◌≤◌, ◌^◌, ⊤, List, [], ◌∷◌, map, Ok}
use Rattle.tail_book.specs.Lookup.{activities, activity_of, tail_of}
use Rattle.tail_book.specs.Plan.{times_flown}
use Rattle.tail_book.specs.Seen.{BookSeen, RawLineSeen, RawPlanSeen}
use Rattle.tail_book.specs.declared.outcome.Outcome.{Outcome}
use Rattle.tail_book.specs.declared.outcome.Outcome.TheVariants.{Optimal, Infeasible, Between, Above}
use Rattle.tail_book.specs.inside.Sound.{IsBook}
use Rattle.tail_book.specs.Truth.{IsTrueOutcome}
use Rattle.plan_audit.specs.Broken.{IsAuditOf}
use Rattle.plan_audit.specs.declared.broken.Audit.{Audit}
use Rattle.plan_report.specs.inside.AuditText.{AreOfBook}
use Rattle.plan_report.specs.PlanText.{plan_in}
use Rattle.plan_report.specs.Lines.{text_of}
use Rattle.plan_report.specs.inside.Report.{HasPlanFor, IsPlanFor}
use Rattle.plan_report.specs.Report.{aircraft_lines, repaired_line, report}

-- the law of true outcomes: their plan has one route for each aircraft, of activities of the book
abbrev pub TrueOutcomesCanBeWritten : Type 0
TrueOutcomesCanBeWritten = (book : BookSeen) → IsBook book → (outcome : Outcome) → IsTrueOutcome book outcome → HasPlanFor book outcome

-- the law of audits: the numbers in what an audit finds are of the book
abbrev pub AuditsCanBeWritten : Type 0
AuditsCanBeWritten = (book : BookSeen) (raw : RawPlanSeen) (found : Audit) → IsAuditOf book raw found → AreOfBook book found

-- the names of the aircraft from k on and of what they fly
abbrev pub names_from : BookSeen → ℕ → List (List ℕ) → List RawLineSeen
names_from book k [] = []
names_from book k (route ∷ routes) = record { tail = (tail_of book k).name; ids = map (λ a. (activity_of book a).id) route } ∷ names_from book (k + 1) routes

-- a plan's names: each aircraft in the book's order, and the ids of its activities
abbrev pub names_of_plan : BookSeen → List (List ℕ) → RawPlanSeen
names_of_plan book plan = record { lines = names_from book 0 plan }

-- no activity of the book stands twice in the plan
abbrev pub HasNoRepeats : BookSeen → List (List ℕ) → Type 0
HasNoRepeats book plan = (a : ℕ) → a < activities book → times_flown plan a ≤ 1

-- where no activity stands twice in its plan, and its costs are numbers of 64 bits, an outcome's report is read as the names of that plan
abbrev pub IsReadBack : BookSeen → Outcome → Type 0
IsReadBack book (Optimal plan cost) =
    HasNoRepeats book plan → cost < 2 ^ 64 → plan_in (report book (Optimal plan cost)) ≡ Ok (names_of_plan book plan)
IsReadBack book Infeasible = ⊤
IsReadBack book (Between plan low high nodes) =
    HasNoRepeats book plan → low < 2 ^ 64 → high < 2 ^ 64 → plan_in (report book (Between plan low high nodes)) ≡ Ok (names_of_plan book plan)
IsReadBack book (Above low nodes) = ⊤

-- the law of repaired plans: one in which no activity stands twice is read as its names under what a repair found
abbrev pub RepairedIsReadBack : Type 0
RepairedIsReadBack = (book : BookSeen) → IsBook book → (plan : List (List ℕ)) (moves cost : ℕ) → IsPlanFor book plan → HasNoRepeats book plan
    → moves < 2 ^ 64 → cost < 2 ^ 64 → plan_in (text_of (repaired_line moves cost ∷ aircraft_lines book 0 plan)) ≡ Ok (names_of_plan book plan)

-- the law of reading back: what is written of an outcome with a plan is read as the names of that plan
abbrev pub ReportIsReadBack : Type 0
ReportIsReadBack = (book : BookSeen) → IsBook book → (outcome : Outcome) → HasPlanFor book outcome → IsReadBack book outcome
