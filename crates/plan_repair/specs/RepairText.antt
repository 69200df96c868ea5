-- What is printed of a repair: how many activities are moved and what the plan costs, and a line for each aircraft in the
-- book's order; or that no plan is legal. For src/report.rt.
use Rattle.std.specs.Prelude.{ℕ, List, [], ◌∷◌}
use Rattle.tail_book.specs.Seen.{BookSeen}
use Rattle.tail_book.specs.declared.outcome.Outcome.TheVariants as outcome
use Rattle.plan_report.specs.Lines.{text_of}
use Rattle.plan_report.specs.Report.{aircraft_lines, first_line, repaired_line}
use Rattle.plan_repair.specs.declared.answer.Repair.{Repair}
use Rattle.plan_repair.specs.declared.answer.Repair.TheVariants.{Done, Infeasible}

-- the lines of a repaired plan
abbrev pub repaired_lines : BookSeen → List (List ℕ) → ℕ → ℕ → List (List ℕ)
repaired_lines book plan moves cost = repaired_line moves cost ∷ aircraft_lines book 0 plan

-- the lines of what was found
abbrev pub repair_lines : BookSeen → Repair → List (List ℕ)
repair_lines book (Done plan moves cost) = repaired_lines book plan moves cost
repair_lines book Infeasible = first_line outcome.Infeasible ∷ []

-- the text of what was found
abbrev pub repair_text : BookSeen → Repair → List ℕ
repair_text book repair = text_of (repair_lines book repair)
