-- What ends a certificate: the plan of an outcome, where it has one, and its claim.
use Rattle.std.specs.Prelude.{ℕ, ◌≡◌, ◌<◌, ⊤, List, [], ◌∷◌, ◌++◌, length, Option, Some, None, option_map}
use Rattle.tail_book.specs.Truth.{claim_of}
use Rattle.tail_book.specs.declared.outcome.Outcome.{Outcome}
use Rattle.tail_book.specs.declared.outcome.Outcome.TheVariants.{Optimal, Infeasible, Between, Above}
use Rattle.tail_book.specs.Fliers.{fliers_of}
use Rattle.cert_lines.specs.declared.cert_line.CertLine.{CertLine}
use Rattle.cert_lines.specs.declared.cert_line.CertLine.TheVariants as line
use Rattle.cert_lines.specs.PlanLines.{plan_lines}

-- the plan of an outcome
abbrev pub plan_in : Outcome → Option (List (List ℕ))
plan_in (Optimal plan cost) = Some plan
plan_in Infeasible = None
plan_in (Between plan low high nodes) = Some plan
plan_in (Above low nodes) = None

-- who flies each of n activities, by the plan, and the claim
abbrev pub trailer_lines : ℕ → Outcome → List CertLine
trailer_lines n outcome = plan_lines (option_map (λ plan. fliers_of plan n) (plan_in outcome)) ++ line.Claim (claim_of outcome) ∷ []

-- lines spell the outcome: its plan has a route for each of m aircraft, and its bound lies below its cost
abbrev pub IsSpelled : ℕ → Outcome → Type 0
IsSpelled m (Optimal plan cost) = length plan ≡ m
IsSpelled m Infeasible = ⊤
IsSpelled m (Between plan low high nodes) = (length plan ≡ m) × (low < high)
IsSpelled m (Above low nodes) = ⊤
