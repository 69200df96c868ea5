-- Which plans and outcomes can be printed: those whose plan, if any, has a route for each aircraft and is of the book.
use Rattle.std.specs.Prelude.{ℕ, ◌<◌, ◌≡◌, ⊤, All, length, List}
use Rattle.tail_book.specs.Seen.{BookSeen}
use Rattle.tail_book.specs.Lookup.{activities, aircraft}
use Rattle.tail_book.specs.declared.outcome.Outcome.{Outcome}
use Rattle.tail_book.specs.declared.outcome.Outcome.TheVariants.{Optimal, Infeasible, Between, Above}

-- one route for each aircraft of the book, each of activities of the book
pub record IsPlanFor (book : BookSeen) (plan : List (List ℕ)) : Type 0 where
  pub one_each : length plan ≡ aircraft book
  pub activities : All (All (λ a. a < activities book)) plan

-- the plan of an outcome, where it has one, is one for the book
abbrev pub HasPlanFor : BookSeen → Outcome → Type 0
HasPlanFor book (Optimal plan cost) = IsPlanFor book plan
HasPlanFor book Infeasible = ⊤
HasPlanFor book (Between plan low high nodes) = IsPlanFor book plan
HasPlanFor book (Above low nodes) = ⊤
