-- When what is told of a book is true: that a legal plan exists, that activities are a shortage, or that no plan is legal and some
-- choice of legal routes leaves out these activities.
-- For src/why.rt.
use Rattle.std.specs.Prelude.{ℕ, ⊤, List}
use Rattle.tail_book.specs.Seen.{BookSeen}
use Rattle.tail_book.specs.Plan.{IsLegalPlan}
use Rattle.tail_book.specs.Truth.{HasNoPlan}
use Rattle.fullest_plan.specs.LeftOut.{IsLeftOut}
use Rattle.plan_shortage.specs.Shortage.{IsShortage}
use Rattle.shortage_report.specs.declared.why.Why.{Why}
use Rattle.shortage_report.specs.declared.why.Why.TheVariants.{Feasible, Short, Nothing}

-- what is told is true of the book; a shortage leaves no legal plan, by a law
abbrev pub IsTrueWhy : BookSeen → Why → Type 0
IsTrueWhy book Feasible = (plan : List (List ℕ)) × IsLegalPlan book plan
IsTrueWhy book (Short found) = IsShortage book found.asked.items found.brought.items found.mosts.items
IsTrueWhy book (Nothing uncovered) = HasNoPlan book × IsLeftOut book uncovered.items

-- it is told that no plan is legal
abbrev pub TellsOfNone : Why → Type 0
TellsOfNone Feasible = ⊥
TellsOfNone (Short found) = ⊤
TellsOfNone (Nothing uncovered) = ⊤
