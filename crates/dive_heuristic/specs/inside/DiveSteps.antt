-- How a dive goes on: marks and steps that grow together, and where it stands before a choice.
use Rattle.std.specs.Prelude.{◌≡◌, ℕ, ℤ, List, ◌++◌, map}
use Rattle.tail_book.specs.Seen.{BookSeen}
use Rattle.tail_book.specs.TableSeen.{CostTableSeen}
use Rattle.tail_book.specs.CostTable.{IsTableFor}
use Rattle.connection_net.specs.Seen.{NetSeen}
use Rattle.connection_net.specs.Net.{net_of}
use Rattle.branch_marks.specs.declared.fact.Fact.{Fact}
use Rattle.branch_marks.specs.Following.{FollowInTurn, IsShut}
use Rattle.branch_marks.specs.Settled.{AreDuals}
use Rattle.propagator.specs.InTurn.{WaitInTurn}
use Rattle.dive_heuristic.specs.declared.answer.DiveStep.{DiveStep}
use Rattle.dive_heuristic.specs.declared.answer.DiveStep.TheVariants.{Forced}
use Rattle.dive_heuristic.specs.LeastRoutes.{AreLeastRoutes}
use Rattle.dive_heuristic.specs.Dive.{AreSteps, StepsWait, HasNoHole, marks_after}

-- what a dive is asked of, and never changes: a table and a network of the book, and duals of the table's box
pub record IsAsked (book : BookSeen) (table : CostTableSeen) (net : NetSeen) (duals : List ℤ) : Type 0 where
  pub costs : IsTableFor book table
  pub links : net ≡ net_of book
  pub in_box : AreDuals table book duals

-- the marks grew by facts that follow in their turn, and the steps by the forced steps of these
pub record AreForced (book : BookSeen) (old new : List Fact) (listed listing : List DiveStep) : Type 0 where
  pub added : List Fact
  pub marks : new ≡ old ++ added
  pub list : listing ≡ listed ++ map Forced added
  pub follow : FollowInTurn book old added
  pub wait : WaitInTurn book old added

-- the list of steps grew by steps of a dive, and the marks by their facts
pub record AddsSteps (table : CostTableSeen) (book : BookSeen) (duals : List ℤ) (old new : List Fact) (listed listing : List DiveStep) : Type 0 where
  pub added : List DiveStep
  pub marks : new ≡ marks_after old added
  pub list : listing ≡ listed ++ added
  pub are : AreSteps table book old duals added
  pub wait : StepsWait book old added

-- where a dive stands before a choice, and at a plan: the marks are shut, nobody is missing, and these are routes of least weight
pub record StandsAt (table : CostTableSeen) (book : BookSeen) (marks : List Fact) (duals : List ℤ) (routes : List (List ℕ)) : Type 0 where
  pub shut : IsShut book marks
  pub somebody : HasNoHole book marks
  pub least : AreLeastRoutes table book marks duals routes
