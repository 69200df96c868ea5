-- Facts that are added to marks one after the other, each because it follows.
-- For src/added_facts.rt, src/carriers.rt and others.
use Rattle.std.specs.Prelude.{◌≡◌, ⊤, List, [], ◌∷◌, ◌++◌}
use Rattle.tail_book.specs.Seen.{BookSeen}
use Rattle.branch_marks.specs.declared.fact.Fact.{Fact}
use Rattle.branch_marks.specs.declared.fact.Fact.TheVariants.{Bar, Must, Cut, Tie}
use Rattle.branch_marks.specs.Following.{FollowInTurn, IsShutForFloors}

-- what asks about all aircraft together, a Must or a Cut, is added only where nothing follows by a floor
abbrev pub WaitsForFloors : BookSeen → List Fact → Fact → Type 0
WaitsForFloors book marks (Bar k a) = ⊤
WaitsForFloors book marks (Must k a) = IsShutForFloors book marks
WaitsForFloors book marks (Cut a b) = IsShutForFloors book marks
WaitsForFloors book marks (Tie a b) = ⊤

abbrev pub WaitInTurn : BookSeen → List Fact → List Fact → Type 0
WaitInTurn book marks [] = ⊤
WaitInTurn book marks (fact ∷ facts) = WaitsForFloors book marks fact × WaitInTurn book (marks ++ fact ∷ []) facts

-- marks and a list grow by the same facts: each follows in its turn, and those about all aircraft wait for the floors
pub record GrowInTurn (book : BookSeen) (old new listed listing : List Fact) : Type 0 where
  pub added : List Fact
  pub marks : new ≡ old ++ added
  pub list : listing ≡ listed ++ added
  pub follow : FollowInTurn book old added
  pub wait : WaitInTurn book old added
