-- Why a shortage leaves no legal plan, and that mosts are the only ones. For src/laws.rt.
use Rattle.std.specs.Prelude.{ℕ, ℤ, ◌≡◌, List, map}
use Rattle.tail_book.specs.Seen.{BookSeen}
use Rattle.tail_book.specs.Plan.{IsLegalPlan}
use Rattle.tail_book.specs.Sums.{total}
use Rattle.plan_shortage.specs.Shortage.{surplus, AreActivitiesOf, AreMosts, due}

-- in a legal plan the surpluses of all routes come to what is due
abbrev pub SurplusesAreDue : Type 0
SurplusesAreDue = (book : BookSeen) (asked brought : List ℕ) → AreActivitiesOf book asked → AreActivitiesOf book brought
    → (plan : List (List ℕ)) → IsLegalPlan book plan → total (map (surplus asked brought) plan) ≡ due asked brought

-- the mosts of all aircraft come to one number
abbrev pub MostsComeToOne : Type 0
MostsComeToOne = (book : BookSeen) (asked brought : List ℕ) (one other : List ℤ) → AreMosts book asked brought one → AreMosts book asked brought other
    → total one ≡ total other
