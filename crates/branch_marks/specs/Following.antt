-- Which facts follow from marks: the rules of propagation. They read floors, which may be too low and never too high:
-- so what follows is true of every legal plan of which the marks hold, and not all that is true follows.
-- For src/marks/walks.rt and src/laws/consequences.rt.
use Rattle.std.specs.Prelude.{◌≡◌, ◌↔◌, ℕ, ℤ, ◌<◌, ⊤, List, [], ◌∷◌, ◌++◌, Option, Some, None, Contains}
use Rattle.tail_book.specs.Seen.{BookSeen}
use Rattle.tail_book.specs.declared.place.Place.TheVariants.{After}
use Rattle.tail_book.specs.Lookup.{activities, aircraft}
use Rattle.tail_book.specs.Counters.{step, WithinLimits}
use Rattle.tail_book.specs.Plan.{IsLegalPlan}
use Rattle.tail_book.specs.inside.Sound.{IsBook}
use Rattle.branch_marks.specs.declared.fact.Fact.{Fact}
use Rattle.branch_marks.specs.declared.fact.Fact.TheVariants.{Bar, Must, Cut, Tie}
use Rattle.branch_marks.specs.Facts.{Holds, HoldAll, IsFactOf}
use Rattle.branch_marks.specs.Marks.{IsAlive, IsUsable, MayEnd}
use Rattle.branch_marks.specs.Floors.{floor_at}

-- with these values at a, no usable link of aircraft k from a stays within the limits
abbrev pub NoneGoesOn : BookSeen → List Fact → ℕ → ℕ → List ℤ → Type 0
NoneGoesOn book marks k a values =
    (b : ℕ) → b < activities book → IsUsable book marks k (After a) b → ¬ WithinLimits book.rules.counters (step book k (After a) b values)

-- by its floor at a aircraft k cannot fly a: it never comes there (dead on arrival), or it can neither end nor go on there (dead end)
abbrev pub IsDeadBy : BookSeen → List Fact → ℕ → ℕ → Option (List ℤ) → Type 0
IsDeadBy book marks k a None = ⊤
IsDeadBy book marks k a (Some low) = (¬ MayEnd marks k (After a)) × NoneGoesOn book marks k a low

-- a is alive for aircraft k, and k cannot fly it: dead on arrival, or a dead end
pub record IsDead (book : BookSeen) (marks : List Fact) (k a : ℕ) : Type 0 where
  pub of_book : IsFactOf book (Bar k a)
  pub alive : IsAlive book marks k a
  pub dead : IsDeadBy book marks k a (floor_at book marks k (After a))

-- the only carrier: a is alive for aircraft k alone, and no Must names a
pub record IsOnlyCarrier (book : BookSeen) (marks : List Fact) (k a : ℕ) : Type 0 where
  pub of_book : IsFactOf book (Must k a)
  pub alive : IsAlive book marks k a
  pub alone : (j : ℕ) → j < aircraft book → IsAlive book marks j a → j ≡ k
  pub unnamed : (j : ℕ) → j < aircraft book → ¬ Contains marks (Must j a)

-- by its floor at a aircraft k cannot go on from a to b: it never comes to a, or the step passes a limit
abbrev pub CannotGoBy : BookSeen → ℕ → ℕ → ℕ → Option (List ℤ) → Type 0
CannotGoBy book k a b None = ⊤
CannotGoBy book k a b (Some low) = ¬ WithinLimits book.rules.counters (step book k (After a) b low)

-- a dead connection: some aircraft may use the link from a to b, and none of these can go on over it; the Cut is not yet there
pub record IsDeadConnection (book : BookSeen) (marks : List Fact) (a b : ℕ) : Type 0 where
  pub of_book : IsFactOf book (Cut a b)
  pub new : ¬ Contains marks (Cut a b)
  pub usable : (k : ℕ) × (k < aircraft book) × IsUsable book marks k (After a) b
  pub dead : (k : ℕ) → k < aircraft book → IsUsable book marks k (After a) b → CannotGoBy book k a b (floor_at book marks k (After a))

-- what follows for one aircraft by itself, from its floors: that it does not fly what is dead for it
abbrev pub FollowsByFloor : BookSeen → List Fact → Fact → Type 0
FollowsByFloor book marks (Bar k a) = IsDead book marks k a
FollowsByFloor book marks (Must k a) = ⊥
FollowsByFloor book marks (Cut a b) = ⊥
FollowsByFloor book marks (Tie a b) = ⊥

-- what follows from all aircraft together: that the only carrier flies, and that nobody uses a dead connection
abbrev pub FollowsByFleet : BookSeen → List Fact → Fact → Type 0
FollowsByFleet book marks (Bar k a) = ⊥
FollowsByFleet book marks (Must k a) = IsOnlyCarrier book marks k a
FollowsByFleet book marks (Cut a b) = IsDeadConnection book marks a b
FollowsByFleet book marks (Tie a b) = ⊥

-- the fact follows from the marks, in the one way or the other; a Tie never does
abbrev pub Follows : BookSeen → List Fact → Fact → Type 0
Follows book marks (Bar k a) = FollowsByFloor book marks (Bar k a)
Follows book marks (Must k a) = FollowsByFleet book marks (Must k a)
Follows book marks (Cut a b) = FollowsByFleet book marks (Cut a b)
Follows book marks (Tie a b) = ⊥

-- the marks are shut for floors: none of the book's facts follows by a floor
abbrev pub IsShutForFloors : BookSeen → List Fact → Type 0
IsShutForFloors book marks = (fact : Fact) → IsFactOf book fact → ¬ FollowsByFloor book marks fact

-- the marks are shut: none of the book's facts follows
abbrev pub IsShut : BookSeen → List Fact → Type 0
IsShut book marks = (fact : Fact) → IsFactOf book fact → ¬ Follows book marks fact

-- what follows is of the book
abbrev pub FollowingFactsAreOfBook : Type 0
FollowingFactsAreOfBook = (book : BookSeen) (marks : List Fact) (fact : Fact) → Follows book marks fact → IsFactOf book fact

-- and is not among the marks
abbrev pub FollowingFactsAreNew : Type 0
FollowingFactsAreNew = (book : BookSeen) (marks : List Fact) (fact : Fact) → Follows book marks fact → ¬ Contains marks fact

-- what follows from marks holds of every legal plan that they hold of
abbrev pub FollowingFactsHold : Type 0
FollowingFactsHold = (book : BookSeen) → IsBook book → (marks : List Fact) (fact : Fact) → Follows book marks fact
    → (plan : List (List ℕ)) → IsLegalPlan book plan → HoldAll marks plan → Holds fact plan

-- each of these facts follows from the marks with those before it, as marks grow when one fact after the other is added
abbrev pub FollowInTurn : BookSeen → List Fact → List Fact → Type 0
FollowInTurn book marks [] = ⊤
FollowInTurn book marks (fact ∷ facts) = Follows book marks fact × FollowInTurn book (marks ++ fact ∷ []) facts

-- marks hold added facts, each of which followed in its turn
pub record IsFollowed (book : BookSeen) (before after : List Fact) : Type 0 where
  pub added : List Fact
  pub marks : after ≡ before ++ added
  pub follow : FollowInTurn book before added

-- so it is with one fact more that follows at their end
abbrev pub FollowInTurnWithOneMore : Type 0
FollowInTurnWithOneMore = (book : BookSeen) (marks facts : List Fact) (fact : Fact)
    → FollowInTurn book marks (facts ++ fact ∷ []) ↔ (FollowInTurn book marks facts × Follows book (marks ++ facts) fact)

-- and marks with such facts hold of each legal plan of which the marks hold
abbrev pub FollowedMarksHold : Type 0
FollowedMarksHold = (book : BookSeen) → IsBook book → (marks facts : List Fact) → FollowInTurn book marks facts
    → (plan : List (List ℕ)) → IsLegalPlan book plan → HoldAll marks plan → HoldAll (marks ++ facts) plan
