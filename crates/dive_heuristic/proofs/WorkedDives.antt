-- Small books worked by hand: what is forced, what is chosen, and where a dive ends, each both ways. In the first book
-- the turn ends a minute after the way back starts: nobody can fly it, the way out has one carrier left, and the dive
-- is dead without a choice; fewer steps, or a choice before the marks are shut, are no such dive. In the second one two
-- flights leave at once, and the least aircraft is to fly the first of them.
use Rattle.std.proofs.Common.{◌≡◌, ℕ, zero, suc, ℤ, pos, ◌+◌, ◌<◌, inl, inr, true, false, arith, List, [], ◌∷◌, refl, subst, None}
use Rattle.std.proofs.lemmas.Bool.{both_ways}
use Rattle.std.specs.Prelude.{codes}
use Rattle.tail_book.specs.Seen.{ActivitySeen, TailSeen, AirportSeen, BookSeen}
use Rattle.tail_book.specs.Link.{is_connected}
use Rattle.tail_book.specs.Allowed.{is_permitted}
use Rattle.tail_book.specs.Numbers.{contains}
use Rattle.tail_book.specs.Plan.{route_of}
use Rattle.tail_book.specs.TableSeen.{CostTableSeen}
use Rattle.tail_book.specs.LegalTests.{is_allowed, is_link}
use Rattle.branch_marks.specs.declared.fact.Fact.{Fact}
use Rattle.branch_marks.specs.declared.fact.Fact.TheVariants.{Bar, Must}
use Rattle.branch_marks.specs.Marks.{IsAlive}
use Rattle.branch_marks.specs.FactTests.{has_fact}
use Rattle.branch_marks.specs.inside.FactTests.{HasFactDecides}
use Rattle.branch_marks.specs.FollowingTests.{follows, is_shut, is_dead, is_only_carrier, is_dead_connection}
use Rattle.branch_marks.specs.inside.FollowingTests.{FollowsDecides, ShutDecides}
use Rattle.branch_marks.specs.MarkTests.{is_alive, is_usable, may_end}
use Rattle.branch_marks.specs.inside.MarkTests.{AliveDecides}
use Rattle.dive_heuristic.specs.declared.answer.DiveStep.{DiveStep}
use Rattle.dive_heuristic.specs.declared.answer.DiveStep.TheVariants.{Chosen, Forced}
use Rattle.dive_heuristic.specs.declared.answer.DeadEnd.TheVariants.{Hole}
use Rattle.dive_heuristic.specs.Choice.{IsChoice}
use Rattle.dive_heuristic.specs.Dive.{IsForced, AreSteps, IsDive, AtDeadEnd}

-- a flight of an hour, from a minute on; the airports are Arlanda, 0, and Oslo, 1
abbrev flight : List ℕ → ℕ → ℕ → ℕ → ActivitySeen
flight id from to start = record { id = id; flight = true; from = from; to = to; start = pos start; end = pos (start + 60); types = []; tags = []; tail = None; resets = [] }

abbrev aircraft_of : List ℕ → TailSeen
aircraft_of name = record { name = name; kind = 0; at = 0; ready = pos 300; fixed = 0; tags = []; avoid = []; carry = [] }

abbrev airports : List AirportSeen
airports = record { name = codes "ARN"; offset = pos 60; changes = []; turn = pos 0 } ∷ record { name = codes "OSL"; offset = pos 60; changes = []; turn = pos 0 } ∷ []

abbrev book_of : List ActivitySeen → List TailSeen → ℕ → BookSeen
book_of flights tails turn = record {
  activities = flights;
  tails = tails;
  rules = record { kinds = record { name = codes "P"; rate = 1; turn = pos turn } ∷ []; airports = airports; curfews = []; counters = []; bands = [] };
}

-- one aircraft, and half an hour at Oslo, of which the turn takes a minute more
abbrev late : BookSeen
late = book_of (flight (codes "F1") 0 1 360 ∷ flight (codes "F2") 1 0 450 ∷ []) (aircraft_of (codes "A1") ∷ []) 31

-- two aircraft, and two flights to Oslo at once
abbrev two_at_once : BookSeen
two_at_once = book_of (flight (codes "F1") 0 1 360 ∷ flight (codes "F2") 0 1 360 ∷ []) (aircraft_of (codes "A1") ∷ aircraft_of (codes "A2") ∷ []) 30

-- tests of the late book: the way back is dead on arrival, and then the way out has one carrier
bar_follows : follows late [] (Bar 0 1) ≡ true
unfolding is_dead is_usable is_alive may_end is_link is_connected is_allowed is_permitted
bar_follows = refl

must_follows : follows late (Bar 0 1 ∷ []) (Must 0 0) ≡ true
unfolding is_only_carrier is_alive is_allowed is_permitted
must_follows = refl

not_yet_shut : is_shut late (Bar 0 1 ∷ []) ≡ false
unfolding is_dead is_only_carrier is_dead_connection is_usable is_alive may_end is_link is_connected is_allowed is_permitted
not_yet_shut = refl

then_shut : is_shut late (Bar 0 1 ∷ Must 0 0 ∷ []) ≡ true
unfolding is_dead is_only_carrier is_dead_connection is_usable is_alive may_end is_link is_connected is_allowed is_permitted
then_shut = refl

nobody_back : is_alive late (Bar 0 1 ∷ Must 0 0 ∷ []) 0 1 ≡ false
unfolding is_alive is_allowed is_permitted
nobody_back = refl

-- the dive of the late book, whatever the costs and the duals
abbrev late_steps : List DiveStep
late_steps = Forced (Bar 0 1) ∷ Forced (Must 0 0) ∷ []

none_flown : (k : ℕ) → contains (route_of ([] ∷ [] ∷ []) k) 0 ≡ false
none_flown zero = refl
none_flown (suc zero) = refl
none_flown (suc (suc k)) = refl

first_alive : is_alive two_at_once [] 0 0 ≡ true
unfolding is_alive is_allowed is_permitted
first_alive = refl

module _ (following : FollowsDecides) (shutting : ShutDecides) (having : HasFactDecides) (living : AliveDecides) where
  forced : (marks : List Fact) (fact : Fact) → has_fact marks fact ≡ false → follows late marks fact ≡ true → IsForced late marks fact
  forced marks fact new follow = record {
    new = λ has. both_ways (has_fact marks fact) new ((having marks fact).1 has);
    follows = (following late marks fact).0 follow;
  }

  nobody_flies_back : (k : ℕ) → k < 1 → IsAlive late (Bar 0 1 ∷ Must 0 0 ∷ []) k 1 → ⊥
  nobody_flies_back k lt alive =
      let same : k ≡ 0 = omega (arith, lt) in
      both_ways (is_alive late (Bar 0 1 ∷ Must 0 0 ∷ []) 0 1) nobody_back
      ((living late (Bar 0 1 ∷ Must 0 0 ∷ []) 0 1).1 (subst (λ (j : ℕ). IsAlive late (Bar 0 1 ∷ Must 0 0 ∷ []) j 1) same alive))

  late_dives : (table : CostTableSeen) (duals : List ℤ) → IsDive table late [] duals late_steps (AtDeadEnd (Hole 1))
  late_dives table duals = record {
    in_turn = (forced [] (Bar 0 1) refl bar_follows, (forced (Bar 0 1 ∷ []) (Must 0 0) refl must_follows, tt));
    shut = (shutting late (Bar 0 1 ∷ Must 0 0 ∷ [])).0 then_shut;
    ends = record { of_book = omega arith; nobody = nobody_flies_back };
  }

  -- without its second step the marks are not shut
  cut_short : (table : CostTableSeen) (duals : List ℤ) → IsDive table late [] duals (Forced (Bar 0 1) ∷ []) (AtDeadEnd (Hole 1)) → ⊥
  cut_short table duals dive = both_ways (is_shut late (Bar 0 1 ∷ [])) not_yet_shut ((shutting late (Bar 0 1 ∷ [])).1 dive.shut)

  -- nor may anything be chosen before they are
  chosen_early : (table : CostTableSeen) (duals : List ℤ) → AreSteps table late [] duals (Forced (Bar 0 1) ∷ Chosen (Must 0 0) ∷ []) → ⊥
  chosen_early table duals steps = both_ways (is_shut late (Bar 0 1 ∷ [])) not_yet_shut ((shutting late (Bar 0 1 ∷ [])).1 steps.1.0.0)

  -- with both on the ground the least aircraft is to fly the first flight
  first_of_those_alive : IsChoice two_at_once [] ([] ∷ [] ∷ []) 0 0
  first_of_those_alive = record {
    of_book = omega arith;
    here = λ (one : 0 ≡ 1). absurd (omega (arith, one));
    before = λ b lt. absurd (omega (arith, lt));
    carrier = inr (none_flown, record { of_book = omega arith; here = (living two_at_once [] 0 0).0 first_alive; before = λ j lt. absurd (omega (arith, lt)) });
  }

  second_of_those_alive : IsChoice two_at_once [] ([] ∷ [] ∷ []) 1 0 → ⊥
  second_of_those_alive choice = elim choice.carrier [
    | inl flies ↦ both_ways false refl flies.here
    | inr alive ↦ alive.1.before 0 (omega arith) ((living two_at_once [] 0 0).0 first_alive)
  ]

-- where both fly it, the least of them is to
first_of_those_flying : IsChoice two_at_once [] ((0 ∷ []) ∷ (0 ∷ []) ∷ []) 0 0
first_of_those_flying = record {
  of_book = omega arith;
  here = λ (two : 2 ≡ 1). absurd (omega (arith, two));
  before = λ b lt. absurd (omega (arith, lt));
  carrier = inl (record { of_book = omega arith; here = refl; before = λ j lt. absurd (omega (arith, lt)) });
}

second_of_those_flying : IsChoice two_at_once [] ((0 ∷ []) ∷ (0 ∷ []) ∷ []) 1 0 → ⊥
second_of_those_flying choice = elim choice.carrier [
  | inl flies ↦ flies.before 0 (omega arith) refl
  | inr alive ↦ both_ways true (alive.0 0) refl
]

-- and the second flight is not the least that nobody flies
not_the_least : IsChoice two_at_once [] ([] ∷ [] ∷ []) 0 1 → ⊥
not_the_least choice = let one : 0 ≡ 1 = choice.before 0 (omega arith) in absurd (omega (arith, one))
