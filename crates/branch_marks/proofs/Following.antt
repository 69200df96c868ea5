-- Whatever legal plan the marks hold of, what follows from them holds of it too. What is dead stands in no route that fits, since
-- along such a route there are floors with which it goes on; the flier of an activity is one for whom it is alive.
use Rattle.std.proofs.Common.{◌≡◌, ℕ, ℤ, ◌<◌, inl, inr, true, arith, List, refl, subst, Option}
use Rattle.std.proofs.lemmas.Bool.{false_from_ne_true}
use Rattle.tail_book.specs.Seen.{BookSeen}
use Rattle.tail_book.specs.declared.place.Place.TheVariants.{Carry}
use Rattle.tail_book.specs.Lookup.{aircraft, carry_of}
use Rattle.tail_book.specs.inside.Order.{EachAtMostItself, EachAtMostChains, StepsKeepOrder, LowerStaysWithin}
use Rattle.tail_book.specs.Plan.{route_of, IsLegalPlan}
use Rattle.tail_book.specs.inside.Rising.{EachIsFlownOnce}
use Rattle.tail_book.specs.inside.Sound.{IsBook}
use Rattle.branch_marks.specs.declared.fact.Fact.{Fact}
use Rattle.branch_marks.specs.declared.fact.Fact.TheVariants.{Bar, Must, Cut, Tie}
use Rattle.branch_marks.specs.Facts.{flies, joins, Holds, HoldAll, IsFactOf}
use Rattle.branch_marks.specs.inside.Fitting.{MarkedRoutesFit}
use Rattle.branch_marks.specs.Floors.{FloorsAreLow}
use Rattle.branch_marks.specs.Following.{IsDeadBy, IsDead, IsOnlyCarrier, CannotGoBy, IsDeadConnection, Follows}
use Rattle.branch_marks.proofs.Neighbours.{route_of_joins}
use Rattle.branch_marks.proofs.AlongFloors.{alive_along, usable_along, floor_along, pair_along}

pub following_of_book : (book : BookSeen) (marks : List Fact) (fact : Fact) → Follows book marks fact → IsFactOf book fact
following_of_book book marks (Bar k a) f = f.of_book
following_of_book book marks (Must k a) f = f.of_book
following_of_book book marks (Cut a b) f = f.of_book
following_of_book book marks (Tie a b) f = absurd f

module _ (fit : MarkedRoutesFit) (once : EachIsFlownOnce) (low_floors : FloorsAreLow) (itself : EachAtMostItself) (chains : EachAtMostChains)
    (order : StepsKeepOrder) (within : LowerStaysWithin) (book : BookSeen) (sound : IsBook book) (marks : List Fact)
    (plan : List (List ℕ)) (legal : IsLegalPlan book plan) (hold : HoldAll marks plan) where
  never_flown : (k a : ℕ) → IsDead book marks k a → ¬ (flies plan k a ≡ true)
  never_flown k a d here =
      let hk = d.of_book.0 in
      let (low, is, can) = floor_along low_floors chains order within book sound marks k hk Carry (carry_of book k) (carry_of book k) (route_of plan k) a refl
      (itself (carry_of book k)) (legal.routes k hk) (fit book sound marks plan legal hold k hk) here in
      let dead = subst (λ (floor : Option (List ℤ)). IsDeadBy book marks k a floor) is d.dead in
      elim can [
        | inl ends ↦ dead.0 ends
        | inr goes ↦ dead.1 goes.0 goes.1 goes.2.0 goes.2.1
      ]

  carrier_flies : (k a : ℕ) → IsOnlyCarrier book marks k a → flies plan k a ≡ true
  carrier_flies k a d =
      let (who, lt, flown, _) = once book plan legal a d.of_book.1 in
      let alive = alive_along book marks who Carry (route_of plan who) a (fit book sound marks plan legal hold who lt) flown in
      subst (λ (j : ℕ). flies plan j a ≡ true) (d.alone who lt alive) flown

  never_joined : (a b : ℕ) → IsDeadConnection book marks a b → ¬ (joins plan a b ≡ true)
  never_joined a b d there =
      let (k, inside, pair) = route_of_joins plan a b there in
      let hk : k < aircraft book = omega (arith, inside, legal.one_each) in
      let fits = fit book sound marks plan legal hold k hk in
      let (low, is, can) = pair_along low_floors chains order within book sound marks k hk Carry (carry_of book k) (carry_of book k) (route_of plan k) a b refl
      (itself (carry_of book k)) (legal.routes k hk) fits pair in
      subst (λ (floor : Option (List ℤ)). CannotGoBy book k a b floor) is
      (d.dead k hk (usable_along book marks k Carry (route_of plan k) a b fits pair)) can.1

  pub follows_hold : (fact : Fact) → Follows book marks fact → Holds fact plan
  follows_hold (Bar k a) f = false_from_ne_true (flies plan k a) (never_flown k a f)
  follows_hold (Must k a) f = carrier_flies k a f
  follows_hold (Cut a b) f = false_from_ne_true (joins plan a b) (never_joined a b f)
  follows_hold (Tie a b) f = absurd f
