-- The tests of the rules of propagation decide their definitions: each has the shape of its rule, over numbers below
-- those of the book. Whether an activity is dead for an aircraft, or it cannot go over a connection, is read off its
-- floor, and where it has no floor that is so at once. Marks are shut where no fact of the book follows; a Tie never
-- does, so the test goes over Bars, Musts and Cuts.
use Rattle.std.proofs.Common.{◌≡◌, ℕ, ℤ, ◌<◌, List, Option, Some, None}
use Rattle.std.specs.Prelude.{Contains}
use Rattle.std.specs.Bool.{Decides}
use Rattle.std.proofs.lemmas.Bool.Decides.{Decides-eqb, Decides-and, Decides-not, Decides-like}
use Rattle.tail_book.specs.Seen.{BookSeen}
use Rattle.tail_book.specs.declared.place.Place.TheVariants.{After}
use Rattle.tail_book.specs.Lookup.{activities, aircraft}
use Rattle.tail_book.specs.Counters.{step, WithinLimits}
use Rattle.tail_book.specs.inside.Tests.{LimitsDecide}
use Rattle.branch_marks.specs.declared.fact.Fact.{Fact}
use Rattle.branch_marks.specs.declared.fact.Fact.TheVariants.{Bar, Must, Cut, Tie}
use Rattle.branch_marks.specs.Marks.{IsAlive, IsUsable}
use Rattle.branch_marks.specs.inside.MarkTests.{FactOfDecides, AliveDecides, UsableDecides, MayEndDecides}
use Rattle.branch_marks.specs.inside.FactTests.{HasFactDecides}
use Rattle.branch_marks.specs.Floors.{floor_at}
use Rattle.branch_marks.specs.Following.{NoneGoesOn, IsDeadBy, IsDead, IsOnlyCarrier, CannotGoBy, IsDeadConnection, Follows, IsShut}
use Rattle.branch_marks.specs.FollowingTests.{none_goes_on, is_dead_by, is_dead, is_only_carrier, cannot_go_by, is_dead_connection, follows, is_shut}
use Rattle.branch_marks.specs.inside.FollowingTests.{FollowsDecides}
use Rattle.branch_marks.proofs.Decisions.{always, never, implied, apart}
use Rattle.branch_marks.proofs.BelowDecided.{all_below_tested, some_below_tested}

module _ (of_book : FactOfDecides) (alive : AliveDecides) (usable : UsableDecides) (end : MayEndDecides) (has : HasFactDecides) (limits : LimitsDecide)
    (book : BookSeen) (marks : List Fact) where
  none_tested : (k a : ℕ) (values : List ℤ) → Decides (none_goes_on book marks k a values) (NoneGoesOn book marks k a values)
  none_tested k a values = all_below_tested _ (λ b. IsUsable book marks k (After a) b → ¬ WithinLimits book.rules.counters (step book k (After a) b values))
      (λ b. apart _ _ (usable book marks k (After a) b) (limits book.rules.counters (step book k (After a) b values))) (activities book)

  dead_by_tested : (k a : ℕ) (floor : Option (List ℤ)) → Decides (is_dead_by book marks k a floor) (IsDeadBy book marks k a floor)
  dead_by_tested k a None = always
  dead_by_tested k a (Some low) = Decides-and _ _ (Decides-not _ (end marks k (After a))) (none_tested k a low)

  dead_tested : (k a : ℕ) → Decides (is_dead book marks k a) (IsDead book marks k a)
  unfolding is_dead
  dead_tested k a =
      Decides-like (is_dead book marks k a) (λ h. record { of_book = h.0; alive = h.1.0; dead = h.1.1 }) (λ d. (d.of_book, (d.alive, d.dead)))
      (Decides-and _ _ (of_book book (Bar k a)) (Decides-and _ _ (alive book marks k a) (dead_by_tested k a (floor_at book marks k (After a)))))

  carrier_tested : (k a : ℕ) → Decides (is_only_carrier book marks k a) (IsOnlyCarrier book marks k a)
  unfolding is_only_carrier
  carrier_tested k a =
      Decides-like (is_only_carrier book marks k a) (λ h. record { of_book = h.0; alive = h.1.0; alone = h.1.1.0; unnamed = h.1.1.1 })
      (λ d. (d.of_book, (d.alive, (d.alone, d.unnamed))))
      (Decides-and _ _ (of_book book (Must k a)) (Decides-and _ _ (alive book marks k a) (Decides-and _ _
      (all_below_tested _ (λ j. IsAlive book marks j a → j ≡ k) (λ j. implied _ _ (alive book marks j a) (Decides-eqb j k)) (aircraft book))
      (all_below_tested _ (λ j. ¬ Contains marks (Must j a)) (λ j. Decides-not _ (has marks (Must j a))) (aircraft book)))))

  cannot_tested : (k a b : ℕ) (floor : Option (List ℤ)) → Decides (cannot_go_by book k a b floor) (CannotGoBy book k a b floor)
  cannot_tested k a b None = always
  cannot_tested k a b (Some low) = Decides-not _ (limits book.rules.counters (step book k (After a) b low))

  connection_tested : (a b : ℕ) → Decides (is_dead_connection book marks a b) (IsDeadConnection book marks a b)
  unfolding is_dead_connection
  connection_tested a b =
      Decides-like (is_dead_connection book marks a b) (λ h. record { of_book = h.0; new = h.1.0; usable = h.1.1.0; dead = h.1.1.1 })
      (λ d. (d.of_book, (d.new, (d.usable, d.dead))))
      (Decides-and _ _ (of_book book (Cut a b)) (Decides-and _ _ (Decides-not _ (has marks (Cut a b))) (Decides-and _ _
      (some_below_tested _ (λ k. IsUsable book marks k (After a) b) (λ k. usable book marks k (After a) b) (aircraft book))
      (all_below_tested _ (λ k. IsUsable book marks k (After a) b → CannotGoBy book k a b (floor_at book marks k (After a)))
      (λ k. implied _ _ (usable book marks k (After a) b) (cannot_tested k a b (floor_at book marks k (After a)))) (aircraft book)))))

  pub follows_tested : (fact : Fact) → Decides (follows book marks fact) (Follows book marks fact)
  follows_tested (Bar k a) = dead_tested k a
  follows_tested (Must k a) = carrier_tested k a
  follows_tested (Cut a b) = connection_tested a b
  follows_tested (Tie a b) = never

-- shut: no aircraft and activity gives a Bar or a Must, and no two activities give a Cut
module _ (tested : FollowsDecides) (book : BookSeen) (marks : List Fact) where
  abbrev IsShutInParts : Type 0
  IsShutInParts =
      ((k : ℕ) → k < aircraft book → (a : ℕ) → a < activities book → (¬ Follows book marks (Bar k a)) × (¬ Follows book marks (Must k a)))
      × ((a : ℕ) → a < activities book → (b : ℕ) → b < activities book → ¬ Follows book marks (Cut a b))

  from_parts : IsShutInParts → IsShut book marks
  from_parts h (Bar k a) of = (h.0 k of.0 a of.1).0
  from_parts h (Must k a) of = (h.0 k of.0 a of.1).1
  from_parts h (Cut a b) of = h.1 a of.0 b of.1
  from_parts h (Tie a b) of = λ f. f

  pub shut_tested : Decides (is_shut book marks) (IsShut book marks)
  shut_tested =
      Decides-like (is_shut book marks) from_parts (λ s. ((λ k hk a ha. (s (Bar k a) (hk, ha), s (Must k a) (hk, ha))), (λ a ha b hb. s (Cut a b) (ha, hb))))
      (Decides-and _ _
      (all_below_tested _ (λ k. (a : ℕ) → a < activities book → (¬ Follows book marks (Bar k a)) × (¬ Follows book marks (Must k a)))
      (λ k. all_below_tested _ (λ a. (¬ Follows book marks (Bar k a)) × (¬ Follows book marks (Must k a)))
      (λ a. Decides-and _ _ (Decides-not _ (tested book marks (Bar k a))) (Decides-not _ (tested book marks (Must k a)))) (activities book)) (aircraft book))
      (all_below_tested _ (λ a. (b : ℕ) → b < activities book → ¬ Follows book marks (Cut a b))
      (λ a. all_below_tested _ (λ b. ¬ Follows book marks (Cut a b)) (λ b. Decides-not _ (tested book marks (Cut a b))) (activities book)) (activities book)))
