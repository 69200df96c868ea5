-- A Bar that follows takes from its aircraft one activity, c, that is dead. Where c had no floor, nothing went on from it.
-- Where it had one, no step from it stayed within the limits. So c brought nothing to any other activity, and without it
-- each of these has the same least; at c itself nothing may arrive any more.
use Rattle.std.specs.Prelude.{◌≢◌, ◌&&◌, nat_eq, if◌then◌else◌}
use Rattle.std.proofs.Common.{◌≡◌, ◌∙◌, ℕ, ℤ, ◌<◌, true, false, inl, inr, arith, List, [], ◌∷◌, ◌++◌, refl, sym, ap, subst, Option, None, Some}
use Rattle.std.proofs.lemmas.Bool.{both_ways, cond-true, cond-false, and_parts, false_from_ne_true, ne_eqb}
use Rattle.std.proofs.lemmas.Bool.Decides.{eqb_tells}
use Rattle.tail_book.specs.Seen.{BookSeen}
use Rattle.tail_book.specs.declared.place.Place.TheVariants.{Carry, After}
use Rattle.tail_book.specs.Lookup.{activities, carry_of}
use Rattle.tail_book.specs.Numbers.{contains}
use Rattle.connection_net.specs.inside.Laws.{PredecessorsAreLinks}
use Rattle.connection_net.specs.Net.{net_of, predecessors_in}
use Rattle.tail_book.specs.Counters.{step}
use Rattle.tail_book.specs.inside.Rising.{LinksRise}
use Rattle.tail_book.specs.inside.Sound.{IsBook}
use Rattle.tail_book.specs.LegalTests.{within_limits}
use Rattle.tail_book.specs.inside.Tests.{LimitsDecide}
use Rattle.branch_marks.specs.declared.fact.Fact.{Fact}
use Rattle.branch_marks.specs.declared.fact.Fact.TheVariants.{Bar}
use Rattle.branch_marks.specs.MarkTests.{is_usable}
use Rattle.branch_marks.specs.inside.MarkTests.{AliveDecides, UsableDecides, MayEndDecides}
use Rattle.branch_marks.specs.Floors.{stepped_floor}
use Rattle.branch_marks.specs.Following.{IsDeadBy, IsDead}
use Rattle.floor_rows.specs.inside.LeastOver.{floor_of, brought, least_at, FloorsAreLeast, LeastAreFloors, BroughtTells}
use Rattle.propagator.specs.inside.OneMore.{BarsTakeOneFloor}
use Rattle.propagator.proofs.RightRows.{no_predecessor, dead_back}
use Rattle.propagator.proofs.MoreMarks.{end_kept, same_brings, barred, elsewhere_alive, elsewhere_usable, first_usable}

-- from what is dead nothing goes on
nothing_on : UsableDecides → LimitsDecide → (book : BookSeen) (marks : List Fact) (k c b : ℕ) (floor : Option (List ℤ)) → b < activities book
    → IsDeadBy book marks k c floor → stepped_floor book marks k (After c) b floor ≡ None
nothing_on usable limits book marks k c b None lt d = refl
nothing_on usable limits book marks k c b (Some low) lt d =
    cond-false (is_usable book marks k (After c) b && within_limits book.rules.counters (step book k (After c) b low)) (Some (step book k (After c) b low)) None
    (false_from_ne_true (is_usable book marks k (After c) b && within_limits book.rules.counters (step book k (After c) b low))
    (λ t. let (use_it, within) = and_parts (is_usable book marks k (After c) b) (within_limits book.rules.counters (step book k (After c) b low)) t in
    d.1 b lt ((usable book marks k (After c) b).0 use_it) ((limits book.rules.counters (step book k (After c) b low)).0 within)))

module _ (least : FloorsAreLeast) (floors : LeastAreFloors) (tells : BroughtTells) (usable : UsableDecides) (limits : LimitsDecide)
    (book : BookSeen) (marks : List Fact) (k c : ℕ) (dead : IsDead book marks k c) where
  -- the floors without that at c
  abbrev taken : ℕ → Option (List ℤ)
  taken a = if nat_eq a c then None else floor_of book marks k a

  brings_same : (b y : ℕ) → b < activities book → b ≢ c
      → brought book (marks ++ Bar k c ∷ []) k b taken y ≡ brought book marks k b (floor_of book marks k) y
  brings_same b y lt nb = elim (eqb_tells y c) [
    | inl here ↦ (
        ap (λ (f : Option (List ℤ)). stepped_floor book (marks ++ Bar k c ∷ []) k (After y) b f) (cond-true (nat_eq y c) None (floor_of book marks k y) here.0)
        ∙ sym (subst (λ (z : ℕ). stepped_floor book marks k (After z) b (floor_of book marks k z) ≡ None) (sym here.1)
        (nothing_on usable limits book marks k c b (floor_of book marks k c) lt dead.dead)))
    | inr other ↦ (
        ap (λ (f : Option (List ℤ)). stepped_floor book (marks ++ Bar k c ∷ []) k (After y) b f) (cond-false (nat_eq y c) None (floor_of book marks k y) other.0)
        ∙ same_brings book marks (marks ++ Bar k c ∷ []) k (After y) b (floor_of book marks k y) (elsewhere_usable book marks k c y b other.1 nb))
  ]

  least_elsewhere : (b : ℕ) → b < activities book → b ≢ c
      → least_at book (marks ++ Bar k c ∷ []) k taken b ≡ least_at book marks k (floor_of book marks k) b
  least_elsewhere b lt nb =
      tells.same book marks (marks ++ Bar k c ∷ []) k b (floor_of book marks k) taken
      (same_brings book marks (marks ++ Bar k c ∷ []) k Carry b (Some (carry_of book k)) (first_usable book marks k c b nb)) (λ y less. brings_same b y lt nb)

  taken_least : (b : ℕ) → b < activities book → taken b ≡ least_at book (marks ++ Bar k c ∷ []) k taken b
  taken_least b lt = elim (eqb_tells b c) [
    | inl here ↦ (
        cond-true (nat_eq b c) None (floor_of book marks k b) here.0
        ∙ sym (ap (λ (z : ℕ). least_at book (marks ++ Bar k c ∷ []) k taken z) here.1 ∙ tells.without book (marks ++ Bar k c ∷ []) k c taken (barred book marks k c)))
    | inr other ↦ (
        cond-false (nat_eq b c) None (floor_of book marks k b) other.0
        ∙ least book marks k b lt ∙ sym (least_elsewhere b lt other.1))
  ]

  pub one_floor_taken : (a : ℕ) → a < activities book → floor_of book (marks ++ Bar k c ∷ []) k a ≡ (if nat_eq a c then None else floor_of book marks k a)
  one_floor_taken a lt = sym (floors book (marks ++ Bar k c ∷ []) k taken taken_least a lt)

module _ (one_taken : BarsTakeOneFloor) (rise : LinksRise) (alive : AliveDecides) (usable : UsableDecides) (ends : MayEndDecides)
    (book : BookSeen) (sound : IsBook book) (marks : List Fact) (k c : ℕ) (dead : IsDead book marks k c) (a : ℕ) (later : c < a) where
  dead_by_before : (floor : Option (List ℤ)) → a < activities book → IsDeadBy book (marks ++ Bar k c ∷ []) k a floor → IsDeadBy book marks k a floor
  dead_by_before None lt d = tt
  dead_by_before (Some low) lt d = (
    (λ may. d.0 ((ends (marks ++ Bar k c ∷ []) k (After a)).0 (end_kept book marks (Bar k c) k (After a) refl ∙ (ends marks k (After a)).1 may))),
    (λ b less link. let above = rise book sound k a b lt less link.link in
        d.1 b less ((usable book (marks ++ Bar k c ∷ []) k (After a) b).0
        (elsewhere_usable book marks k c a b (omega (arith, later)) (omega (arith, later, above)) ∙ (usable book marks k (After a) b).1 link))),
  )

  pub dead_before : IsDead book (marks ++ Bar k c ∷ []) k a → IsDead book marks k a
  dead_before d =
      let apart : a ≢ c = omega (arith, later) in
      record {
        of_book = d.of_book;
        alive = (alive book marks k a).0 (sym (elsewhere_alive book marks k c a apart) ∙ (alive book (marks ++ Bar k c ∷ []) k a).1 d.alive);
        dead = dead_by_before (floor_of book marks k a) d.of_book.1
            (subst (λ (floor : Option (List ℤ)). IsDeadBy book (marks ++ Bar k c ∷ []) k a floor)
            (one_taken book marks k c dead a d.of_book.1 ∙ cond-false (nat_eq a c) None (floor_of book marks k a) (ne_eqb a c apart)) d.dead);
      }

-- but for the activity itself, only what went on to it may be dead that was not
module _ (one_taken : BarsTakeOneFloor) (pred : PredecessorsAreLinks) (alive : AliveDecides) (usable : UsableDecides) (ends : MayEndDecides)
    (book : BookSeen) (marks : List Fact) (k c : ℕ) (dead : IsDead book marks k c) (a : ℕ) (apart : a ≢ c)
    (out : contains (predecessors_in (net_of book) c) a ≡ false) where
  goes_still : (b : ℕ) → b < activities book → is_usable book marks k (After a) b ≡ true → is_usable book (marks ++ Bar k c ∷ []) k (After a) b ≡ true
  goes_still b lt t = elim (eqb_tells b c) [
    | inl here ↦ absurd (both_ways (is_usable book marks k (After a) b)
        (ap (λ (z : ℕ). is_usable book marks k (After a) z) here.1 ∙ no_predecessor pred usable book marks k a c out) t)
    | inr other ↦ (elsewhere_usable book marks k c a b apart other.1 ∙ t)
  ]

  pub dead_apart : IsDead book (marks ++ Bar k c ∷ []) k a → IsDead book marks k a
  dead_apart d = record {
    of_book = d.of_book;
    alive = (alive book marks k a).0 (sym (elsewhere_alive book marks k c a apart) ∙ (alive book (marks ++ Bar k c ∷ []) k a).1 d.alive);
    dead = dead_back usable ends book marks (marks ++ Bar k c ∷ []) k a (end_kept book marks (Bar k c) k (After a) refl) goes_still (floor_of book marks k a)
        (subst (λ (floor : Option (List ℤ)). IsDeadBy book (marks ++ Bar k c ∷ []) k a floor)
        (one_taken book marks k c dead a d.of_book.1 ∙ cond-false (nat_eq a c) None (floor_of book marks k a) (ne_eqb a c apart)) d.dead);
  }
