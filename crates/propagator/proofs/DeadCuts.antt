-- A Cut that follows takes a connection, from c to d, over which nobody could go on. So it brought nothing to d, all floors
-- stay, and a place from which nothing goes on without it is one from which nothing went on with it.
use Rattle.std.specs.Prelude.{◌&&◌, not, nat_eq}
use Rattle.std.proofs.Common.{◌≡◌, ◌∙◌, ℕ, ℤ, ◌<◌, ◌⊎◌, inl, inr, Bool, true, false, List, [], ◌∷◌, ◌++◌, refl, sym, ap, subst, Option, None, Some}
use Rattle.std.proofs.lemmas.Bool.{cond-false, and_parts, false_from_ne_true, both_ways, eq-eqb}
use Rattle.std.proofs.lemmas.Bool.Decides.{eqb_tells}
use Rattle.std.proofs.lemmas.List.Elements.{Contains-append_left}
use Rattle.tail_book.specs.Seen.{BookSeen}
use Rattle.tail_book.specs.declared.place.Place.TheVariants.{Carry, After}
use Rattle.tail_book.specs.Lookup.{activities, carry_of}
use Rattle.tail_book.specs.Counters.{step}
use Rattle.tail_book.specs.LegalTests.{within_limits}
use Rattle.tail_book.specs.inside.Tests.{LimitsDecide}
use Rattle.branch_marks.specs.declared.fact.Fact.{Fact}
use Rattle.branch_marks.specs.declared.fact.Fact.TheVariants.{Bar, Must, Cut, Tie}
use Rattle.branch_marks.specs.Marks.{IsAlive, IsUsable}
use Rattle.branch_marks.specs.MarkTests.{is_alive, is_usable, lets_go}
use Rattle.branch_marks.specs.inside.MarkTests.{AliveDecides, UsableDecides, MayEndDecides}
use Rattle.branch_marks.specs.Floors.{stepped_floor}
use Rattle.branch_marks.specs.Following.{IsDeadBy, IsDead, IsOnlyCarrier, CannotGoBy, IsDeadConnection, Follows}
use Rattle.floor_rows.specs.inside.LeastOver.{floor_of, brought, least_at, FloorsAreLeast, LeastAreFloors, BroughtTells}
use Rattle.propagator.specs.inside.OneMore.{CutsTakeNoFloor}
use Rattle.propagator.proofs.MoreMarks.{alive_kept, usable_more, usable_kept, end_kept, same_brings}

-- over a connection with which k cannot go on nothing is brought
nothing_over : UsableDecides → LimitsDecide → (book : BookSeen) (marks : List Fact) (k c d : ℕ) (floor : Option (List ℤ))
    → (IsUsable book marks k (After c) d → CannotGoBy book k c d floor) → stepped_floor book marks k (After c) d floor ≡ None
nothing_over usable limits book marks k c d None h = refl
nothing_over usable limits book marks k c d (Some low) h =
    cond-false (is_usable book marks k (After c) d && within_limits book.rules.counters (step book k (After c) d low)) (Some (step book k (After c) d low)) None
    (false_from_ne_true (is_usable book marks k (After c) d && within_limits book.rules.counters (step book k (After c) d low))
    (λ t. let (link, within) = and_parts (is_usable book marks k (After c) d) (within_limits book.rules.counters (step book k (After c) d low)) t in
    h ((usable book marks k (After c) d).0 link) ((limits book.rules.counters (step book k (After c) d low)).0 within)))

module _ (book : BookSeen) (marks : List Fact) (c d : ℕ) where
  cut_alive : (k a : ℕ) → is_alive book (marks ++ Cut c d ∷ []) k a ≡ is_alive book marks k a
  cut_alive k a = alive_kept book marks (Cut c d) k a refl

  -- a connection is the one that is cut, or as usable as before
  cut_or_same : (k a b : ℕ) → ((a ≡ c) × (b ≡ d)) ⊎ (is_usable book (marks ++ Cut c d ∷ []) k (After a) b ≡ is_usable book marks k (After a) b)
  cut_or_same k a b = elim (eqb_tells a c) [
    | inl from ↦ elim (eqb_tells d b) [
      | inl to ↦ inl (from.1, sym to.1)
      | inr away ↦ inr (kept (ap (λ (t : Bool). not (nat_eq a c && t)) away.0 ∙ no_more (nat_eq a c)))
    ]
    | inr away ↦ inr (kept (ap (λ (t : Bool). not (t && nat_eq d b)) away.0))
  ]
    where
      no_more : (t : Bool) → not (t && false) ≡ true
      no_more true = refl
      no_more false = refl

      kept : lets_go k (After a) b (Cut c d) ≡ true → is_usable book (marks ++ Cut c d ∷ []) k (After a) b ≡ is_usable book marks k (After a) b
      kept e = usable_kept book marks (Cut c d) k (After a) b (cut_alive k a) (cut_alive k b) e

  cut_first : (k b : ℕ) → is_usable book (marks ++ Cut c d ∷ []) k Carry b ≡ is_usable book marks k Carry b
  cut_first k b = usable_kept book marks (Cut c d) k Carry b refl (cut_alive k b) refl

  -- the connection that is cut is usable no more
  cut_gone : (k : ℕ) → is_usable book (marks ++ Cut c d ∷ []) k (After c) d ≡ false
  cut_gone k =
      usable_more book marks (Cut c d) k (After c) d (cut_alive k c) (cut_alive k d)
      ∙ gone (is_usable book marks k (After c) d) (nat_eq c c) (nat_eq d d) (eq-eqb c c refl) (eq-eqb d d refl)
    where
      last : (u : Bool) → (u && false) ≡ false
      last true = refl
      last false = refl

      gone : (u p q : Bool) → p ≡ true → q ≡ true → (u && not (p && q)) ≡ false
      gone u p q e f = ap (λ (t : Bool). u && not (t && q)) e ∙ ap (λ (t : Bool). u && not t) f ∙ last u

  module _ (dead : IsDeadConnection book marks c d) where
    -- what is usable after the Cut was so before it
    was_usable : UsableDecides → (k a b : ℕ) → IsUsable book (marks ++ Cut c d ∷ []) k (After a) b → IsUsable book marks k (After a) b
    was_usable usable k a b link =
        let test = (usable book (marks ++ Cut c d ∷ []) k (After a) b).1 link in
        elim (cut_or_same k a b) [
          | inl here ↦ absurd (both_ways (is_usable book (marks ++ Cut c d ∷ []) k (After a) b)
              (ap (λ (z : ℕ). is_usable book (marks ++ Cut c d ∷ []) k (After z) b) here.0 ∙ ap (λ (z : ℕ). is_usable book (marks ++ Cut c d ∷ []) k (After c) z) here.1 ∙ cut_gone k) test)
          | inr same ↦ (usable book marks k (After a) b).0 (sym same ∙ test)
        ]

    module _ (least : FloorsAreLeast) (floors : LeastAreFloors) (tells : BroughtTells) (usable : UsableDecides) (limits : LimitsDecide) (k : ℕ) where
      cut_brings : (b y : ℕ) → brought book (marks ++ Cut c d ∷ []) k b (floor_of book marks k) y ≡ brought book marks k b (floor_of book marks k) y
      cut_brings b y = elim (cut_or_same k y b) [
        | inl here ↦ (
            tells.unusable book (marks ++ Cut c d ∷ []) k (After y) b (floor_of book marks k y)
            (ap (λ (z : ℕ). is_usable book (marks ++ Cut c d ∷ []) k (After z) b) here.0 ∙ ap (λ (z : ℕ). is_usable book (marks ++ Cut c d ∷ []) k (After c) z) here.1 ∙ cut_gone k)
            ∙ sym (ap (λ (z : ℕ). stepped_floor book marks k (After z) b (floor_of book marks k z)) here.0
            ∙ ap (λ (z : ℕ). stepped_floor book marks k (After c) z (floor_of book marks k c)) here.1
            ∙ nothing_over usable limits book marks k c d (floor_of book marks k c) (λ link. dead.dead k link.after.allowed.aircraft link)))
        | inr same ↦ same_brings book marks (marks ++ Cut c d ∷ []) k (After y) b (floor_of book marks k y) same
      ]

      cut_least : (b : ℕ) → b < activities book → floor_of book marks k b ≡ least_at book (marks ++ Cut c d ∷ []) k (floor_of book marks k) b
      cut_least b lt =
          least book marks k b lt
          ∙ sym (tells.same book marks (marks ++ Cut c d ∷ []) k b (floor_of book marks k) (floor_of book marks k)
          (same_brings book marks (marks ++ Cut c d ∷ []) k Carry b (Some (carry_of book k)) (cut_first k b)) (λ y less. cut_brings b y))

      pub no_floor_taken : (a : ℕ) → a < activities book → floor_of book (marks ++ Cut c d ∷ []) k a ≡ floor_of book marks k a
      no_floor_taken a lt = sym (floors book (marks ++ Cut c d ∷ []) k (floor_of book marks k) cut_least a lt)

    module _ (no_taken : CutsTakeNoFloor) (alive : AliveDecides) (usable : UsableDecides) (ends : MayEndDecides) where
      alive_before : (k a : ℕ) → IsAlive book (marks ++ Cut c d ∷ []) k a → IsAlive book marks k a
      alive_before k a h = (alive book marks k a).0 (sym (cut_alive k a) ∙ (alive book (marks ++ Cut c d ∷ []) k a).1 h)

      alive_after : (k a : ℕ) → IsAlive book marks k a → IsAlive book (marks ++ Cut c d ∷ []) k a
      alive_after k a h = (alive book (marks ++ Cut c d ∷ []) k a).0 (cut_alive k a ∙ (alive book marks k a).1 h)

      dead_by_before : (k a : ℕ) (floor : Option (List ℤ)) → floor_of book marks k a ≡ floor → IsDeadBy book (marks ++ Cut c d ∷ []) k a floor → IsDeadBy book marks k a floor
      dead_by_before k a None e h = tt
      dead_by_before k a (Some low) e h = (
        (λ may. h.0 ((ends (marks ++ Cut c d ∷ []) k (After a)).0 (end_kept book marks (Cut c d) k (After a) refl ∙ (ends marks k (After a)).1 may))),
        (λ b less link. elim (cut_or_same k a b) [
          | inl here ↦ (subst (λ (z : ℕ). CannotGoBy book k a z (Some low)) (sym here.1)
              (subst (λ (floor : Option (List ℤ)). CannotGoBy book k a d floor) e
              (subst (λ (z : ℕ). CannotGoBy book k z d (floor_of book marks k z)) (sym here.0)
              (dead.dead k link.after.allowed.aircraft
              (subst (λ (z : ℕ). IsUsable book marks k (After c) z) here.1 (subst (λ (z : ℕ). IsUsable book marks k (After z) b) here.0 link))))))
          | inr same ↦ h.1 b less ((usable book (marks ++ Cut c d ∷ []) k (After a) b).0 (same ∙ (usable book marks k (After a) b).1 link))
        ]),
      )

      dead_before : (k a : ℕ) → IsDead book (marks ++ Cut c d ∷ []) k a → IsDead book marks k a
      dead_before k a h = record {
        of_book = h.of_book;
        alive = alive_before k a h.alive;
        dead = dead_by_before k a (floor_of book marks k a) refl
            (subst (λ (floor : Option (List ℤ)). IsDeadBy book (marks ++ Cut c d ∷ []) k a floor) (no_taken book marks c d dead k a h.of_book.1) h.dead);
      }

      carrier_before : (k a : ℕ) → IsOnlyCarrier book (marks ++ Cut c d ∷ []) k a → IsOnlyCarrier book marks k a
      carrier_before k a h = record {
        of_book = h.of_book;
        alive = alive_before k a h.alive;
        alone = λ j lt on. h.alone j lt (alive_after j a on);
        unnamed = λ j lt has. h.unnamed j lt (Contains-append_left marks (Cut c d ∷ []) (Must j a) has);
      }

      connection_before : (a b : ℕ) → IsDeadConnection book (marks ++ Cut c d ∷ []) a b → IsDeadConnection book marks a b
      connection_before a b h = record {
        of_book = h.of_book;
        new = λ has. h.new (Contains-append_left marks (Cut c d ∷ []) (Cut a b) has);
        usable = (h.usable.0, h.usable.1, was_usable usable h.usable.0 a b h.usable.2);
        dead = λ k lt link. elim (cut_or_same k a b) [
          | inl here ↦ (subst (λ (z : ℕ). CannotGoBy book k a z (floor_of book marks k a)) (sym here.1)
              (subst (λ (z : ℕ). CannotGoBy book k z d (floor_of book marks k z)) (sym here.0)
              (dead.dead k lt (subst (λ (z : ℕ). IsUsable book marks k (After c) z) here.1 (subst (λ (z : ℕ). IsUsable book marks k (After z) b) here.0 link)))))
          | inr same ↦ subst (λ (floor : Option (List ℤ)). CannotGoBy book k a b floor) (no_taken book marks c d dead k a h.of_book.0)
              (h.dead k lt ((usable book (marks ++ Cut c d ∷ []) k (After a) b).0 (same ∙ (usable book marks k (After a) b).1 link)))
        ];
      }

      pub followed_before : (fact : Fact) → Follows book (marks ++ Cut c d ∷ []) fact → Follows book marks fact
      followed_before (Bar k a) h = dead_before k a h
      followed_before (Must k a) h = carrier_before k a h
      followed_before (Cut a b) h = connection_before a b h
      followed_before (Tie a b) h = h
