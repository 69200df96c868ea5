-- What the tests of facts answer is what the definitions say. A link is dead where some aircraft may use it and none of
-- those that were asked goes on over it, by their number. An activity is a hole where the first aircraft that is alive
-- there is none of the book.
use Rattle.std.specs.Prelude.{◌↔◌, IsTrue, not, nat_eq, nat_lt}
use Rattle.std.specs.Bool.{Decides}
use Rattle.std.proofs.Common.{◌≡◌, ◌∙◌, ℕ, zero, suc, ◌<◌, ◌≤◌, ◌+◌, inl, inr, Bool, true, false, List, refl, sym, ap, subst, arith, below_more}
use Rattle.std.proofs.lemmas.Bool.{both_ways, and_from, and_parts, cases_order, false_from_ne_true}
use Rattle.std.proofs.lemmas.Bool.Decides.{Decides-ltb, eqb_tells}
use Rattle.tail_book.specs.Seen.{BookSeen}
use Rattle.tail_book.specs.declared.place.Place.TheVariants.{After}
use Rattle.tail_book.specs.Lookup.{activities, aircraft}
use Rattle.branch_marks.specs.declared.fact.Fact.{Fact}
use Rattle.branch_marks.specs.Marks.{IsUsable}
use Rattle.branch_marks.specs.Below.{all_below}
use Rattle.branch_marks.specs.MarkTests.{is_alive}
use Rattle.branch_marks.specs.TreeTests.{is_hole}
use Rattle.branch_marks.specs.Following.{CannotGoBy}
use Rattle.floor_rows.specs.inside.AskedLinks.{AreAsked}
use Rattle.floor_rows.specs.inside.LeastOver.{floor_of}

-- what decides the same is the same test
pub one_test : (r t : Bool) (P : Type 0) → (IsTrue r ↔ P) → Decides t P → r ≡ t
one_test r t P tells decides = both_same r t (λ on. decides.1 (tells.0 on)) (λ on. tells.1 (decides.0 on))
  where
    both_same : (s t : Bool) → (s ≡ true → t ≡ true) → (t ≡ true → s ≡ true) → s ≡ t
    both_same true t f g = sym (f refl)
    both_same false t f g = sym (false_from_ne_true t (λ on. both_ways false refl (g on)))

-- all below a number pass the test, or one does not
pub all_pass : (test : ℕ → Bool) (n : ℕ) → ((k : ℕ) → k < n → test k ≡ true) → all_below test n ≡ true
all_pass test zero each = refl
all_pass test (suc n) each = and_from (test n) (all_below test n) (each n (omega arith)) (all_pass test n (λ k lt. each k (omega (arith, lt))))

pub one_fails : (test : ℕ → Bool) (n k : ℕ) → k < n → test k ≡ false → all_below test n ≡ false
one_fails test n k lt e = false_from_ne_true (all_below test n) (λ on. both_ways (test k) e (passes test n k lt on))
  where
    passes : (test : ℕ → Bool) (n k : ℕ) → k < n → all_below test n ≡ true → test k ≡ true
    passes test zero k lt on = absurd (omega (arith, lt))
    passes test (suc n) k lt on =
        let (here, below) = and_parts (test n) (all_below test n) on in
        elim (cases_order k n) [
          | inl e ↦ subst (λ (z : ℕ). test z ≡ true) (sym e) here
          | inr o ↦ elim o [
            | inl less ↦ passes test n k less below
            | inr more ↦ absurd (omega (arith, lt, more))
          ]
        ]

-- one more aircraft is asked
pub asked_used : (book : BookSeen) (marks : List Fact) (a b n : ℕ) (used now : Bool) → AreAsked book marks a b n used → n < aircraft book
    → IsUsable book marks n (After a) b → CannotGoBy book n a b (floor_of book marks n a) → now ≡ true → AreAsked book marks a b (n + 1) now
asked_used book marks a b n used now asked lt link cannot e = record {
  some = λ _. (n, lt, link);
  none = λ off. absurd (both_ways now off e);
  dead = below_more (λ (k : ℕ). IsUsable book marks k (After a) b → CannotGoBy book k a b (floor_of book marks k a)) n asked.dead (λ _. cannot);
}

pub asked_unused : (book : BookSeen) (marks : List Fact) (a b n : ℕ) (used now : Bool) → AreAsked book marks a b n used
    → ¬ IsUsable book marks n (After a) b → now ≡ used → AreAsked book marks a b (n + 1) now
asked_unused book marks a b n used now asked not e = record {
  some = λ on. asked.some (sym e ∙ on);
  none = λ off. below_more (λ (k : ℕ). ¬ IsUsable book marks k (After a) b) n (asked.none (sym e ∙ off)) not;
  dead = below_more (λ (k : ℕ). IsUsable book marks k (After a) b → CannotGoBy book k a b (floor_of book marks k a)) n asked.dead (λ link. absurd (not link));
}

-- an activity is a hole exactly where no aircraft of the book is the first that is alive there
pub hole_tells : (book : BookSeen) (marks : List Fact) (a : ℕ) → a < activities book → (first m : ℕ) → aircraft book ≡ m → first ≤ aircraft book
    → ((k : ℕ) → 0 ≤ k → k < first → is_alive book marks k a ≡ false) → (first < aircraft book → is_alive book marks first a ≡ true)
    → nat_eq first m ≡ is_hole book marks a
hole_tells book marks a lt first m e le none found = elim (eqb_tells first m) [
  | inl same ↦ same.0 ∙ sym (and_from (nat_lt a (activities book)) (all_below (λ k. not (is_alive book marks k a)) (aircraft book)) ((Decides-ltb a (activities book)).1 lt)
      (all_pass (λ k. not (is_alive book marks k a)) (aircraft book) (λ k within. ap not (none k (omega arith) (let is = same.1 in omega (arith, within, is, e))))))
  | inr other ↦ other.0 ∙ sym (false_from_ne_true (is_hole book marks a) (λ on.
      let within : first < aircraft book = less first m (aircraft book) other.1 e le in
      both_ways (all_below (λ k. not (is_alive book marks k a)) (aircraft book))
      (one_fails (λ k. not (is_alive book marks k a)) (aircraft book) first within (ap not (found within)))
      (and_parts (nat_lt a (activities book)) (all_below (λ k. not (is_alive book marks k a)) (aircraft book)) on).1))
]
  where
    less : (x y z : ℕ) → (x ≡ y → ⊥) → z ≡ y → x ≤ z → x < z
    less x y z ne e le = elim (cases_order x z) [
      | inl same ↦ absurd (ne (same ∙ e))
      | inr o ↦ elim o [
        | inl lt ↦ lt
        | inr more ↦ absurd (omega (arith, le, more))
      ]
    ]
