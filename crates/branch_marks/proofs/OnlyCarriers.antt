-- An activity has an only carrier where the first aircraft that is alive there is the last one too, and no Must names it.
-- Those before the first are not alive there, and those behind it up to the next are not.
use Rattle.std.specs.Prelude.{Contains}
use Rattle.std.proofs.Common.{◌≡◌, ℕ, ◌<◌, ◌≤◌, ◌+◌, true, false, inl, inr, List, refl, subst, arith}
use Rattle.std.proofs.lemmas.Bool.{both_ways, cases_order}
use Rattle.std.proofs.lemmas.List.Elements.{All-contains}
use Rattle.tail_book.specs.Seen.{BookSeen}
use Rattle.tail_book.specs.Lookup.{activities, aircraft}
use Rattle.branch_marks.specs.declared.fact.Fact.{Fact}
use Rattle.branch_marks.specs.declared.fact.Fact.TheVariants.{Must}
use Rattle.branch_marks.specs.Marks.{LetsFly}
use Rattle.branch_marks.specs.Following.{IsOnlyCarrier}
use Rattle.branch_marks.specs.MarkTests.{is_alive}
use Rattle.branch_marks.specs.inside.MarkTests.{AliveDecides}

module _ (alive : AliveDecides) (book : BookSeen) (marks : List Fact) (a : ℕ) where
  -- where nobody is alive, there is no carrier
  pub no_carrier : (first : ℕ) → ((j : ℕ) → 0 ≤ j → j < first → is_alive book marks j a ≡ false) → aircraft book ≤ first → (k : ℕ) → ¬ IsOnlyCarrier book marks k a
  no_carrier first none all k carrier =
      let lt = carrier.of_book.0 in
      both_ways (is_alive book marks k a) (none k (omega arith) (omega (arith, lt, all))) ((alive book marks k a).1 carrier.alive)

  -- where one is alive and nobody else, and the marks do not give it the activity, it is the carrier
  pub is_carrier : (k next : ℕ) → k < aircraft book → a < activities book → is_alive book marks k a ≡ true
      → ((j : ℕ) → 0 ≤ j → j < k → is_alive book marks j a ≡ false) → ((j : ℕ) → k + 1 ≤ j → j < next → is_alive book marks j a ≡ false)
      → aircraft book ≤ next → ¬ Contains marks (Must k a) → IsOnlyCarrier book marks k a
  is_carrier k next hk ha here before after all free =
      let on = (alive book marks k a).0 here in
      record {
        of_book = (hk, ha);
        alive = on;
        alone = λ j lt other. elim (cases_order j k) [
          | inl e ↦ e
          | inr o ↦ elim o [
            | inl less ↦ absurd (both_ways (is_alive book marks j a) (before j (omega arith) less) ((alive book marks j a).1 other))
            | inr more ↦ absurd (both_ways (is_alive book marks j a) (after j (omega (arith, more)) (omega (arith, lt, all))) ((alive book marks j a).1 other))
          ]
        ];
        unnamed = λ j lt has. free (subst (λ (z : ℕ). Contains marks (Must z a)) (All-contains (LetsFly k a) marks (Must j a) on.facts has refl) has);
      }
