-- An aircraft that is not stuck has a least weight: its legal routes that fit are rising lists of the book's numbers.
use Rattle.std.proofs.Common.{◌≡◌, ◌⊎◌, ◌<◌, ℕ, ℤ, pos, inl, inr, Bool, true, arith, List, map, refl}
use Rattle.std.proofs.lemmas.Bool.{and_from, and_parts, both_ways}
use Rattle.std.proofs.lemmas.List.FromFn.{length-map-range_with_len, get_or-map-range_with_len}
use Rattle.std.specs.Prelude.{◌&&◌}
use Rattle.std.specs.List.{range_with_len}
use Rattle.tail_book.specs.Seen.{BookSeen}
use Rattle.tail_book.specs.TableSeen.{CostTableSeen}
use Rattle.tail_book.specs.Lookup.{activities, aircraft}
use Rattle.tail_book.specs.inside.Rising.{LegalRoutesRise}
use Rattle.tail_book.specs.Route.{IsLegalRoute}
use Rattle.tail_book.specs.inside.Sound.{IsBook}
use Rattle.tail_book.specs.LegalTests.{is_legal_route}
use Rattle.tail_book.specs.inside.Tests.{LegalRouteDecides}
use Rattle.branch_marks.specs.declared.fact.Fact.{Fact}
use Rattle.branch_marks.specs.Marks.{Fits}
use Rattle.branch_marks.specs.MarkTests.{fits}
use Rattle.branch_marks.specs.inside.MarkTests.{FitsDecides}
use Rattle.branch_marks.specs.DeadEnds.{IsStuck}
use Rattle.branch_marks.specs.Weights.{weight, IsLeastWeight}
use Rattle.branch_marks.specs.Bound.{lagrangian}
use Rattle.branch_marks.specs.Settled.{IsSum}
use Rattle.branch_marks.proofs.LeastRoutes.{rising_in_whole_range, IsLightest, lightest}

module _ (rise : LegalRoutesRise) (legal : LegalRouteDecides) (fit : FitsDecides) (table : CostTableSeen) (book : BookSeen) (sound : IsBook book) (marks : List Fact) where
  module _ (k : ℕ) (duals : List ℤ) where
    abbrev is_route : List ℕ → Bool
    is_route route = is_legal_route book k route && fits book marks k route

    is_route_of : (route : List ℕ) → IsLegalRoute book k route → Fits book marks k route → is_route route ≡ true
    is_route_of route l f = and_from (is_legal_route book k route) (fits book marks k route) ((legal book k route).1 l) ((fit book marks k route).1 f)

    of_lightest : (route : List ℕ) → IsLightest 0 (activities book) is_route (weight table book k duals) route → IsLeastWeight table book marks k duals (weight table book k duals route)
    of_lightest route best =
        let (l, f) = and_parts (is_legal_route book k route) (fits book marks k route) best.passes in
        record {
          least = λ other is_legal is_fit. best.least other (rising_in_whole_range (activities book) other (rise book sound k other is_legal)) (is_route_of other is_legal is_fit);
          attained = (route, record { legal = (legal book k route).0 l; fits = (fit book marks k route).0 f; weighs = refl });
        }

    pub stuck_or_least : IsStuck book marks k ⊎ ((value : ℤ) × IsLeastWeight table book marks k duals value)
    stuck_or_least = elim (lightest (activities book) 0 (activities book) (omega arith) is_route (weight table book k duals)) [
      | inl none ↦ inl (λ route l f. both_ways (is_route route)
          (none route (rising_in_whole_range (activities book) route (rise book sound k route l))) (is_route_of route l f))
      | inr some ↦ (let (route, best) = some in inr (weight table book k duals route, of_lightest route best))
    ]

  -- where nobody is stuck each aircraft has one, and so there is a sum
  module _ (duals : List ℤ) (free : (k : ℕ) → k < aircraft book → ¬ IsStuck book marks k) where
    abbrev least_value : (k : ℕ) → IsStuck book marks k ⊎ ((value : ℤ) × IsLeastWeight table book marks k duals value) → ℤ
    least_value k (inl stuck) = pos 0
    least_value k (inr some) = some.0

    is_least_value : (k : ℕ) (either : IsStuck book marks k ⊎ ((value : ℤ) × IsLeastWeight table book marks k duals value)) → k < aircraft book
        → IsLeastWeight table book marks k duals (least_value k either)
    is_least_value k (inl stuck) hk = absurd (free k hk stuck)
    is_least_value k (inr some) hk = some.1

    abbrev least_at : ℕ → ℤ
    least_at k = least_value k (stuck_or_least k duals)

    abbrev values : List ℤ
    values = map least_at (range_with_len 0 (aircraft book))

    pub sum_exists : (sum : ℤ) × IsSum table book marks duals sum
    sum_exists = (
      lagrangian duals values,
      (
        values,
        record {
          one_each = length-map-range_with_len least_at 0 (aircraft book);
          each = λ k hk. rw (get_or-map-range_with_len least_at 0 (aircraft book) k k (pos 0) hk (omega arith)) (is_least_value k (stuck_or_least k duals) hk);
        },
        refl,
      ),
    )
