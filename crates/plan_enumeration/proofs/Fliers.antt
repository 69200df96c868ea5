-- Every legal plan is the plan of an assignment, that of its fliers, and the plan of a legal assignment is legal: both
-- by the laws of fliers. In a legal plan each activity has a flier of the book, and the plan of these fliers is the
-- plan itself, so their routes are its own and thus legal.
use Rattle.std.proofs.Common.{◌≡◌, ◌∙◌, ℕ, ◌<◌, arith, List, [], length, sym, ap, subst}
use Rattle.std.proofs.lemmas.List.FromFn.{length-map-range_with_len, get_or-map-range_with_len}
use Rattle.tail_book.specs.Seen.{BookSeen}
use Rattle.tail_book.specs.Lookup.{activities, aircraft}
use Rattle.tail_book.specs.Route.{IsLegalRoute}
use Rattle.tail_book.specs.Plan.{route_of, IsLegalPlan}
use Rattle.tail_book.specs.Fliers.{flier, fliers_of, plan_by, route_by}
use Rattle.tail_book.specs.inside.Fliers.{FliersFly, PlansByFliersAreLegal, PlansOfTheirFliers}
use Rattle.tail_book.specs.inside.Sound.{IsBook}
use Rattle.plan_enumeration.specs.inside.Assignment.{IsLegalAssignment}

pub assignment_of : FliersFly → PlansOfTheirFliers → (book : BookSeen) → IsBook book → (plan : List (List ℕ)) → IsLegalPlan book plan
    → (who : List ℕ) × IsLegalAssignment book who × (plan_by who (aircraft book) ≡ plan)
assignment_of fly again book sound plan legal =
    let n = activities book in
    let who : List ℕ = fliers_of plan n in
    let whole : length who ≡ n = length-map-range_with_len (flier plan) 0 n in
    let same : plan_by who (aircraft book) ≡ plan = again book sound plan legal in (
      who,
      record {
        whole = whole;
        legal = record {
          fliers = λ a d lt. let below : a < n = omega (arith, lt, whole) in
              subst (λ (k : ℕ). k < aircraft book) (sym (get_or-map-range_with_len (flier plan) 0 n a a d below (omega arith))) (fly book plan legal a below).0;
          routes = λ k lt.
              let path : route_by who k ≡ route_of plan k = sym (get_or-map-range_with_len (route_by who) 0 (aircraft book) k k [] lt (omega arith)) ∙ ap (λ (p : List (List ℕ)). route_of p k) same in
              subst (λ (route : List ℕ). IsLegalRoute book k route) (sym path) (legal.routes k lt);
        };
      },
      same,
    )

pub legal_plan_of : PlansByFliersAreLegal → (book : BookSeen) (who : List ℕ) → IsLegalAssignment book who → IsLegalPlan book (plan_by who (aircraft book))
legal_plan_of legal_by book who h = legal_by book who h.whole h.legal.fliers h.legal.routes
