-- Every kept plan has a route for each aircraft, of activities of the book, and flies none twice: it flies an activity
-- as often as it was met, and the activities that were met differ.
use Rattle.std.proofs.Common.{sym, subst, arith, ℕ, ◌<◌, ◌≤◌, inl, inr, Bool, true, false, if◌then◌else◌, nat_eq, List, [], ◌∷◌, All}
use Rattle.std.specs.Prelude.{count_by}
use Rattle.std.specs.List.{IsDistinct}
use Rattle.std.proofs.lemmas.Bool.{cases_Bool}
use Rattle.std.proofs.lemmas.List.Elements.{All-nil, All-cons, All-head, All-tail, All-from_get_or}
use Rattle.std.proofs.lemmas.List.FromFn.{length-map-range_with_len}
use Rattle.tail_book.specs.Seen.{BookSeen}
use Rattle.tail_book.specs.Numbers.{contains}
use Rattle.tail_book.specs.Lookup.{activities, aircraft}
use Rattle.plan_audit.specs.declared.met.Met.{Met}
use Rattle.plan_audit.specs.declared.met.Met.TheVariants.{Unknown, Twice, Tail, Activity}
use Rattle.plan_audit.specs.inside.Met.{IsMetOf}
use Rattle.plan_audit.specs.Met.{activities_met, names_met}
use Rattle.plan_audit.specs.Kept.{next_route, route_met, kept}
use Rattle.plan_audit.specs.inside.Laws.{KeptPlansFlyOnce}
use Rattle.plan_audit.proofs.WellMet.{names_well_met}
use Rattle.plan_audit.proofs.Along.{kept_times, count_none, count_one}
use Rattle.plan_audit.proofs.Unbroken.{kept_route}

routes_of_book : (book : BookSeen) (met : List Met) → All (IsMetOf book) met
    → All (λ a. a < activities book) (next_route met) × ((k : ℕ) → All (λ a. a < activities book) (route_met met k))
routes_of_book book [] all = (All-nil (λ a. a < activities book), (λ k. All-nil (λ a. a < activities book)))
routes_of_book book (Unknown name ∷ met) all = routes_of_book book met (All-tail (IsMetOf book) (Unknown name) met all)
routes_of_book book (Twice name ∷ met) all = routes_of_book book met (All-tail (IsMetOf book) (Twice name) met all)
routes_of_book book (Tail j ∷ met) all =
    let rest = routes_of_book book met (All-tail (IsMetOf book) (Tail j) met all) in
    (All-nil (λ a. a < activities book), (λ k. by (nat_eq k j) k rest.0 (rest.1 k)))
  where
    by : (t : Bool) (k : ℕ) → All (λ a. a < activities book) (next_route met) → All (λ a. a < activities book) (route_met met k)
        → All (λ a. a < activities book) (if t then next_route met else route_met met k)
    by true k here there = here
    by false k here there = there
routes_of_book book (Activity b ∷ met) all =
    let rest = routes_of_book book met (All-tail (IsMetOf book) (Activity b) met all) in
    let within : b < activities book = All-head (IsMetOf book) (Activity b) met all in
    (All-cons (λ a. a < activities book) b (next_route met) within rest.0, rest.1)

at_most_once : (a : ℕ) (xs : List ℕ) → IsDistinct nat_eq xs → count_by (nat_eq a) xs ≤ 1
at_most_once a xs differ = elim (cases_Bool (contains xs a)) [
  | inl among ↦ (let one = count_one a xs differ among in omega (arith, one))
  | inr apart ↦ (let none = count_none a xs apart in omega (arith, none))
]

pub kept_once : KeptPlansFlyOnce
kept_once book raw =
    let met = names_met book raw in
    let well = names_well_met book raw in
    let long = length-map-range_with_len (route_met met) 0 (aircraft book) in
    record {
      one_each = long;
      of_book = All-from_get_or (All (λ a. a < activities book)) (kept book raw) []
          (λ k below. subst (All (λ a. a < activities book)) (sym (kept_route book raw k (omega (arith, long, below)))) ((routes_of_book book met well.of_book).1 k));
      once = λ a. let times = kept_times book raw a in let most = at_most_once a (activities_met met) well.activities in omega (arith, times, most);
    }
