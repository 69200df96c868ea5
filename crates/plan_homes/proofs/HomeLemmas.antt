-- The homes of a published plan are of the book: there is one for each activity, and where it is an aircraft, it is the
-- number of a route of the kept plan, which has one for each aircraft.
use Rattle.std.proofs.Common.{◌≡◌, ℕ, Bool, true, false, arith, List, length, refl, sym, subst}
use Rattle.std.proofs.lemmas.List.Elements.{All-from_get_or}
use Rattle.std.proofs.lemmas.List.FromFn.{length-map-range_with_len, get_or-map-range_with_len}
use Rattle.std.specs.Prelude.{IsTrue, Option, None, Some, cond, nat_lt, ◌<◌}
use Rattle.std.specs.List.{position_or_len}
use Rattle.tail_book.specs.Numbers.{contains}
use Rattle.tail_book.specs.Lookup.{activities, aircraft}
use Rattle.tail_book.specs.inside.Sound.{is_none_or_below}
use Rattle.plan_audit.specs.Kept.{kept}
use Rattle.plan_audit.specs.inside.Laws.{KeptPlansFlyOnce}
use Rattle.plan_homes.specs.Homes.{home, home_in, homes}
use Rattle.plan_homes.specs.inside.Laws.{HomesAreForTheBook}

-- it is the number of one of the routes, or nobody
below_by : (b : Bool) (at n m : ℕ) → nat_lt at n ≡ b → n ≡ m → IsTrue (is_none_or_below (cond b (Some at) None) m)
below_by true at n m here same = subst (λ (size : ℕ). nat_lt at size ≡ true) same here
below_by false at n m none same = refl

home_below : (routes : List (List ℕ)) (m a : ℕ) → length routes ≡ m → IsTrue (is_none_or_below (home_in routes a) m)
home_below routes m a same =
    let at = position_or_len (λ route. contains route a) routes in
    below_by (nat_lt at (length routes)) at (length routes) m refl same

pub homes_for : KeptPlansFlyOnce → HomesAreForTheBook
homes_for kept_once book raw = record {
  one_each = length-map-range_with_len (home book raw) 0 (activities book);
  in_range = All-from_get_or (λ (h : Option ℕ). IsTrue (is_none_or_below h (aircraft book))) (homes book raw) None
      (λ a lt. subst (λ (h : Option ℕ). IsTrue (is_none_or_below h (aircraft book)))
      (sym (get_or-map-range_with_len (home book raw) 0 (activities book) a a None (within a lt) (omega arith)))
      (home_below (kept book raw) (aircraft book) a (kept_once book raw).one_each));
}
  where
    within : (a : ℕ) → a < length (homes book raw) → a < activities book
    within a lt = subst (λ (n : ℕ). a < n) (length-map-range_with_len (home book raw) 0 (activities book)) lt
