-- In a legal plan the surpluses of all routes come to what is due.
--
-- A surplus is a sum over the route's activities: each adds 1 where it is asked for, and 1 less where it is brought. A
-- legal plan flies each activity once, so over all routes the sum is that over the book, in which each of the asked and of
-- the brought activities stands once.
use Rattle.std.proofs.Common.{◌≡◌, ℕ, ℤ, ◌+◌, ◌-ℤ◌, cond, arith, List, [], ◌∷◌, map}
use Rattle.std.proofs.lemmas.Int.{ints}
use Rattle.std.proofs.lemmas.List.Sums.{sum_by-cons}
use Rattle.tail_book.specs.Numbers.{contains}
use Rattle.tail_book.specs.Lookup.{activities}
use Rattle.tail_book.specs.Sums.{total}
use Rattle.tail_book.specs.inside.Partition.{TotalOfLegalPlan}
use Rattle.plan_shortage.specs.Shortage.{had, surplus}
use Rattle.plan_shortage.specs.inside.Laws.{SurplusesAreDue}
use Rattle.plan_shortage.proofs.Shares.{share, sum_below_less, shares_below}

-- one activity more
pub had_more : (list : List ℕ) (a : ℕ) (route : List ℕ) → had list (a ∷ route) ≡ cond (contains list a) 1 0 + had list route
had_more list a route = sum_by-cons (λ b. cond (contains list b) 1 0) a route

module _ (asked brought : List ℕ) where
  -- what an activity adds to a surplus
  abbrev part : ℕ → ℤ
  part a = share asked a -ℤ share brought a

  one_route : (route : List ℕ) → surplus asked brought route ≡ total (map part route)
  one_route [] = omega (arith, ints)
  one_route (a ∷ route) =
      let rest = one_route route in
      let more = had_more asked a route in
      let less = had_more brought a route in
      omega (arith, ints, rest, more, less)

  all_routes : (plan : List (List ℕ)) → total (map (surplus asked brought) plan) ≡ total (map (λ route. total (map part route)) plan)
  all_routes [] = omega (arith, ints)
  all_routes (route ∷ plan) = let here = one_route route in let rest = all_routes plan in omega (arith, ints, here, rest)

pub surpluses_are_due : TotalOfLegalPlan → SurplusesAreDue
surpluses_are_due of_plan book asked brought of_asked of_brought plan legal =
    let routes = all_routes asked brought plan in
    let whole = of_plan book (part asked brought) plan legal in
    let parts = sum_below_less (activities book) (share asked) (share brought) in
    let more = shares_below (activities book) asked of_asked.of_book of_asked.none_twice in
    let less = shares_below (activities book) brought of_brought.of_book of_brought.none_twice in
    omega (arith, ints, routes, whole, parts, more, less)
