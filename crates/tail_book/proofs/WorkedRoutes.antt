-- Worked lists: the definitions over routes, fliers, sums and counters that need no book.
--
-- The rows show values that are at most others and values that are not, a sum with a negative, an activity that is
-- flown twice and one that nobody flies, and a plan with its fliers, each from the other.
use Rattle.std.proofs.Common.{◌≡◌, ℕ, pos, negsuc, ◌*◌, true, false, List, [], ◌∷◌, Some, None, refl}
use Rattle.tail_book.specs.declared.flown.Flown.TheVariants.{Never, Once, More}
use Rattle.tail_book.specs.CounterOrder.{each_at_most}
use Rattle.tail_book.specs.Sums.{total, sum_below}
use Rattle.tail_book.specs.inside.Partition.{all_flown}
use Rattle.tail_book.specs.inside.Flown.{flown_by, least_not_once}
use Rattle.tail_book.specs.Fliers.{flier, fliers_of, route_by, plan_by}

-- equal values are at most one another, one that is higher is not, and as many are asked for
equal_and_lower : each_at_most (pos 2 ∷ pos 3 ∷ []) (pos 2 ∷ pos 4 ∷ []) ≡ true
equal_and_lower = refl

one_is_higher : each_at_most (pos 2 ∷ pos 5 ∷ []) (pos 2 ∷ pos 4 ∷ []) ≡ false
one_is_higher = refl

one_is_missing : each_at_most (pos 2 ∷ []) (pos 2 ∷ pos 4 ∷ []) ≡ false
one_is_missing = refl

-- 5 - 2 + 4, and 0 + 1 + 4 + 9
total_with_a_negative : total (pos 5 ∷ negsuc 1 ∷ pos 4 ∷ []) ≡ pos 7
total_with_a_negative = refl

squares_below_four : sum_below 4 (λ a. pos (a * a)) ≡ pos 14
squares_below_four = refl

-- three routes of five activities, of which the second and the last are flown amiss
abbrev amiss : List (List ℕ)
amiss = (0 ∷ 1 ∷ []) ∷ [] ∷ (1 ∷ 2 ∷ 3 ∷ []) ∷ []

flown_in_order : all_flown amiss ≡ 0 ∷ 1 ∷ 1 ∷ 2 ∷ 3 ∷ []
flown_in_order = refl

flown_by_one : flown_by amiss 2 ≡ Once
flown_by_one = refl

flown_by_two : flown_by amiss 1 ≡ More
flown_by_two = refl

flown_by_nobody : flown_by amiss 4 ≡ Never
flown_by_nobody = refl

least_amiss : least_not_once amiss 5 ≡ Some 1
least_amiss = refl

-- three routes that have each of four activities once
abbrev shared : List (List ℕ)
shared = (1 ∷ 3 ∷ []) ∷ [] ∷ (0 ∷ 2 ∷ []) ∷ []

nothing_is_amiss : least_not_once shared 4 ≡ None
nothing_is_amiss = refl

fifth_is_missing : least_not_once shared 5 ≡ Some 4
fifth_is_missing = refl

fliers_of_shared : fliers_of shared 4 ≡ 2 ∷ 0 ∷ 2 ∷ 0 ∷ []
fliers_of_shared = refl

nobody_flies : flier shared 4 ≡ 3
nobody_flies = refl

route_of_third : route_by (2 ∷ 0 ∷ 2 ∷ 0 ∷ []) 2 ≡ 0 ∷ 2 ∷ []
route_of_third = refl

shared_again : plan_by (2 ∷ 0 ∷ 2 ∷ 0 ∷ []) 3 ≡ shared
shared_again = refl
