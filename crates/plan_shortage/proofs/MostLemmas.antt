-- No plan's surpluses pass the mosts, and the mosts of all aircraft come to one number.
use Rattle.std.proofs.Common.{◌≡◌, ℕ, suc, ℤ, pos, ◌+ℤ◌, ◌≤ℤ◌, ◌<◌, arith, List, [], ◌∷◌, map, length, get_or}
use Rattle.std.proofs.lemmas.Int.{ints}
use Rattle.std.specs.Prelude.{◌<ℤ◌}
use Rattle.tail_book.specs.Seen.{BookSeen}
use Rattle.tail_book.specs.Lookup.{aircraft}
use Rattle.tail_book.specs.Plan.{route_of}
use Rattle.tail_book.specs.Sums.{total}
use Rattle.plan_shortage.specs.Shortage.{surplus, most_of, AreMosts, IsShortage, ShortagesLeaveNoPlan, due}
use Rattle.plan_shortage.specs.inside.Laws.{SurplusesAreDue, MostsComeToOne}

-- a list of numbers, each of them at most the one at its place in another list
total_at_most : (some others : List ℤ) → length some ≡ length others → ((i : ℕ) → i < length some → get_or some i (pos 0) ≤ℤ get_or others i (pos 0))
    → total some ≤ℤ total others
total_at_most [] [] same each = omega (arith, ints)
total_at_most [] (other ∷ others) same each = absurd (omega (arith, same))
total_at_most (one ∷ some) [] same each = absurd (omega (arith, same))
total_at_most (one ∷ some) (other ∷ others) same each =
    let here : one ≤ℤ other = each 0 (omega arith) in
    let rest = total_at_most some others (omega (arith, same)) (λ i lt. each (suc i) (omega (arith, lt))) in
    omega (arith, ints, here, rest)

-- the same of the surpluses of routes
surpluses_at_most : (asked brought : List ℕ) (plan : List (List ℕ)) (mosts : List ℤ) → length mosts ≡ length plan
    → ((i : ℕ) → i < length plan → surplus asked brought (route_of plan i) ≤ℤ most_of mosts i) → total (map (surplus asked brought) plan) ≤ℤ total mosts
surpluses_at_most asked brought [] [] same each = omega (arith, ints)
surpluses_at_most asked brought [] (most ∷ mosts) same each = absurd (omega (arith, same))
surpluses_at_most asked brought (route ∷ plan) [] same each = absurd (omega (arith, same))
surpluses_at_most asked brought (route ∷ plan) (most ∷ mosts) same each =
    let here : surplus asked brought route ≤ℤ most = each 0 (omega arith) in
    let rest = surpluses_at_most asked brought plan mosts (omega (arith, same)) (λ i lt. each (suc i) (omega (arith, lt))) in
    added (surplus asked brought route) most (total (map (surplus asked brought) plan)) (total mosts) here rest
  where
    added : (one most rest others : ℤ) → one ≤ℤ most → rest ≤ℤ others → (one +ℤ rest) ≤ℤ (most +ℤ others)
    added one most rest others h i = omega (arith, ints, h, i)

pub no_plan_is_legal : SurplusesAreDue → ShortagesLeaveNoPlan
no_plan_is_legal are_due book asked brought mosts is_short plan legal =
    let all = are_due book asked brought is_short.of_asked is_short.of_brought plan legal in
    let most = surpluses_at_most asked brought plan mosts (omega (arith, is_short.are_mosts.one_each, legal.one_each))
    (λ i lt. let hi : i < aircraft book = omega (arith, lt, legal.one_each) in (is_short.are_mosts.each i hi).none_above (route_of plan i) (legal.routes i hi)) in
    refuted (total (map (surplus asked brought) plan)) (total mosts) (due asked brought) all most is_short.short
  where
    refuted : (all most wanted : ℤ) → all ≡ wanted → all ≤ℤ most → most <ℤ wanted → ⊥
    refuted all most wanted h i j = omega (arith, ints, h, i, j)

-- what one list has for an aircraft is no less than what the other has, since a route attains that
no_less : (book : BookSeen) (asked brought : List ℕ) (one other : List ℤ) → AreMosts book asked brought one → AreMosts book asked brought other → total other ≤ℤ total one
no_less book asked brought one other h i =
    total_at_most other one (omega (arith, h.one_each, i.one_each)) (λ k lt. at k (omega (arith, lt, i.one_each)))
  where
    at : (k : ℕ) → k < aircraft book → most_of other k ≤ℤ most_of one k
    at k lt = let (route, legal, has) = (i.each k lt).attained in let most = (h.each k lt).none_above route legal in omega (arith, ints, has, most)

pub come_to_one : MostsComeToOne
come_to_one book asked brought one other h i =
    let down = no_less book asked brought one other h i in
    let up = no_less book asked brought other one i h in
    omega (arith, ints, down, up)

-- where the mosts that are found are not short, none are
pub none_is_short : MostsComeToOne → (book : BookSeen) (asked brought : List ℕ) (found : List ℤ) → AreMosts book asked brought found
    → ¬ (total found <ℤ due asked brought) → (mosts : List ℤ) → ¬ IsShortage book asked brought mosts
none_is_short law book asked brought found are enough mosts shortage =
    let same = law book asked brought mosts found shortage.are_mosts are in
    enough (moved (total mosts) (total found) (due asked brought) same shortage.short)
  where
    moved : (one other wanted : ℤ) → one ≡ other → one <ℤ wanted → other <ℤ wanted
    moved one other wanted h i = omega (arith, ints, h, i)
