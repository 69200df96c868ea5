-- Potentials bound uses. Along a route, what each activity comes with and what stands before it leaves are no more than what their
-- connection uses; what the last one leaves is no gain. Over the routes of a plan each activity stands once.
use Rattle.std.specs.Prelude.{All, cond}
use Rattle.std.proofs.Common.{◌≡◌, ◌∙◌, ℕ, zero, suc, ℤ, pos, ◌+◌, ◌+ℤ◌, ◌≤ℤ◌, ◌<◌, Bool, true, false, arith, List, [], ◌∷◌, map, length, sym, refl, ap, get_or}
use Rattle.std.proofs.lemmas.Int.{ints}
use Rattle.tail_book.specs.Seen.{BookSeen}
use Rattle.tail_book.specs.declared.place.Place.{Place}
use Rattle.tail_book.specs.declared.place.Place.TheVariants.{Carry, After}
use Rattle.tail_book.specs.Lookup.{activities, aircraft, carry_of}
use Rattle.tail_book.specs.Link.{IsLink}
use Rattle.tail_book.specs.Counters.{step}
use Rattle.tail_book.specs.Plan.{IsLegalPlan, route_of}
use Rattle.tail_book.specs.Route.{IsLegalFrom}
use Rattle.tail_book.specs.Sums.{total, sum_below}
use Rattle.tail_book.specs.inside.Partition.{TotalOfLegalPlan}
use Rattle.tail_book.specs.inside.Sums.{TotalByNumber}
use Rattle.quota_rows.specs.Belongs.{belongs_at}
use Rattle.quota_rows.specs.KeptPlans.{uses, uses_from, uses_in}
use Rattle.quota_rows.specs.declared.quota.Quota.{Quota}
use Rattle.quota_demands.specs.Potentials.{ArePotentials, potential}

-- a number that is at most 0 where all of a list are
low_at : (values : List ℤ) (i : ℕ) → All (λ value. value ≤ℤ pos 0) values → potential values i ≤ℤ pos 0
low_at [] i low = omega (arith, ints)
low_at (v ∷ values) zero low = low 0 (pos 0) (omega arith)
low_at (v ∷ values) (suc i) low = low_at values i (λ j d lt. low (suc j) d (omega (arith, lt)))

sums_add : (n : ℕ) (f g : ℕ → ℤ) → sum_below n (λ i. f i +ℤ g i) ≡ sum_below n f +ℤ sum_below n g
sums_add zero f g = refl
sums_add (suc n) f g = let rest = sums_add n (λ i. f (suc i)) (λ i. g (suc i)) in omega (arith, ints, rest)

once : (c : Bool) (n : ℕ) (low rest : ℤ) → low ≤ℤ cond c (pos 1) (pos 0) → rest ≤ℤ pos n → (low +ℤ rest) ≤ℤ pos (cond c 1 0 + n)
once true n low rest h i = omega (arith, ints, h, i)
once false n low rest h i = omega (arith, ints, h, i)

module _ (book : BookSeen) (quota : Quota) (coming leaving carried : List ℤ) (are : ArePotentials book quota coming leaving carried) where
  both : ℕ → ℤ
  both b = potential coming b +ℤ potential leaving b

  left : ℕ → Place → ℤ
  left k Carry = potential carried k
  left k (After a) = potential leaving a

  left_low : (k : ℕ) (x : Place) → left k x ≤ℤ pos 0
  unfolding left
  left_low k Carry = low_at carried k are.carried_low
  left_low k (After a) = low_at leaving a are.leaving_low

  connected : (k : ℕ) → k < aircraft book → (x : Place) (b : ℕ) → b < activities book → IsLink book k x b
      → (potential coming b +ℤ left k x) ≤ℤ cond (belongs_at book quota x b) (pos 1) (pos 0)
  unfolding left
  connected k hk Carry b hb link = are.first k hk b link
  connected k hk (After a) b hb link = are.after b hb a (k, hk, link)

  along : (k : ℕ) → k < aircraft book → (x : Place) (values : List ℤ) (route : List ℕ) → IsLegalFrom book k x values route
      → (left k x +ℤ total (map both route)) ≤ℤ pos (uses_from book quota x route)
  unfolding both left
  along k hk x values [] legal = let low = left_low k x in omega (arith, ints, low)
  along k hk x values (b ∷ rest) legal =
      let (hb, link, within, more) = legal in
      let here = connected k hk x b hb link in
      let behind = along k hk (After b) (step book k x b values) rest more in
      let step_on = once (belongs_at book quota x b) (uses_from book quota (After b) rest) (potential coming b +ℤ left k x)
      (potential leaving b +ℤ total (map both rest)) here behind in
      omega (arith, ints, step_on)

  -- what the routes of aircraft k, k + 1 and so on come to is no more than how often they use the quota
  over : (k : ℕ) (rest : List ℤ) (plan : List (List ℕ)) → length rest ≡ length plan
      → ((i j : ℕ) → j ≡ k + i → i < length plan → (get_or rest i (pos 0) +ℤ total (map both (route_of plan i))) ≤ℤ pos (uses_in book quota (route_of plan i)))
      → (total rest +ℤ total (map (λ route. total (map both route)) plan)) ≤ℤ pos (uses book quota plan)
  over k [] [] same each = omega (arith, ints)
  over k [] (route ∷ plan) same each = absurd (omega (arith, same))
  over k (v ∷ rest) [] same each = absurd (omega (arith, same))
  over k (v ∷ rest) (route ∷ plan) same each =
      let here = each 0 k (omega arith) (omega arith) in
      let more = over (k + 1) rest plan (omega (arith, same)) (λ i j e lt. each (suc i) j (omega (arith, e)) (omega (arith, lt))) in
      omega (arith, ints, here, more)

  pub plan_bound : TotalByNumber → TotalOfLegalPlan → (plan : List (List ℕ)) → IsLegalPlan book plan
      → (total coming +ℤ (total leaving +ℤ total carried)) ≤ℤ pos (uses book quota plan)
  unfolding left both
  plan_bound by_number of_plan plan legal =
      let sums = over 0 carried plan (are.one_carried ∙ sym legal.one_each)
      (λ i j e lt. let hi : i < aircraft book = omega (arith, legal.one_each, lt) in
      along i hi Carry (carry_of book i) (route_of plan i) (legal.routes i hi)) in
      let all : total (map (λ route. total (map both route)) plan) ≡ sum_below (activities book) both = of_plan book both plan legal in
      let apart = sums_add (activities book) (potential coming) (potential leaving) in
      let come : total coming ≡ sum_below (activities book) (potential coming) = by_number coming ∙ ap (λ (n : ℕ). sum_below n (potential coming)) are.one_coming in
      let leave : total leaving ≡ sum_below (activities book) (potential leaving) = by_number leaving ∙ ap (λ (n : ℕ). sum_below n (potential leaving)) are.one_leaving in
      let whole : sum_below (activities book) both ≡ sum_below (activities book) (potential coming) +ℤ sum_below (activities book) (potential leaving) = apart in
      omega (arith, ints, sums, all, whole, come, leave)
