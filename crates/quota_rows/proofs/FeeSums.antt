-- Fees summed up in two ways. Along a route, connection by connection: so a route's weight with fees is added up along it.
-- And quota by quota: of a plan the fees come to each quota's fee as often as the plan uses it, so where the plan keeps the
-- quotas they come to no more than where each is used as often as it may be.
use Rattle.std.specs.Prelude.{All, cond}
use Rattle.std.proofs.Common.{◌≡◌, ap, ℕ, zero, suc, ℤ, pos, negsuc, ◌+◌, ◌*◌, ◌+ℤ◌, ◌≤ℤ◌, ◌≤◌, Bool, true, false, arith, List, [], ◌∷◌, ◌++◌, map, refl}
use Rattle.std.proofs.Math.IntN.{pos-*ℤ-pos, suc_ℤ-*ℤ, zero-*ℤ, *ℤ-zero}
use Rattle.std.proofs.Math.Nat.{mul-le-mul}
use Rattle.std.proofs.lemmas.Int.{ints}
use Rattle.std.proofs.lemmas.List.Elements.{All-head, All-tail}
use Rattle.std.specs.Prelude.{◌*ℤ◌}
use Rattle.tail_book.specs.Seen.{BookSeen}
use Rattle.tail_book.specs.Sums.{total}
use Rattle.tail_book.specs.TableSeen.{CostTableSeen}
use Rattle.tail_book.specs.declared.place.Place.{Place}
use Rattle.tail_book.specs.declared.place.Place.TheVariants.{Carry, After}
use Rattle.tail_book.specs.inside.Route.{place_after}
use Rattle.branch_marks.specs.Weights.{arc_weight, weight_from}
use Rattle.quota_rows.specs.Belongs.{belongs}
use Rattle.quota_rows.specs.Fees.{fee_of, fee_at, fees_from, fees_on, fees_at_most}
use Rattle.quota_rows.specs.FeeWeights.{fee_weight_from}
use Rattle.quota_rows.specs.KeptPlans.{KeepsQuota, uses, uses_from, uses_in}
use Rattle.quota_rows.specs.declared.quota.Quota.{Quota}

-- along a route
along_step : (arc fee weight fees : ℤ) → (arc +ℤ fee) +ℤ (weight +ℤ fees) ≡ (arc +ℤ weight) +ℤ (fee +ℤ fees)
along_step arc fee weight fees = omega (arith, ints)

pub fee_weights_along : (table : CostTableSeen) (book : BookSeen) (quotas : List Quota) (k : ℕ) (duals fees : List ℤ) (x : Place) (route : List ℕ)
    → fee_weight_from table book quotas k duals fees x route ≡ weight_from table book k duals x route +ℤ fees_from book quotas fees x route
fee_weights_along table book quotas k duals fees x [] = refl
fee_weights_along table book quotas k duals fees x (b ∷ rest) =
    rw (fee_weights_along table book quotas k duals fees (After b) rest)
    (along_step (arc_weight table book k duals x b) (fee_at book quotas fees x b) (weight_from table book k duals (After b) rest) (fees_from book quotas fees (After b) rest))

more_step : (here rest last : ℤ) → here +ℤ (rest +ℤ last) ≡ (here +ℤ rest) +ℤ last
more_step here rest last = omega (arith, ints)

end_step : (last : ℤ) → last +ℤ pos 0 ≡ pos 0 +ℤ last
end_step last = omega (arith, ints)

pub fees_with_one_more : (book : BookSeen) (quotas : List Quota) (fees : List ℤ) (x : Place) (route : List ℕ) (b : ℕ)
    → fees_from book quotas fees x (route ++ b ∷ []) ≡ fees_from book quotas fees x route +ℤ fee_at book quotas fees (place_after x route) b
fees_with_one_more book quotas fees x [] b = end_step (fee_at book quotas fees x b)
fees_with_one_more book quotas fees x (a ∷ route) b =
    rw (fees_with_one_more book quotas fees (After a) route b)
    (more_step (fee_at book quotas fees x a) (fees_from book quotas fees (After a) route) (fee_at book quotas fees (place_after (After a) route) b))

-- where all fees are 0 nothing is paid
none : (c : Bool) (fee fees : ℤ) → fee ≡ pos 0 → fees ≡ pos 0 → cond c fee (pos 0) +ℤ fees ≡ pos 0
none true fee fees e f = omega (arith, ints, e, f)
none false fee fees e f = omega (arith, ints, f)

pub fee_of-none : (book : BookSeen) (quotas : List Quota) (fees : List ℤ) (a b : ℕ) → All (λ fee. fee ≡ pos 0) fees → fee_of book quotas fees a b ≡ pos 0
fee_of-none book [] fees a b zeros = refl
fee_of-none book (quota ∷ quotas) [] a b zeros = refl
fee_of-none book (quota ∷ quotas) (fee ∷ fees) a b zeros =
    none (belongs book quota a b) fee (fee_of book quotas fees a b) (All-head (λ f. f ≡ pos 0) fee fees zeros)
    (fee_of-none book quotas fees a b (All-tail (λ f. f ≡ pos 0) fee fees zeros))

fee_at-none : (book : BookSeen) (quotas : List Quota) (fees : List ℤ) (x : Place) (b : ℕ) → All (λ fee. fee ≡ pos 0) fees → fee_at book quotas fees x b ≡ pos 0
fee_at-none book quotas fees Carry b zeros = refl
fee_at-none book quotas fees (After a) b zeros = fee_of-none book quotas fees a b zeros

pub fees_from-none : (book : BookSeen) (quotas : List Quota) (fees : List ℤ) (x : Place) (route : List ℕ) → All (λ fee. fee ≡ pos 0) fees
    → fees_from book quotas fees x route ≡ pos 0
fees_from-none book quotas fees x [] zeros = refl
fees_from-none book quotas fees x (b ∷ rest) zeros =
    rw (fee_at-none book quotas fees x b zeros, fees_from-none book quotas fees (After b) rest zeros) refl

no_fee : (most : ℕ) (fee rest : ℤ) → fee ≡ pos 0 → rest ≡ pos 0 → pos most *ℤ fee +ℤ rest ≡ pos 0
no_fee most fee rest e f = rw (e, f) (ap (λ (z : ℤ). z +ℤ pos 0) (*ℤ-zero (pos most)))

pub fees_at_most-none : (quotas : List Quota) (fees : List ℤ) → All (λ fee. fee ≡ pos 0) fees → fees_at_most quotas fees ≡ pos 0
fees_at_most-none [] fees zeros = refl
fees_at_most-none (quota ∷ quotas) [] zeros = refl
fees_at_most-none (quota ∷ quotas) (fee ∷ fees) zeros =
    no_fee quota.most fee (fees_at_most quotas fees) (All-head (λ f. f ≡ pos 0) fee fees zeros)
    (fees_at_most-none quotas fees (All-tail (λ f. f ≡ pos 0) fee fees zeros))

-- quota by quota: one connection that a quota has
counted : (c : Bool) (n : ℕ) (fee rest fees : ℤ)
    → (cond c fee (pos 0) +ℤ rest) +ℤ (pos n *ℤ fee +ℤ fees) ≡ pos (cond c 1 0 + n) *ℤ fee +ℤ (rest +ℤ fees)
counted true n fee rest fees =
    let more : 1 + n ≡ suc n = omega arith in
    let once : pos (suc n) *ℤ fee ≡ pos n *ℤ fee +ℤ fee = suc_ℤ-*ℤ (pos n) fee in
    rw (more, once) (omega (arith, ints))
counted false n fee rest fees =
    let same : 0 + n ≡ n = omega arith in
    rw same (omega (arith, ints))

nothing : (fee : ℤ) → pos 0 ≡ pos 0 *ℤ fee +ℤ pos 0
nothing fee = rw (zero-*ℤ fee) refl

-- the fees of a route's rest are those of the first quota as often as it is used, and those of the other quotas
fees_by_quota : (book : BookSeen) (quota : Quota) (quotas : List Quota) (fee : ℤ) (fees : List ℤ) (x : Place) (route : List ℕ)
    → fees_from book (quota ∷ quotas) (fee ∷ fees) x route ≡ pos (uses_from book quota x route) *ℤ fee +ℤ fees_from book quotas fees x route
fees_by_quota book quota quotas fee fees x [] = nothing fee
fees_by_quota book quota quotas fee fees Carry (b ∷ rest) =
    rw (fees_by_quota book quota quotas fee fees (After b) rest)
    (counted false (uses_from book quota (After b) rest) fee (pos 0) (fees_from book quotas fees (After b) rest))
fees_by_quota book quota quotas fee fees (After a) (b ∷ rest) =
    rw (fees_by_quota book quota quotas fee fees (After b) rest)
    (counted (belongs book quota a b) (uses_from book quota (After b) rest) fee (fee_of book quotas fees a b) (fees_from book quotas fees (After b) rest))

-- the fees of a plan's routes, all together
abbrev pub fees_of_plan : BookSeen → List Quota → List ℤ → List (List ℕ) → ℤ
fees_of_plan book quotas fees plan = total (map (λ route. fees_on book quotas fees route) plan)

routes_step : (n m : ℕ) (fee here rest : ℤ) → (pos n *ℤ fee +ℤ here) +ℤ (pos m *ℤ fee +ℤ rest) ≡ pos (n + m) *ℤ fee +ℤ (here +ℤ rest)
routes_step zero m fee here rest =
    let same : zero + m ≡ m = omega arith in
    rw (same, zero-*ℤ fee) (omega (arith, ints))
routes_step (suc n) m fee here rest =
    let more : suc n + m ≡ suc (n + m) = omega arith in
    let once : pos (suc n) *ℤ fee ≡ pos n *ℤ fee +ℤ fee = suc_ℤ-*ℤ (pos n) fee in
    let all : pos (suc (n + m)) *ℤ fee ≡ pos (n + m) *ℤ fee +ℤ fee = suc_ℤ-*ℤ (pos (n + m)) fee in
    let before = routes_step n m fee here rest in
    rw (more, once, all) (omega (arith, ints, before))

plan_by_quota : (book : BookSeen) (quota : Quota) (quotas : List Quota) (fee : ℤ) (fees : List ℤ) (plan : List (List ℕ))
    → fees_of_plan book (quota ∷ quotas) (fee ∷ fees) plan ≡ pos (uses book quota plan) *ℤ fee +ℤ fees_of_plan book quotas fees plan
plan_by_quota book quota quotas fee fees [] = nothing fee
plan_by_quota book quota quotas fee fees (route ∷ plan) =
    rw (fees_by_quota book quota quotas fee fees Carry route, plan_by_quota book quota quotas fee fees plan)
    (routes_step (uses_in book quota route) (uses book quota plan) fee (fees_on book quotas fees route) (fees_of_plan book quotas fees plan))

-- nothing is paid where there is no quota, or no fee
unpaid : (book : BookSeen) (fees : List ℤ) (x : Place) (route : List ℕ) → fees_from book [] fees x route ≡ pos 0
unpaid book fees x [] = refl
unpaid book fees Carry (b ∷ rest) = rw (unpaid book fees (After b) rest) refl
unpaid book fees (After a) (b ∷ rest) = rw (unpaid book fees (After b) rest) refl

unpaid_plan : (book : BookSeen) (fees : List ℤ) (plan : List (List ℕ)) → fees_of_plan book [] fees plan ≡ pos 0
unpaid_plan book fees [] = refl
unpaid_plan book fees (route ∷ plan) = rw (unpaid book fees Carry route, unpaid_plan book fees plan) refl

free : (book : BookSeen) (quotas : List Quota) (plan : List (List ℕ)) → fees_of_plan book quotas [] plan ≡ pos 0
free book quotas [] = refl
free book quotas (route ∷ plan) = rw (fees_from-none book quotas [] Carry route (λ i d lt. absurd (omega (arith, lt))), free book quotas plan) refl

at_most : (n most : ℕ) (fee : ℤ) → pos 0 ≤ℤ fee → n ≤ most → (pos n *ℤ fee) ≤ℤ (pos most *ℤ fee)
at_most n most (pos fee) least le =
    let less : n * fee ≤ most * fee = mul-le-mul le (omega arith) in
    rw (pos-*ℤ-pos n fee, pos-*ℤ-pos most fee) (omega (arith, ints, less))
at_most n most (negsuc fee) least le = absurd (omega (arith, ints, least))

sum_most : (all here most fees top : ℤ) → all ≡ here +ℤ fees → here ≤ℤ most → fees ≤ℤ top → all ≤ℤ (most +ℤ top)
sum_most all here most fees top e p q = omega (arith, ints, e, p, q)

-- a plan that keeps the quotas pays no more than where each is used as often as it may be
pub kept_plans_pay_at_most : (book : BookSeen) (quotas : List Quota) (fees : List ℤ) (plan : List (List ℕ)) → All (λ fee. pos 0 ≤ℤ fee) fees
    → All (KeepsQuota book plan) quotas → fees_of_plan book quotas fees plan ≤ℤ fees_at_most quotas fees
kept_plans_pay_at_most book [] fees plan least keeps = rw (unpaid_plan book fees plan) (omega (arith, ints))
kept_plans_pay_at_most book (quota ∷ quotas) [] plan least keeps = rw (free book (quota ∷ quotas) plan) (omega (arith, ints))
kept_plans_pay_at_most book (quota ∷ quotas) (fee ∷ fees) plan least keeps =
    sum_most (fees_of_plan book (quota ∷ quotas) (fee ∷ fees) plan) (pos (uses book quota plan) *ℤ fee) (pos quota.most *ℤ fee)
    (fees_of_plan book quotas fees plan) (fees_at_most quotas fees) (plan_by_quota book quota quotas fee fees plan)
    (at_most (uses book quota plan) quota.most fee (All-head (λ f. pos 0 ≤ℤ f) fee fees least) (All-head (KeepsQuota book plan) quota quotas keeps))
    (kept_plans_pay_at_most book quotas fees plan (All-tail (λ f. pos 0 ≤ℤ f) fee fees least) (All-tail (KeepsQuota book plan) quota quotas keeps))
