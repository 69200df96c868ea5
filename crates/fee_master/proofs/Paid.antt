-- What a route pays, quota by quota: each fee as often as it uses the quota. So that is also its fees connection by connection; it
-- changes with one fee by its uses of that quota; and where fees and uses are small it is small.
use Rattle.std.specs.Prelude.{All, cond}
use Rattle.std.proofs.Common.{◌≡◌, ◌<◌, ◌≤◌, ◌+◌, ◌*◌, ◌-ℤ◌, ◌+ℤ◌, ◌*ℤ◌, ◌∙◌, ap, ap₂, sym, ℕ, zero, suc, ℤ, pos, Bool, true, false, arith, List, [], ◌∷◌, length, get_or, set, refl}
use Rattle.std.proofs.Math.IntN.{suc_ℤ-*ℤ, zero-*ℤ}
use Rattle.std.proofs.lemmas.Int.{ints}
use Rattle.std.proofs.lemmas.List.Elements.{All-head, All-tail}
use Rattle.tail_book.specs.Ranges.{IsWithin}
use Rattle.tail_book.specs.Seen.{BookSeen}
use Rattle.tail_book.specs.declared.place.Place.{Place}
use Rattle.tail_book.specs.declared.place.Place.TheVariants.{Carry, After}
use Rattle.restricted_master.specs.Seen.{PoolSeen}
use Rattle.restricted_master.specs.Pool.{route_at}
use Rattle.restricted_master.specs.Lists.{list_at}
use Rattle.quota_rows.specs.Belongs.{belongs, belongs_at}
use Rattle.quota_rows.specs.Fees.{fee_of, fees_at_most, fees_from, fees_on}
use Rattle.quota_rows.specs.KeptPlans.{uses_from}
use Rattle.quota_rows.specs.declared.quota.Quota.{Quota}
use Rattle.fee_master.specs.inside.Uses.{paid, times_at, AreUses}
use Rattle.fee_master.proofs.Tangents.{product_step}
use Rattle.fee_master.proofs.Products.{within_times}

-- one connection that a quota has
counted : (c : Bool) (n : ℕ) (fee rest fees : ℤ)
    → (cond c fee (pos 0) +ℤ rest) +ℤ (pos n *ℤ fee +ℤ fees) ≡ pos (cond c 1 0 + n) *ℤ fee +ℤ (rest +ℤ fees)
counted true n fee rest fees =
    let more : 1 + n ≡ suc n = omega arith in
    let once : pos (suc n) *ℤ fee ≡ pos n *ℤ fee +ℤ fee = suc_ℤ-*ℤ (pos n) fee in
    rw (more, once) (omega (arith, ints))
counted false n fee rest fees =
    let same : 0 + n ≡ n = omega arith in
    rw same (omega (arith, ints))

nothing : (fee : ℤ) → pos 0 ≡ pos 0 *ℤ fee +ℤ pos 0
nothing fee = rw (zero-*ℤ fee) refl

-- the fees of a route's rest are those of the first quota as often as it is used, and those of the other quotas
by_quota : (book : BookSeen) (quota : Quota) (quotas : List Quota) (fee : ℤ) (fees : List ℤ) (x : Place) (route : List ℕ)
    → fees_from book (quota ∷ quotas) (fee ∷ fees) x route ≡ pos (uses_from book quota x route) *ℤ fee +ℤ fees_from book quotas fees x route
by_quota book quota quotas fee fees x [] = nothing fee
by_quota book quota quotas fee fees Carry (b ∷ rest) =
    rw (by_quota book quota quotas fee fees (After b) rest)
    (counted false (uses_from book quota (After b) rest) fee (pos 0) (fees_from book quotas fees (After b) rest))
by_quota book quota quotas fee fees (After a) (b ∷ rest) =
    rw (by_quota book quota quotas fee fees (After b) rest)
    (counted (belongs book quota a b) (uses_from book quota (After b) rest) fee (fee_of book quotas fees a b) (fees_from book quotas fees (After b) rest))

unpaid : (book : BookSeen) (fees : List ℤ) (x : Place) (route : List ℕ) → fees_from book [] fees x route ≡ pos 0
unpaid book fees x [] = refl
unpaid book fees Carry (b ∷ rest) = rw (unpaid book fees (After b) rest) refl
unpaid book fees (After a) (b ∷ rest) = rw (unpaid book fees (After b) rest) refl

rest_uses : (book : BookSeen) (pool : PoolSeen) (quota : Quota) (quotas : List Quota) (times : List ℕ) (uses : List (List ℕ))
    → AreUses book pool (quota ∷ quotas) (times ∷ uses) → AreUses book pool quotas uses
rest_uses book pool quota quotas times uses are = (omega (arith, are.0), λ q lt other is. are.1 (suc q) (omega (arith, lt)) other is)

pub paid_is : (book : BookSeen) (pool : PoolSeen) (i : ℕ) → i < length pool.entries → (quotas : List Quota) (uses : List (List ℕ)) (fees : List ℤ)
    → AreUses book pool quotas uses → length fees ≡ length quotas → paid uses fees i ≡ fees_on book quotas fees (route_at pool i)
paid_is book pool i lt [] [] fees are one_each = sym (unpaid book fees Carry (route_at pool i))
paid_is book pool i lt [] (times ∷ uses) fees are one_each = absurd (omega (arith, are.0))
paid_is book pool i lt (quota ∷ quotas) [] fees are one_each = absurd (omega (arith, are.0))
paid_is book pool i lt (quota ∷ quotas) (times ∷ uses) [] are one_each = absurd (omega (arith, one_each))
paid_is book pool i lt (quota ∷ quotas) (times ∷ uses) (fee ∷ fees) are one_each =
    ap₂ (λ (n : ℕ) (z : ℤ). (pos n *ℤ fee) +ℤ z) ((are.1 0 (omega arith) quota refl).uses i lt)
    (paid_is book pool i lt quotas uses fees (rest_uses book pool quota quotas times uses are) (omega (arith, one_each)))
    ∙ sym (by_quota book quota quotas fee fees Carry (route_at pool i))

-- one fee changes
paid_step : (t : ℕ) (old new rest : ℤ) → (pos t *ℤ new) +ℤ rest ≡ ((pos t *ℤ old) +ℤ rest) +ℤ (pos t *ℤ (new -ℤ old))
paid_step t old new rest = let h = product_step t old new in omega (arith, ints, h)

later_step : (here rest new change : ℤ) → new ≡ rest +ℤ change → here +ℤ new ≡ (here +ℤ rest) +ℤ change
later_step here rest new change e = omega (arith, ints, e)

pub paid_with : (uses : List (List ℕ)) (fees : List ℤ) (q : ℕ) (value : ℤ) (i : ℕ) → length fees ≡ length uses → q < length uses
    → paid uses (set fees q value) i ≡ paid uses fees i +ℤ (pos (times_at (list_at uses q) i) *ℤ (value -ℤ get_or fees q (pos 0)))
paid_with [] fees q value i same lt = absurd (omega (arith, lt))
paid_with (times ∷ uses) [] q value i same lt = absurd (omega (arith, same))
paid_with (times ∷ uses) (fee ∷ fees) zero value i same lt = paid_step (times_at times i) fee value (paid uses fees i)
paid_with (times ∷ uses) (fee ∷ fees) (suc q) value i same lt =
    later_step (pos (times_at times i) *ℤ fee) (paid uses fees i) (paid uses (set fees q value) i) (pos (times_at (list_at uses q) i) *ℤ (value -ℤ get_or fees q (pos 0)))
    (paid_with uses fees q value i (omega (arith, same)) (omega (arith, lt)))

pub at_most_with : (quotas : List Quota) (fees : List ℤ) (q : ℕ) (quota : Quota) (value : ℤ) → length fees ≡ length quotas → q < length quotas → get_or quotas q quota ≡ quota
    → fees_at_most quotas (set fees q value) ≡ fees_at_most quotas fees +ℤ (pos quota.most *ℤ (value -ℤ get_or fees q (pos 0)))
at_most_with [] fees q quota value same lt is = absurd (omega (arith, lt))
at_most_with (first ∷ quotas) [] q quota value same lt is = absurd (omega (arith, same))
at_most_with (first ∷ quotas) (fee ∷ fees) zero quota value same lt is =
    paid_step first.most fee value (fees_at_most quotas fees)
    ∙ ap (λ (other : Quota). (pos first.most *ℤ fee +ℤ fees_at_most quotas fees) +ℤ (pos other.most *ℤ (value -ℤ fee))) is
at_most_with (first ∷ quotas) (fee ∷ fees) (suc q) quota value same lt is =
    later_step (pos first.most *ℤ fee) (fees_at_most quotas fees) (fees_at_most quotas (set fees q value)) (pos quota.most *ℤ (value -ℤ get_or fees q (pos 0)))
    (at_most_with quotas fees q quota value (omega (arith, same)) (omega (arith, lt)) is)

-- so much at most for each quota
one_within : (t : ℕ) (fee : ℤ) → t ≤ 4000 → IsWithin (pos 0) (pos 8000000001000) fee
    → IsWithin (pos 0 -ℤ pos 32000000004000000) (pos 32000000004000000) (pos t *ℤ fee)
one_within t fee few within =
    let low = within.least in
    let high = within.most in
    let h = within_times t 8000000001000 fee (record { least = omega (arith, ints, low); most = high }) in
    let from = h.least in
    let to = h.most in
    record { least = omega (arith, ints, from, few); most = omega (arith, ints, to, few) }

added : (here rest : ℤ) (n : ℕ) → IsWithin (pos 0 -ℤ pos 32000000004000000) (pos 32000000004000000) here
    → IsWithin (pos 0 -ℤ pos (n * 32000000004000000)) (pos (n * 32000000004000000)) rest
    → IsWithin (pos 0 -ℤ pos (suc n * 32000000004000000)) (pos (suc n * 32000000004000000)) (here +ℤ rest)
added here rest n one within =
    let p = one.least in
    let q = one.most in
    let r = within.least in
    let s = within.most in
    record { least = omega (arith, ints, p, r); most = omega (arith, ints, q, s) }

pub paid_within : (uses : List (List ℕ)) (fees : List ℤ) (i : ℕ) → ((q : ℕ) → q < length uses → times_at (list_at uses q) i ≤ 4000)
    → All (IsWithin (pos 0) (pos 8000000001000)) fees
    → IsWithin (pos 0 -ℤ pos (length uses * 32000000004000000)) (pos (length uses * 32000000004000000)) (paid uses fees i)
paid_within [] fees i few fair = record { least = omega (arith, ints); most = omega (arith, ints) }
paid_within (times ∷ uses) [] i few fair = record { least = omega (arith, ints); most = omega (arith, ints) }
paid_within (times ∷ uses) (fee ∷ fees) i few fair =
    added (pos (times_at times i) *ℤ fee) (paid uses fees i) (length uses)
    (one_within (times_at times i) fee (few 0 (omega arith)) (All-head (IsWithin (pos 0) (pos 8000000001000)) fee fees fair))
    (paid_within uses fees i (λ q lt. few (suc q) (omega (arith, lt))) (All-tail (IsWithin (pos 0) (pos 8000000001000)) fee fees fair))

-- a route uses a quota no more often than it has activities
once : (c : Bool) (n m : ℕ) → n ≤ m → cond c 1 0 + n ≤ m + 1
once true n m le = omega (arith, le)
once false n m le = omega (arith, le)

pub uses_few : (book : BookSeen) (quota : Quota) (x : Place) (route : List ℕ) → uses_from book quota x route ≤ length route
uses_few book quota x [] = omega arith
uses_few book quota x (b ∷ rest) =
    let most = once (belongs_at book quota x b) (uses_from book quota (After b) rest) (length rest) (uses_few book quota (After b) rest) in
    omega (arith, most)
