-- How large weights with fees grow. By the book's own costs the box of duals and of fees ends early, since a book has at most four
-- thousand activities and each costs with its connection at most two million. So a link adds little, and along a route whose
-- numbers rise four thousand links at most add up to less than 2^61.
use Rattle.std.proofs.Common.{◌≡◌, ℕ, suc, ℤ, pos, ◌+◌, ◌*◌, ◌+ℤ◌, ◌-ℤ◌, ◌≤ℤ◌, ◌<◌, ◌≤◌, arith, List, [], ◌∷◌, length, ap, sym, subst}
use Rattle.std.proofs.lemmas.Int.{ints}
use Rattle.std.proofs.lemmas.List.Elements.{All-head, All-tail, All-weaker}
use Rattle.std.specs.Prelude.{All}
use Rattle.tail_book.specs.Seen.{BookSeen}
use Rattle.tail_book.specs.TableSeen.{CostTableSeen}
use Rattle.tail_book.specs.declared.place.Place.{Place}
use Rattle.tail_book.specs.declared.place.Place.TheVariants.{Carry, After}
use Rattle.tail_book.specs.CostTable.{IsInBox, box_end, costs_of, activity_cost_in, connection_cost_in}
use Rattle.tail_book.specs.Lookup.{activities}
use Rattle.tail_book.specs.Ranges.{IsWithin}
use Rattle.tail_book.specs.inside.Rising.{LegalRoutesRise, IsRisingFrom}
use Rattle.tail_book.specs.inside.RouteBounds.{RisingRoutesAreShort, RisingRoutesAreBelow, RoutesCostAtMostIn}
use Rattle.tail_book.specs.inside.Sound.{IsBook}
use Rattle.branch_marks.specs.Weights.{dual}
use Rattle.pricing.specs.Rows.{weight_of, route_to}
use Rattle.pricing.specs.inside.WeightRange.{IsSmall}
use Rattle.quota_rows.specs.declared.quota.Quota.{Quota}
use Rattle.quota_rows.specs.Fees.{IsFee, fee_at, fee_of}
use Rattle.fee_pricing.specs.Arcs.{arcs_from, weight_by}
use Rattle.fee_pricing.specs.inside.Fair.{IsFair, IsFairFee, IsFairSum, AreFair}
use Rattle.fee_pricing.specs.inside.Laws.{FeesAreFair, FeeArcsAreFair, TrueRowsAreSmall}
use Rattle.fee_pricing.proofs.Fees.{fees_within}

box_of_count : (n : ℕ) → n ≤ 4000 → 1000 * (n * 2000000 + 1) ≤ 8000000001000
box_of_count n few = omega (arith, few)

-- the box of the book's own costs
box_most : (table : CostTableSeen) (book : BookSeen) → IsBook book → table ≡ costs_of book → box_end table ≤ 8000000001000
box_most table book sound own = subst (λ (t : CostTableSeen). box_end t ≤ 8000000001000) (sym own) (box_of_count (activities book) sound.few_activities)

-- and what one activity and its connection cost
each_most : (table : CostTableSeen) (book : BookSeen) → table ≡ costs_of book → table.fly_max + table.band_max ≤ 2000000
each_most table book own = subst (λ (t : CostTableSeen). t.fly_max + t.band_max ≤ 2000000) (sym own) (omega arith)

wider : (box : ℕ) → box ≤ 8000000001000 → (fee : ℤ) → IsWithin (pos 0) (pos box) fee → IsFairFee fee
wider box most fee within = record { least = within.least; most = let h = within.most in omega (arith, ints, h, most) }

pub fees_fair : FeesAreFair
fees_fair table book quotas fees sound own in_box =
    All-weaker (IsFee table) IsFairFee (wider (box_end table) (box_most table book sound own)) fees in_box.box

fifty : (n : ℕ) (fees : ℤ) → n ≤ 50 → IsWithin (pos 0) (pos (n * 8000000001000)) fees → IsFairSum fees
fifty n fees few within = record {
  least = within.least;
  most = let h = within.most in let le : n * 8000000001000 ≤ 400000000050000 = omega (arith, few) in omega (arith, ints, h, le);
}

pub sum_fair : (book : BookSeen) (quotas : List Quota) (fees : List ℤ) (a b : ℕ) → length quotas ≤ 50 → All IsFairFee fees → IsFairSum (fee_of book quotas fees a b)
sum_fair book quotas fees a b few fair = fifty (length quotas) (fee_of book quotas fees a b) few (fees_within book quotas fees a b 8000000001000 fair)

at_fair : (book : BookSeen) (quotas : List Quota) (fees : List ℤ) (x : Place) (b : ℕ) → length quotas ≤ 50 → All IsFairFee fees → IsFairSum (fee_at book quotas fees x b)
at_fair book quotas fees Carry b few fair = record { least = omega (arith, ints); most = omega (arith, ints) }
at_fair book quotas fees (After a) b few fair = sum_fair book quotas fees a b few fair

link_fair : (activity connection each box : ℕ) (d fee : ℤ) → activity + connection + 0 ≤ 1 * each → each ≤ 2000000 → box ≤ 8000000001000
    → pos 0 ≤ℤ (d +ℤ pos box) → d ≤ℤ pos box → pos 0 ≤ℤ fee → fee ≤ℤ pos 400000000050000
    → IsFair ((pos (1000 * (activity + connection)) -ℤ d) +ℤ fee)
link_fair activity connection each box d fee cost few most low high least greatest = record {
  least = omega (arith, ints, cost, few, most, low, high, least, greatest);
  most = omega (arith, ints, cost, few, most, low, high, least, greatest);
}

pub arcs_fair : RoutesCostAtMostIn → FeeArcsAreFair
arcs_fair at_most table book quotas k duals fees sound sound_table own in_box few fee_box x b lt =
    let dual_box : IsInBox table (dual duals b) = in_box.box b (pos 0) (subst (λ (n : ℕ). b < n) (sym in_box.one_each) lt) in
    let fee = at_fair book quotas fees x b few (fees_fair table book quotas fees sound own fee_box) in
    link_fair (activity_cost_in table k b) (connection_cost_in table book k x b) (table.fly_max + table.band_max) (box_end table) (dual duals b)
    (fee_at book quotas fees x b) (at_most table book sound_table k x (b ∷ [])) (each_most table book own) (box_most table book sound own)
    dual_box.least dual_box.most fee.least fee.most

added : (here rest : ℤ) (n : ℕ) → IsFair here → IsWithin (pos 0 -ℤ pos (n * 408002000051000)) (pos (n * 408002000051000)) rest
    → IsWithin (pos 0 -ℤ pos (suc n * 408002000051000)) (pos (suc n * 408002000051000)) (here +ℤ rest)
added here rest n fair within =
    let p = fair.least in
    let q = fair.most in
    let r = within.least in
    let s = within.most in
    record { least = omega (arith, ints, p, r); most = omega (arith, ints, q, s) }

along : (arc : Place → ℕ → ℤ) (n : ℕ) → AreFair arc n → (x : Place) (route : List ℕ) → All (λ a. a < n) route
    → IsWithin (pos 0 -ℤ pos (length route * 408002000051000)) (pos (length route * 408002000051000)) (arcs_from arc x route)
along arc n fair x [] below = record { least = omega (arith, ints); most = omega (arith, ints) }
along arc n fair x (b ∷ rest) below =
    added (arc x b) (arcs_from arc (After b) rest) (length rest) (fair x b (All-head (λ a. a < n) b rest below))
    (along arc n fair (After b) rest (All-tail (λ a. a < n) b rest below))

few_small : (n : ℕ) (w : ℤ) → n ≤ 4000 → IsWithin (pos 0 -ℤ pos (n * 408002000051000)) (pos (n * 408002000051000)) w
    → IsWithin (pos 0 -ℤ pos 2305843009213693952) (pos 2305843009213693952) w
few_small n w few within =
    let le : n * 408002000051000 ≤ 2305843009213693952 = omega (arith, few) in
    let r = within.least in
    let s = within.most in
    record { least = omega (arith, ints, r, le); most = omega (arith, ints, s, le) }

rising_small : RisingRoutesAreShort → RisingRoutesAreBelow → (arc : Place → ℕ → ℤ) (book : BookSeen) → IsBook book → AreFair arc (activities book)
    → (route : List ℕ) → IsRisingFrom (activities book) Carry route → IsSmall (weight_by arc route)
rising_small short below arc book sound fair route rising =
    let length_most = short (activities book) Carry route rising in
    let few_activities : activities book ≤ 4000 = sound.few_activities in
    few_small (length route) (weight_by arc route) (omega (arith, length_most, few_activities))
    (along arc (activities book) fair Carry route (below (activities book) Carry route rising))

pub true_small : LegalRoutesRise → RisingRoutesAreShort → RisingRoutesAreBelow → TrueRowsAreSmall
true_small rise short below arc book marks k store row sound fair truth =
    subst IsSmall (sym (ap weight_of truth.values))
    (rising_small short below arc book sound fair (route_to store row) (rise book sound k (route_to store row) truth.legal))
