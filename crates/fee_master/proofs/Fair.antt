-- By the book's own costs the box ends early, since a book has at most four thousand activities, of which each costs with its connection
-- at most two million. A route uses a quota no more often than it has activities. So what it pays of fifty fees is below 2^61, and it
-- weighs less than 2^62.
use Rattle.std.specs.Prelude.{All, cond}
use Rattle.std.proofs.Common.{◌≡◌, ◌<◌, ◌≤◌, ◌+◌, ◌*◌, ◌-ℤ◌, ◌+ℤ◌, ◌∙◌, sym, subst, ℕ, ℤ, pos, arith, Bool, true, false, List, [], length, get_or}
use Rattle.std.proofs.lemmas.Int.{ints}
use Rattle.std.proofs.lemmas.List.{get_or_default}
use Rattle.std.proofs.lemmas.List.Elements.{All-weaker}
use Rattle.tail_book.specs.CostTable.{IsCostTable, IsTableFor, box_end, costs_of}
use Rattle.tail_book.specs.Lookup.{activities}
use Rattle.tail_book.specs.Ranges.{IsWithin}
use Rattle.tail_book.specs.Seen.{BookSeen}
use Rattle.tail_book.specs.TableSeen.{CostTableSeen}
use Rattle.tail_book.specs.declared.place.Place.TheVariants.{Carry}
use Rattle.tail_book.specs.inside.RouteBounds.{RisingRoutesAreShort}
use Rattle.tail_book.specs.inside.Sound.{IsBook}
use Rattle.tail_book.specs.inside.TableLaws.{OwnCostsAreForBook}
use Rattle.branch_marks.specs.Settled.{AreDuals}
use Rattle.branch_marks.specs.Weights.{weight}
use Rattle.restricted_master.specs.Pool.{aircraft_at, route_at}
use Rattle.restricted_master.specs.Lists.{has, list_at}
use Rattle.restricted_master.specs.inside.Least.{EntriesAreSmall}
use Rattle.quota_rows.specs.Fees.{AreFees, IsFee}
use Rattle.fee_master.specs.PoolSum.{fee_weight_at}
use Rattle.fee_master.specs.declared.fixed.Fixed.{Fixed}
use Rattle.fee_master.specs.inside.Lines.{AreFairLines, IsFairRise, IsFairWeight}
use Rattle.fee_master.specs.inside.Settling.{ArePricesFair, AreTimesOf, IsClear, IsFixed, IsPriced}
use Rattle.fee_master.specs.inside.Uses.{paid, times_at}
use Rattle.fee_master.proofs.Paid.{paid_is, paid_within, uses_few}

box_of_count : (n : ℕ) → n ≤ 4000 → 1000 * (n * 2000000 + 1) ≤ 8000000001000
box_of_count n few = omega (arith, few)

box_most : (table : CostTableSeen) (book : BookSeen) → IsBook book → table ≡ costs_of book → box_end table ≤ 8000000001000
box_most table book sound own = subst (λ (t : CostTableSeen). box_end t ≤ 8000000001000) (sym own) (box_of_count (activities book) sound.few_activities)

wider : (box : ℕ) → box ≤ 8000000001000 → (fee : ℤ) → IsWithin (pos 0) (pos box) fee → IsWithin (pos 0) (pos 8000000001000) fee
wider box most fee within = record { least = within.least; most = let h = within.most in omega (arith, ints, h, most) }

fair_sum : (w fees : ℤ) (n : ℕ) → n ≤ 50 → IsWithin (pos 0 -ℤ pos 2305843009213693952) (pos 2305843009213693952) w
    → IsWithin (pos 0 -ℤ pos (n * 32000000004000000)) (pos (n * 32000000004000000)) fees
    → IsWithin (pos 0 -ℤ pos 4611686018427387904) (pos 4611686018427387904) (w +ℤ fees)
fair_sum w fees n few small within =
    let p = small.least in
    let q = small.most in
    let r = within.least in
    let s = within.most in
    record { least = omega (arith, ints, few, p, r); most = omega (arith, ints, few, q, s) }

module _ (small : EntriesAreSmall) (own_for : OwnCostsAreForBook) (short : RisingRoutesAreShort) (fixed : Fixed) (duals fees : List ℤ)
    (sound : IsBook fixed.book.now) (sound_table : IsCostTable fixed.table.now) (is : IsFixed fixed)
    (duals_of : AreDuals fixed.table.now fixed.book.now duals) (fees_of : AreFees fixed.table.now fixed.quotas.now fees) where
  times_few : (q : ℕ) → q < length fixed.quotas.now → (i : ℕ) → i < length fixed.pool.now.entries → times_at (list_at fixed.uses.now q) i ≤ 4000
  times_few q lt i within =
      let quota = get_or fixed.quotas.now q (record { airport = 0; day = pos 0; below = pos 0; most = 0 }) in
      let known = (is.uses_of.1 q lt quota (get_or_default fixed.quotas.now q quota (record { airport = 0; day = pos 0; below = pos 0; most = 0 }) lt)).uses i within in
      let few = uses_few fixed.book.now quota Carry (route_at fixed.pool.now i) in
      let long = short (activities fixed.book.now) Carry (route_at fixed.pool.now i) (is.pool_for.rising i (record { aircraft = 0; route = [] }) within) in
      let count : activities fixed.book.now ≤ 4000 = sound.few_activities in
      omega (arith, known, few, long, count)

  all_few : (q : ℕ) → q < length fixed.quotas.now → All (λ n. n ≤ 4000) (list_at fixed.uses.now q)
  all_few q lt i d within =
      let quota = get_or fixed.quotas.now q (record { airport = 0; day = pos 0; below = pos 0; most = 0 }) in
      let each = (is.uses_of.1 q lt quota (get_or_default fixed.quotas.now q quota (record { airport = 0; day = pos 0; below = pos 0; most = 0 }) lt)).each in
      subst (λ (n : ℕ). n ≤ 4000) (sym (get_or_default (list_at fixed.uses.now q) i d 0 within)) (times_few q lt i (omega (arith, within, each)))

  table_for : IsTableFor fixed.book.now fixed.table.now
  table_for = subst (λ (t : CostTableSeen). IsTableFor fixed.book.now t) (sym is.table_of) (own_for fixed.book.now)

  fair : (i : ℕ) → i < length fixed.pool.now.entries → IsFairWeight (fee_weight_at fixed.table.now fixed.book.now fixed.quotas.now fixed.pool.now duals fees i)
  fair i lt =
      let most = box_most fixed.table.now fixed.book.now sound is.table_of in
      let many : length fixed.uses.now ≡ length fixed.quotas.now = is.uses_of.0 in
      let within = paid_within fixed.uses.now fees i (λ q below. times_few q (omega (arith, below, many)) i lt)
      (All-weaker (IsFee fixed.table.now) (IsWithin (pos 0) (pos 8000000001000)) (wider (box_end fixed.table.now) most) fees fees_of.box) in
      let paid_here = paid_is fixed.book.now fixed.pool.now i lt fixed.quotas.now fixed.uses.now fees is.uses_of fees_of.one_each in
      let few : length fixed.uses.now ≤ 50 = omega (arith, many, is.few) in
      subst (λ (z : ℤ). IsFairWeight (weight fixed.table.now fixed.book.now (aircraft_at fixed.pool.now i) duals (route_at fixed.pool.now i) +ℤ z)) paid_here
      (fair_sum (weight fixed.table.now fixed.book.now (aircraft_at fixed.pool.now i) duals (route_at fixed.pool.now i)) (paid fixed.uses.now fees i) (length fixed.uses.now) few
      (small fixed.table.now fixed.book.now fixed.pool.now duals sound_table table_for is.pool_for duals_of i lt) within)

  pub are_fair : ArePricesFair fixed duals fees
  are_fair = record { box = box_most fixed.table.now fixed.book.now sound is.table_of; weights = fair; uses = all_few }

-- and so each fee is a fair rise, and all weights and times are fair lines
fair_rise : (box : ℕ) → box ≤ 8000000001000 → (fee : ℤ) → IsWithin (pos 0) (pos box) fee → IsFairRise fee
fair_rise box most fee within = let low = within.least in let high = within.most in record { least = omega (arith, ints, low); most = omega (arith, ints, high, most) }

pub fair_fees : (table : CostTableSeen) (fees : List ℤ) → box_end table ≤ 8000000001000 → All (IsFee table) fees → All IsFairRise fees
fair_fees table fees most box = All-weaker (IsFee table) IsFairRise (fair_rise (box_end table) most) fees box

pub fair_lines : (fixed : Fixed) (duals fees weights : List ℤ) (times : List ℕ) → IsPriced fixed duals fees weights → ArePricesFair fixed duals fees
    → All (λ n. n ≤ 4000) times → AreFairLines weights times
fair_lines fixed duals fees weights times priced fair few = record {
  low = λ i d lt.
      let below : i < length fixed.pool.now.entries = omega (arith, lt, priced.each) in
      subst IsFairWeight (sym (get_or_default weights i d (pos 0) lt ∙ priced.weighs i below)) (fair.weights i below);
  few = few;
}

pub few_clear : (fixed : Fixed) (times : List ℕ) → IsClear fixed times → All (λ n. n ≤ 4000) times
few_clear fixed times clear i d lt = subst (λ (n : ℕ). n ≤ 4000) (sym (get_or_default times i d 0 lt ∙ clear.none i lt)) (omega arith)

-- each route pays for an activity once at most
one_at_most : (b : Bool) → cond b 1 0 ≤ 4000
one_at_most true = omega arith
one_at_most false = omega arith

pub few_times : (fixed : Fixed) (a : ℕ) (times : List ℕ) → AreTimesOf fixed a times → All (λ n. n ≤ 4000) times
few_times fixed a times of_it i d lt =
    subst (λ (n : ℕ). n ≤ 4000) (sym (get_or_default times i d 0 lt ∙ of_it.once i lt)) (one_at_most (has fixed.pool.now a i))
