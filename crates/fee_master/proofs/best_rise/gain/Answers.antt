use Rattle.std.proofs.Common.{◌≡◌, ℤ, arith, rules, subst, w64, to_z, of_z}
use Rattle.std.proofs.lemmas.Int.{ints, to_z-of_z}
use Rattle.std.specs.Int.{w128}
use Rattle.tail_book.specs.Lookup.{aircraft}
use Rattle.fee_master.specs.inside.Settling.{IsSearchedFor}
use Rattle.fee_master.proofs.Tangents.{gain_none, gain_some}
use Rattle.fee_master.proofs.best_rise.gain.Goals as goal

-- the best does not gain a cost unit
pub returns-then-range-first : goal.returns-then-range-first
returns-then-range-first c =
    let fixed = c.args.fixed.now in
    let low : to_z w64 (of_z w64 c.args.low) ≡ c.args.low = to_z-of_z w64 c.args.low c.ranges.low in
    let high : to_z w64 (of_z w64 c.args.high) ≡ c.args.high = to_z-of_z w64 c.args.high c.ranges.high in
    let searched = subst (λ (z : ℤ). IsSearchedFor fixed c.args.weights.now c.args.times.now c.args.most c.args.low z c.search-range.result) high
    (subst (λ (z : ℤ). IsSearchedFor fixed c.args.weights.now c.args.times.now c.args.most z (to_z w64 (of_z w64 c.args.high)) c.search-range.result) low c.search-range.ensures.searched) in
    let part : to_z w128 (of_z w128 c.search-range.result.part) ≡ c.search-range.result.part = search rules in
    let range = c.tangent_at-first.ensures.range in
    let on = c.tangent_at-first.ensures.tangent.on in
    gain_none fixed.pool.now c.args.weights.now c.args.times.now (aircraft fixed.book.now) c.args.most c.args.low c.args.high c.search-range.result searched c.search-range.ensures.done
    (omega (arith, ints, c.if-range-first.true, part, range, on))

-- it does
pub returns-else-range-first : goal.returns-else-range-first
returns-else-range-first c =
    let fixed = c.args.fixed.now in
    let low : to_z w64 (of_z w64 c.args.low) ≡ c.args.low = to_z-of_z w64 c.args.low c.ranges.low in
    let high : to_z w64 (of_z w64 c.args.high) ≡ c.args.high = to_z-of_z w64 c.args.high c.ranges.high in
    let searched = subst (λ (z : ℤ). IsSearchedFor fixed c.args.weights.now c.args.times.now c.args.most c.args.low z c.search-range.result) high
    (subst (λ (z : ℤ). IsSearchedFor fixed c.args.weights.now c.args.times.now c.args.most z (to_z w64 (of_z w64 c.args.high)) c.search-range.result) low c.search-range.ensures.searched) in
    let part : to_z w128 (of_z w128 c.search-range.result.part) ≡ c.search-range.result.part = search rules in
    let best : to_z w64 (of_z w64 c.search-range.result.best) ≡ c.search-range.result.best = search rules in
    let range = c.tangent_at-first.ensures.range in
    let on = c.tangent_at-first.ensures.tangent.on in
    rw best (gain_some fixed.pool.now c.args.weights.now c.args.times.now (aircraft fixed.book.now) c.args.most c.args.low c.args.high c.search-range.result searched c.search-range.ensures.done
    (omega (arith, ints, c.if-range-first.false, part, range, on)))
