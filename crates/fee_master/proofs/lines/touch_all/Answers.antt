use Rattle.std.proofs.Common.{◌≡◌, ◌<◌, ◌+ℤ◌, ◌^◌, ◌∙◌, ap, sym, subst, length, arith, rules, ℕ, List, w64, to_z, of_z, true, []}
use Rattle.std.proofs.lemmas.Int.{ints}
use Rattle.std.proofs.lemmas.Bool.{eq-eqb}
use Rattle.std.proofs.lemmas.List.{get_or_default}
use Rattle.std.specs.Int.{w128}
use Rattle.std.specs.Prelude.{All}
use Rattle.tail_book.specs.Lookup.{activities, aircraft}
use Rattle.branch_marks.specs.Pool.{Pooled}
use Rattle.restricted_master.specs.Lists.{is_of, list_at}
use Rattle.restricted_master.specs.Pool.{aircraft_at, entry_at}
use Rattle.fee_master.specs.inside.Lines.{IsLowest}
use Rattle.fee_master.proofs.OwnRoutes.{own_all, own_members, own_places, own_some}
use Rattle.fee_master.proofs.Tangents.{lowest_above, lowest_value, touching_more}
use Rattle.fee_master.proofs.lines.touch_all.Goals as goal

-- an aircraft's numbers are of the pool
pub lowest-touch-requires-clause-numbers : goal.lowest-touch-requires-clause-numbers
lowest-touch-requires-clause-numbers c =
    let fixed = c.args.fixed.now in
    let of_book : c.loop-k.k < aircraft fixed.book.now = rw (← c.book.view_is) (omega (arith, c.loop-k-test.true, c.len-k-end.ensures)) in
    let own = own_all fixed.pool.now (activities fixed.book.now) (aircraft fixed.book.now) fixed.lists.now c.loop-k.k c.requires.fixed.lists_of of_book in
    subst (λ (n : ℕ). All (λ i. i < n) c.of_aircraft.result.now) (sym c.requires.weights)
    (subst (λ (xs : List ℕ). All (λ i. i < length fixed.pool.now.entries) xs) (sym c.of_aircraft.ensures) own)

-- and there is one
pub lowest-touch-requires-clause-some : goal.lowest-touch-requires-clause-some
lowest-touch-requires-clause-some c =
    let fixed = c.args.fixed.now in
    let k = c.loop-k.k in
    let of_book : k < aircraft fixed.book.now = rw (← c.book.view_is) (omega (arith, c.loop-k-test.true, c.len-k-end.ensures)) in
    let (i, entry, below, at, of_it) = c.requires.fixed.routes k of_book in
    let same : entry_at fixed.pool.now i ≡ entry = get_or_default fixed.pool.now.entries i (record { aircraft = 0; route = [] }) entry below ∙ at in
    let pass : is_of fixed.pool.now k i ≡ true = eq-eqb k (aircraft_at fixed.pool.now i) (sym (ap (λ (x : Pooled). x.aircraft) same ∙ of_it)) in
    subst (λ (xs : List ℕ). 0 < length xs) (sym c.of_aircraft.ensures)
    (own_some fixed.pool.now (activities fixed.book.now) (aircraft fixed.book.now) fixed.lists.now k c.requires.fixed.lists_of of_book i below pass)

-- one aircraft more
pub loop-k-preserved : goal.loop-k-preserved
loop-k-preserved c =
    let fixed = c.args.fixed.now in
    let k = c.loop-k.k in
    let weights = c.args.weights.now in
    let times = c.args.times.now in
    let n = activities fixed.book.now in
    let m = aircraft fixed.book.now in
    let of_book : k < m = rw (← c.book.view_is) (omega (arith, c.loop-k-test.true, c.len-k-end.ensures)) in
    let few : k < 2 ^ 32 = omega (arith, of_book, c.every_book_is_sound.ensures.few_tails) in
    let own = list_at fixed.lists.now.by_aircraft k in
    let lowest : IsLowest own (length own) weights times (to_z w64 (of_z w64 c.args.rise)) c.lowest-touch.result =
    subst (λ (xs : List ℕ). IsLowest xs (length xs) weights times (to_z w64 (of_z w64 c.args.rise)) c.lowest-touch.result) c.of_aircraft.ensures c.lowest-touch.ensures in
    let members = own_members fixed.pool.now n m fixed.lists.now k c.requires.fixed.lists_of of_book in
    let places = own_places fixed.pool.now n m fixed.lists.now k c.requires.fixed.lists_of of_book in
    let range = c.loop-k.invariant.range in
    let read : to_z w64 (of_z w64 c.lowest-touch.result.value) ≡ c.lowest-touch.result.value = search rules in
    let paid : c.lowest-touch.result.times < 2 ^ 32 = search rules in
    let next : to_z w128 (of_z w128 (to_z w128 (of_z w128 c.loop-k.touching.sum) +ℤ to_z w128 (of_z w128 (to_z w64 (of_z w64 c.lowest-touch.result.value)))))
    ≡ c.loop-k.touching.sum +ℤ c.lowest-touch.result.value = omega (arith, ints, range, few, read) in
    record {
      touching = rw next (touching_more fixed.pool.now weights times k (to_z w64 (of_z w64 c.args.rise)) c.loop-k.touching.sum c.lowest-touch.result.value
          c.loop-k.touching.count c.lowest-touch.result.times c.loop-k.invariant.touching
          (lowest_value fixed.pool.now weights times k own members places (to_z w64 (of_z w64 c.args.rise)) c.lowest-touch.result lowest)
          (lowest_above fixed.pool.now weights times k own members places (to_z w64 (of_z w64 c.args.rise)) c.lowest-touch.result lowest));
      range = record { least = rw next (omega (arith, ints, range, read)); most = rw next (omega (arith, ints, range, read)) };
      few = omega (arith, c.loop-k.invariant.few, paid);
    }
