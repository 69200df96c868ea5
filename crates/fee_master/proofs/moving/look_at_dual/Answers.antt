use Rattle.std.proofs.Common.{◌≡◌, ◌<◌, ◌∙◌, ℕ, List, [], arith, sym, subst, length}
use Rattle.std.specs.Prelude.{All}
use Rattle.tail_book.specs.Lookup.{activities, aircraft}
use Rattle.tail_book.specs.Numbers.{contains}
use Rattle.restricted_master.specs.Lists.{has}
use Rattle.fee_master.specs.inside.Uses.{times_at}
use Rattle.fee_master.proofs.WithRoutes.{with_all, with_has, written}
use Rattle.fee_master.proofs.moving.look_at_dual.Goals as goal

-- the numbers are of the pool
pub write_all-requires : goal.write_all-requires
write_all-requires c =
    let fixed = c.args.fixed.now in
    let all = with_all fixed.pool.now (activities fixed.book.now) (aircraft fixed.book.now) fixed.lists.now c.args.a c.requires.fixed.lists_of c.requires.activity in
    subst (λ (n : ℕ). All (λ i. i < n) c.with.result.now) (sym c.requires.clear.each)
    (subst (λ (xs : List ℕ). All (λ i. i < length fixed.pool.now.entries) xs) (sym c.with.ensures) all)

-- each route with the activity has it once
pub move_dual-moved-requires-clause-times : goal.move_dual-moved-requires-clause-times
move_dual-moved-requires-clause-times c =
    let fixed = c.args.fixed.now in
    let each : length c.write_all.new.times ≡ length fixed.pool.now.entries = c.write_all.auto.times ∙ c.requires.clear.each in
    record {
      each = each;
      once = λ i lt.
          let in_pool : i < length fixed.pool.now.entries = omega (arith, lt, each) in
          let same = subst (λ (xs : List ℕ). contains xs i ≡ has fixed.pool.now c.args.a i) (sym c.with.ensures)
          (with_has fixed.pool.now (activities fixed.book.now) (aircraft fixed.book.now) fixed.lists.now c.args.a c.requires.fixed.lists_of c.requires.activity i in_pool
          (c.requires.fixed.pool_for.aircraft i (record { aircraft = 0; route = [] }) in_pool)) in
          written (contains c.with.result.now i) (has fixed.pool.now c.args.a i) (times_at c.args.times.now i) (times_at c.write_all.new.times i) same
          (c.requires.clear.none i (omega (arith, in_pool, c.requires.clear.each))) (c.write_all.ensures i lt);
    }

pub write_all-requires-2 : goal.write_all-requires-2
write_all-requires-2 c =
    let fixed = c.args.fixed.now in
    let all = with_all fixed.pool.now (activities fixed.book.now) (aircraft fixed.book.now) fixed.lists.now c.args.a c.requires.fixed.lists_of c.requires.activity in
    subst (λ (n : ℕ). All (λ i. i < n) c.with-2.result.now) (sym (c.write_all.auto.times ∙ c.requires.clear.each))
    (subst (λ (xs : List ℕ). All (λ i. i < length fixed.pool.now.entries) xs) (sym c.with-2.ensures) all)
