use Rattle.std.proofs.Common.{◌≡◌, ◌<◌, ◌+ℤ◌, ◌-ℤ◌, ℕ, ℤ, pos, arith, refl, subst, length, get_or, w64, to_z, of_z}
use Rattle.std.proofs.lemmas.Int.{ints}
use Rattle.restricted_master.specs.inside.Least.{weight_at}
use Rattle.fee_master.specs.inside.Lines.{line_at}
use Rattle.fee_master.proofs.Fair.{fair_lines, few_times}
use Rattle.fee_master.proofs.Rises.{dual_gains, dual_priced, dual_settled}
use Rattle.fee_master.proofs.moving.move_dual.Goals as goal

-- weights are fair, and each route pays once at most
pub gain-requires-clause-fair : goal.gain-requires-clause-fair
gain-requires-clause-fair c =
    let fixed = c.args.fixed.now in
    let fair = c.prices_are_fair.ensures fixed c.args.duals.now c.args.fees.now c.every_book_is_sound.ensures c.every_cost_table_is_sound.ensures c.requires.fixed
    c.requires.priced.duals_of c.requires.priced.fees_of in
    fair_lines fixed c.args.duals.now c.args.fees.now c.args.weights.now c.args.times.now c.requires.priced fair (few_times fixed c.args.a c.args.times.now c.requires.times)

-- the dual and its ends are in the box, which ends early
pub gain-requires-clause-low : goal.gain-requires-clause-low
gain-requires-clause-low c =
    let fixed = c.args.fixed.now in
    let fair = c.prices_are_fair.ensures fixed c.args.duals.now c.args.fees.now c.every_book_is_sound.ensures c.every_cost_table_is_sound.ensures c.requires.fixed
    c.requires.priced.duals_of c.requires.priced.fees_of in
    let box = fair.box in
    let has : c.args.a < length c.args.duals.now = omega (arith, c.requires.activity, c.requires.priced.duals_of.one_each) in
    let inside = c.requires.priced.duals_of.box c.args.a (pos 0) has in
    let least = inside.least in let most = inside.most in
    let end = c.box_end-end.ensures in
    record { least = omega (arith, ints, box, least, most, end); most = omega (arith, ints, box, least, most, end) }

pub gain-requires-clause-high : goal.gain-requires-clause-high
gain-requires-clause-high c =
    let fixed = c.args.fixed.now in
    let fair = c.prices_are_fair.ensures fixed c.args.duals.now c.args.fees.now c.every_book_is_sound.ensures c.every_cost_table_is_sound.ensures c.requires.fixed
    c.requires.priced.duals_of c.requires.priced.fees_of in
    let box = fair.box in
    let has : c.args.a < length c.args.duals.now = omega (arith, c.requires.activity, c.requires.priced.duals_of.one_each) in
    let inside = c.requires.priced.duals_of.box c.args.a (pos 0) has in
    let least = inside.least in let most = inside.most in
    let end = c.box_end-end.ensures in
    record { least = omega (arith, ints, box, least, most, end); most = omega (arith, ints, box, least, most, end) }

pub gain-requires-clause-here : goal.gain-requires-clause-here
gain-requires-clause-here c =
    let fixed = c.args.fixed.now in
    let fair = c.prices_are_fair.ensures fixed c.args.duals.now c.args.fees.now c.every_book_is_sound.ensures c.every_cost_table_is_sound.ensures c.requires.fixed
    c.requires.priced.duals_of c.requires.priced.fees_of in
    let box = fair.box in
    let has : c.args.a < length c.args.duals.now = omega (arith, c.requires.activity, c.requires.priced.duals_of.one_each) in
    let inside = c.requires.priced.duals_of.box c.args.a (pos 0) has in
    let least = inside.least in let most = inside.most in
    let end = c.box_end-end.ensures in
    record { least = omega (arith, ints, box, least, most, end); most = omega (arith, ints, box, least, most, end) }

pub shift-requires-clause-fair : goal.shift-requires-clause-fair
shift-requires-clause-fair c =
    let fixed = c.args.fixed.now in
    let fair = c.prices_are_fair.ensures fixed c.args.duals.now c.args.fees.now c.every_book_is_sound.ensures c.every_cost_table_is_sound.ensures c.requires.fixed
    c.requires.priced.duals_of c.requires.priced.fees_of in
    fair_lines fixed c.args.duals.now c.args.fees.now c.args.weights.now c.args.times.now c.requires.priced fair (few_times fixed c.args.a c.args.times.now c.requires.times)

pub shift-requires-clause-rise : goal.shift-requires-clause-rise
shift-requires-clause-rise c =
    let fixed = c.args.fixed.now in
    let fair = c.prices_are_fair.ensures fixed c.args.duals.now c.args.fees.now c.every_book_is_sound.ensures c.every_cost_table_is_sound.ensures c.requires.fixed
    c.requires.priced.duals_of c.requires.priced.fees_of in
    let box = fair.box in
    let has : c.args.a < length c.args.duals.now = omega (arith, c.requires.activity, c.requires.priced.duals_of.one_each) in
    let inside = c.requires.priced.duals_of.box c.args.a (pos 0) has in
    let least = inside.least in let most = inside.most in
    let end = c.box_end-end.ensures in
    let within = c.in-Some.ensures.0 in
    let from = within.least in let to = within.most in
    record { least = omega (arith, ints, box, least, most, end, from, to); most = omega (arith, ints, box, least, most, end, from, to) }

pub overflow_sub-duals : goal.overflow_sub-duals
overflow_sub-duals c =
    let fixed = c.args.fixed.now in
    let fair = c.prices_are_fair.ensures fixed c.args.duals.now c.args.fees.now c.every_book_is_sound.ensures c.every_cost_table_is_sound.ensures c.requires.fixed
    c.requires.priced.duals_of c.requires.priced.fees_of in
    let box = fair.box in
    let has : c.args.a < length c.args.duals.now = omega (arith, c.requires.activity, c.requires.priced.duals_of.one_each) in
    let inside = c.requires.priced.duals_of.box c.args.a (pos 0) has in
    let least = inside.least in let most = inside.most in
    let end = c.box_end-end.ensures in
    let within = c.in-Some.ensures.0 in
    let from = within.least in let to = within.most in
    omega (arith, ints, box, least, most, end, from, to)

-- no rise gains a cost unit
pub returns-in-None-clause-looks : goal.returns-in-None-clause-looks
returns-in-None-clause-looks c =
    let fixed = c.args.fixed.now in
    let fair = c.prices_are_fair.ensures fixed c.args.duals.now c.args.fees.now c.every_book_is_sound.ensures c.every_cost_table_is_sound.ensures c.requires.fixed
    c.requires.priced.duals_of c.requires.priced.fees_of in
    let box = fair.box in
    let dual = get_or c.args.duals.now c.args.a (pos 0) in
    let has : c.args.a < length c.args.duals.now = omega (arith, c.requires.activity, c.requires.priced.duals_of.one_each) in
    let inside = c.requires.priced.duals_of.box c.args.a (pos 0) has in
    let least = inside.least in let most = inside.most in
    let end = c.box_end-end.ensures in (
      refl,
      refl,
      dual_settled fixed c.args.duals.now c.args.fees.now c.args.weights.now c.requires.fixed c.requires.priced c.args.times.now c.args.a c.requires.times c.requires.activity
          (to_z w64 (of_z w64 (to_z w64 (of_z w64 dual) -ℤ to_z w64 (of_z w64 c.box_end-end.result)))) (to_z w64 (of_z w64 (to_z w64 (of_z w64 dual) +ℤ to_z w64 (of_z w64 c.box_end-end.result))))
          (omega (arith, ints, box, least, most, end)) (omega (arith, ints, box, least, most, end)) c.in-None.ensures,
    )

-- this one does
pub returns-in-Some-clause-priced : goal.returns-in-Some-clause-priced
returns-in-Some-clause-priced c =
    let fixed = c.args.fixed.now in
    let fair = c.prices_are_fair.ensures fixed c.args.duals.now c.args.fees.now c.every_book_is_sound.ensures c.every_cost_table_is_sound.ensures c.requires.fixed
    c.requires.priced.duals_of c.requires.priced.fees_of in
    let box = fair.box in
    let dual = get_or c.args.duals.now c.args.a (pos 0) in
    let has : c.args.a < length c.args.duals.now = omega (arith, c.requires.activity, c.requires.priced.duals_of.one_each) in
    let inside = c.requires.priced.duals_of.box c.args.a (pos 0) has in
    let least = inside.least in let most = inside.most in
    let end = c.box_end-end.ensures in
    let within = c.in-Some.ensures.0 in
    let from = within.least in let to = within.most in
    let rise : to_z w64 (of_z w64 c.in-Some.rise) ≡ c.in-Some.rise = omega (arith, ints, box, least, most, end, from, to) in
    let new : to_z w64 (of_z w64 (to_z w64 (of_z w64 dual) -ℤ to_z w64 (of_z w64 c.in-Some.rise))) ≡ dual -ℤ c.in-Some.rise = omega (arith, ints, box, least, most, end, from, to) in
    rw new (dual_priced fixed c.args.duals.now c.args.fees.now c.args.weights.now c.requires.fixed c.requires.priced c.args.times.now c.args.a c.requires.times c.requires.activity
    (to_z w64 (of_z w64 (to_z w64 (of_z w64 dual) -ℤ to_z w64 (of_z w64 c.box_end-end.result)))) (to_z w64 (of_z w64 (to_z w64 (of_z w64 dual) +ℤ to_z w64 (of_z w64 c.box_end-end.result))))
    c.in-Some.rise c.shift.new.weights (omega (arith, ints, box, least, most, end)) (omega (arith, ints, box, least, most, end)) within c.shift.auto.weights
    (subst (λ (z : ℤ). (i : ℕ) → i < length c.shift.new.weights → weight_at c.shift.new.weights i ≡ line_at c.args.weights.now c.args.times.now z i) rise c.shift.ensures))

pub returns-in-Some-clause-looks : goal.returns-in-Some-clause-looks
returns-in-Some-clause-looks c =
    let fixed = c.args.fixed.now in
    let fair = c.prices_are_fair.ensures fixed c.args.duals.now c.args.fees.now c.every_book_is_sound.ensures c.every_cost_table_is_sound.ensures c.requires.fixed
    c.requires.priced.duals_of c.requires.priced.fees_of in
    let box = fair.box in
    let dual = get_or c.args.duals.now c.args.a (pos 0) in
    let has : c.args.a < length c.args.duals.now = omega (arith, c.requires.activity, c.requires.priced.duals_of.one_each) in
    let inside = c.requires.priced.duals_of.box c.args.a (pos 0) has in
    let least = inside.least in let most = inside.most in
    let end = c.box_end-end.ensures in
    let within = c.in-Some.ensures.0 in
    let from = within.least in let to = within.most in
    let new : to_z w64 (of_z w64 (to_z w64 (of_z w64 dual) -ℤ to_z w64 (of_z w64 c.in-Some.rise))) ≡ dual -ℤ c.in-Some.rise = omega (arith, ints, box, least, most, end, from, to) in
    rw new (dual_gains fixed c.args.duals.now c.args.fees.now c.args.weights.now c.requires.fixed c.requires.priced c.args.times.now c.args.a c.requires.times c.requires.activity
    (to_z w64 (of_z w64 (to_z w64 (of_z w64 dual) -ℤ to_z w64 (of_z w64 c.box_end-end.result)))) (to_z w64 (of_z w64 (to_z w64 (of_z w64 dual) +ℤ to_z w64 (of_z w64 c.box_end-end.result))))
    c.in-Some.rise c.in-Some.ensures)
