use Rattle.std.proofs.Common.{◌≡◌, ◌<◌, ◌≤◌, ◌∙◌, ◌+ℤ◌, ◌-ℤ◌, ℕ, ℤ, List, pos, arith, ap, refl, sym, subst, length, get_or, w64, to_z, of_z, None, Some}
use Rattle.std.proofs.lemmas.Int.{ints}
use Rattle.std.proofs.lemmas.List.{get_or_default}
use Rattle.std.specs.Prelude.{All}
use Rattle.quota_rows.specs.declared.quota.Quota.{Quota}
use Rattle.restricted_master.specs.inside.Least.{weight_at}
use Rattle.fee_master.specs.inside.Lines.{line_at}
use Rattle.fee_master.specs.inside.Settling.{IsGainFor}
use Rattle.fee_master.proofs.Fair.{fair_lines}
use Rattle.fee_master.proofs.Rises.{fee_gains, fee_priced, fee_settled}
use Rattle.fee_master.proofs.moving.look_at_fee.Goals as goal

abbrev none : Quota
none = record { airport = 0; day = pos 0; below = pos 0; most = 0 }

-- the fee and its ends are in the box, which ends early
pub gain-requires-clause-low : goal.gain-requires-clause-low
gain-requires-clause-low c =
    let fixed = c.args.fixed.now in
    let fair = c.prices_are_fair.ensures fixed c.args.duals.now c.args.fees.now c.every_book_is_sound.ensures c.every_cost_table_is_sound.ensures c.requires.fixed
    c.requires.priced.duals_of c.requires.priced.fees_of in
    let box = fair.box in
    let fee = get_or c.args.fees.now c.args.q (pos 0) in
    let has : c.args.q < length c.args.fees.now = omega (arith, c.requires.quota, c.requires.priced.fees_of.one_each) in
    let inside = c.requires.priced.fees_of.box c.args.q (pos 0) has in
    let least = inside.least in let most = inside.most in
    let end = c.box_end-end.ensures in
    record { least = omega (arith, ints, box, least, most, end); most = omega (arith, ints, box, least, most, end) }

pub gain-requires-clause-high : goal.gain-requires-clause-high
gain-requires-clause-high c =
    let fixed = c.args.fixed.now in
    let fair = c.prices_are_fair.ensures fixed c.args.duals.now c.args.fees.now c.every_book_is_sound.ensures c.every_cost_table_is_sound.ensures c.requires.fixed
    c.requires.priced.duals_of c.requires.priced.fees_of in
    let box = fair.box in
    let fee = get_or c.args.fees.now c.args.q (pos 0) in
    let has : c.args.q < length c.args.fees.now = omega (arith, c.requires.quota, c.requires.priced.fees_of.one_each) in
    let inside = c.requires.priced.fees_of.box c.args.q (pos 0) has in
    let least = inside.least in let most = inside.most in
    let end = c.box_end-end.ensures in
    record { least = omega (arith, ints, box, least, most, end); most = omega (arith, ints, box, least, most, end) }

pub gain-requires-clause-here : goal.gain-requires-clause-here
gain-requires-clause-here c =
    let fixed = c.args.fixed.now in
    let fair = c.prices_are_fair.ensures fixed c.args.duals.now c.args.fees.now c.every_book_is_sound.ensures c.every_cost_table_is_sound.ensures c.requires.fixed
    c.requires.priced.duals_of c.requires.priced.fees_of in
    let box = fair.box in
    let fee = get_or c.args.fees.now c.args.q (pos 0) in
    let has : c.args.q < length c.args.fees.now = omega (arith, c.requires.quota, c.requires.priced.fees_of.one_each) in
    let inside = c.requires.priced.fees_of.box c.args.q (pos 0) has in
    let least = inside.least in let most = inside.most in
    let end = c.box_end-end.ensures in
    record { least = omega (arith, ints, box, least, most, end); most = omega (arith, ints, box, least, most, end) }

-- the uses of each route are fair
pub shift-requires-clause-each : goal.shift-requires-clause-each
shift-requires-clause-each c =
    let fixed = c.args.fixed.now in
    let quota = get_or fixed.quotas.now c.args.q none in
    let each = (c.requires.fixed.uses_of.1 c.args.q c.requires.quota quota (get_or_default fixed.quotas.now c.args.q quota none c.requires.quota)).each in
    ap (λ (xs : List ℕ). length xs) c.counts_at-times.ensures ∙ each ∙ sym c.requires.priced.each

pub shift-requires-clause-fair : goal.shift-requires-clause-fair
shift-requires-clause-fair c =
    let fixed = c.args.fixed.now in
    let fair = c.prices_are_fair.ensures fixed c.args.duals.now c.args.fees.now c.every_book_is_sound.ensures c.every_cost_table_is_sound.ensures c.requires.fixed
    c.requires.priced.duals_of c.requires.priced.fees_of in
    fair_lines fixed c.args.duals.now c.args.fees.now c.args.weights.now c.counts_at-times.result.now c.requires.priced fair
    (subst (λ (xs : List ℕ). All (λ n. n ≤ 4000) xs) (sym c.counts_at-times.ensures) (fair.uses c.args.q c.requires.quota))

pub shift-requires-clause-rise : goal.shift-requires-clause-rise
shift-requires-clause-rise c =
    let fixed = c.args.fixed.now in
    let fair = c.prices_are_fair.ensures fixed c.args.duals.now c.args.fees.now c.every_book_is_sound.ensures c.every_cost_table_is_sound.ensures c.requires.fixed
    c.requires.priced.duals_of c.requires.priced.fees_of in
    let box = fair.box in
    let fee = get_or c.args.fees.now c.args.q (pos 0) in
    let has : c.args.q < length c.args.fees.now = omega (arith, c.requires.quota, c.requires.priced.fees_of.one_each) in
    let inside = c.requires.priced.fees_of.box c.args.q (pos 0) has in
    let least = inside.least in let most = inside.most in
    let end = c.box_end-end.ensures in
    let within = c.in-Some.ensures.0 in
    let from = within.least in let to = within.most in
    record { least = omega (arith, ints, box, least, most, end, from, to); most = omega (arith, ints, box, least, most, end, from, to) }

pub overflow_add-fees : goal.overflow_add-fees
overflow_add-fees c =
    let fixed = c.args.fixed.now in
    let fair = c.prices_are_fair.ensures fixed c.args.duals.now c.args.fees.now c.every_book_is_sound.ensures c.every_cost_table_is_sound.ensures c.requires.fixed
    c.requires.priced.duals_of c.requires.priced.fees_of in
    let box = fair.box in
    let fee = get_or c.args.fees.now c.args.q (pos 0) in
    let has : c.args.q < length c.args.fees.now = omega (arith, c.requires.quota, c.requires.priced.fees_of.one_each) in
    let inside = c.requires.priced.fees_of.box c.args.q (pos 0) has in
    let least = inside.least in let most = inside.most in
    let end = c.box_end-end.ensures in
    let within = c.in-Some.ensures.0 in
    let from = within.least in let to = within.most in
    omega (arith, ints, box, least, most, end, from, to)

-- no rise gains a cost unit
pub returns-in-None-clause-looks : goal.returns-in-None-clause-looks
returns-in-None-clause-looks c =
    let fixed = c.args.fixed.now in
    let fair = c.prices_are_fair.ensures fixed c.args.duals.now c.args.fees.now c.every_book_is_sound.ensures c.every_cost_table_is_sound.ensures c.requires.fixed
    c.requires.priced.duals_of c.requires.priced.fees_of in
    let box = fair.box in
    let fee = get_or c.args.fees.now c.args.q (pos 0) in
    let has : c.args.q < length c.args.fees.now = omega (arith, c.requires.quota, c.requires.priced.fees_of.one_each) in
    let inside = c.requires.priced.fees_of.box c.args.q (pos 0) has in
    let least = inside.least in let most = inside.most in
    let end = c.box_end-end.ensures in
    let quota = get_or fixed.quotas.now c.args.q none in
    let quota_is : get_or fixed.quotas.now c.args.q quota ≡ quota = get_or_default fixed.quotas.now c.args.q quota none c.requires.quota in
    let gain = subst (λ (times : List ℕ). IsGainFor fixed c.args.weights.now times quota.most
    (to_z w64 (of_z w64 (pos 0 -ℤ to_z w64 (of_z w64 fee))))
    (to_z w64 (of_z w64 (to_z w64 (of_z w64 c.box_end-end.result) -ℤ to_z w64 (of_z w64 fee)))) None) c.counts_at-times.ensures c.in-None.ensures in (
      refl,
      refl,
      fee_settled fixed c.args.duals.now c.args.fees.now c.args.weights.now c.requires.fixed c.requires.priced c.args.q quota c.requires.quota quota_is
          (to_z w64 (of_z w64 (pos 0 -ℤ to_z w64 (of_z w64 fee)))) (to_z w64 (of_z w64 (to_z w64 (of_z w64 c.box_end-end.result) -ℤ to_z w64 (of_z w64 fee))))
          (omega (arith, ints, box, least, most, end)) (omega (arith, ints, box, least, most, end)) gain,
    )

-- this one does
pub returns-in-Some-clause-priced : goal.returns-in-Some-clause-priced
returns-in-Some-clause-priced c =
    let fixed = c.args.fixed.now in
    let fair = c.prices_are_fair.ensures fixed c.args.duals.now c.args.fees.now c.every_book_is_sound.ensures c.every_cost_table_is_sound.ensures c.requires.fixed
    c.requires.priced.duals_of c.requires.priced.fees_of in
    let box = fair.box in
    let fee = get_or c.args.fees.now c.args.q (pos 0) in
    let has : c.args.q < length c.args.fees.now = omega (arith, c.requires.quota, c.requires.priced.fees_of.one_each) in
    let inside = c.requires.priced.fees_of.box c.args.q (pos 0) has in
    let least = inside.least in let most = inside.most in
    let end = c.box_end-end.ensures in
    let quota = get_or fixed.quotas.now c.args.q none in
    let quota_is : get_or fixed.quotas.now c.args.q quota ≡ quota = get_or_default fixed.quotas.now c.args.q quota none c.requires.quota in
    let within = c.in-Some.ensures.0 in
    let from = within.least in let to = within.most in
    let rise : to_z w64 (of_z w64 c.in-Some.rise) ≡ c.in-Some.rise = omega (arith, ints, box, least, most, end, from, to) in
    let new : to_z w64 (of_z w64 (to_z w64 (of_z w64 fee) +ℤ to_z w64 (of_z w64 c.in-Some.rise))) ≡ fee +ℤ c.in-Some.rise = omega (arith, ints, box, least, most, end, from, to) in
    rw new (fee_priced fixed c.args.duals.now c.args.fees.now c.args.weights.now c.requires.fixed c.requires.priced c.args.q quota c.requires.quota quota_is
    (to_z w64 (of_z w64 (pos 0 -ℤ to_z w64 (of_z w64 fee)))) (to_z w64 (of_z w64 (to_z w64 (of_z w64 c.box_end-end.result) -ℤ to_z w64 (of_z w64 fee))))
    c.in-Some.rise c.shift.new.weights (omega (arith, ints, box, least, most, end)) (omega (arith, ints, box, least, most, end)) within c.shift.auto.weights
    (subst (λ (times : List ℕ). (i : ℕ) → i < length c.shift.new.weights → weight_at c.shift.new.weights i ≡ line_at c.args.weights.now times c.in-Some.rise i) c.counts_at-times.ensures
    (subst (λ (z : ℤ). (i : ℕ) → i < length c.shift.new.weights → weight_at c.shift.new.weights i ≡ line_at c.args.weights.now c.counts_at-times.result.now z i) rise c.shift.ensures)))

pub returns-in-Some-clause-looks : goal.returns-in-Some-clause-looks
returns-in-Some-clause-looks c =
    let fixed = c.args.fixed.now in
    let fair = c.prices_are_fair.ensures fixed c.args.duals.now c.args.fees.now c.every_book_is_sound.ensures c.every_cost_table_is_sound.ensures c.requires.fixed
    c.requires.priced.duals_of c.requires.priced.fees_of in
    let box = fair.box in
    let fee = get_or c.args.fees.now c.args.q (pos 0) in
    let has : c.args.q < length c.args.fees.now = omega (arith, c.requires.quota, c.requires.priced.fees_of.one_each) in
    let inside = c.requires.priced.fees_of.box c.args.q (pos 0) has in
    let least = inside.least in let most = inside.most in
    let end = c.box_end-end.ensures in
    let quota = get_or fixed.quotas.now c.args.q none in
    let quota_is : get_or fixed.quotas.now c.args.q quota ≡ quota = get_or_default fixed.quotas.now c.args.q quota none c.requires.quota in
    let within = c.in-Some.ensures.0 in
    let from = within.least in let to = within.most in
    let rise : to_z w64 (of_z w64 c.in-Some.rise) ≡ c.in-Some.rise = omega (arith, ints, box, least, most, end, from, to) in
    let new : to_z w64 (of_z w64 (to_z w64 (of_z w64 fee) +ℤ to_z w64 (of_z w64 c.in-Some.rise))) ≡ fee +ℤ c.in-Some.rise = omega (arith, ints, box, least, most, end, from, to) in
    let gain = subst (λ (times : List ℕ). IsGainFor fixed c.args.weights.now times quota.most
    (to_z w64 (of_z w64 (pos 0 -ℤ to_z w64 (of_z w64 fee))))
    (to_z w64 (of_z w64 (to_z w64 (of_z w64 c.box_end-end.result) -ℤ to_z w64 (of_z w64 fee)))) (Some c.in-Some.rise)) c.counts_at-times.ensures c.in-Some.ensures in
    rw new (fee_gains fixed c.args.duals.now c.args.fees.now c.args.weights.now c.requires.fixed c.requires.priced c.args.q quota c.requires.quota quota_is
    (to_z w64 (of_z w64 (pos 0 -ℤ to_z w64 (of_z w64 fee)))) (to_z w64 (of_z w64 (to_z w64 (of_z w64 c.box_end-end.result) -ℤ to_z w64 (of_z w64 fee))))
    c.in-Some.rise gain)
