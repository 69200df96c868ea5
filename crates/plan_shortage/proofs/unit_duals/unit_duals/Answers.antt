use Rattle.std.proofs.Common.{rules, ◌≡◌, arith, sym, subst, refl, w64, to_z, of_z}
use Rattle.std.proofs.lemmas.List.FromFn.{map-range_with_len_more}
use Rattle.tail_book.specs.Lookup.{activities}
use Rattle.branch_marks.specs.Settled.{AreDuals}
use Rattle.plan_shortage.specs.inside.Pricing.{costless, unit_dual, unit_duals}
use Rattle.plan_shortage.proofs.Weighed.{duals_in_box}
use Rattle.plan_shortage.proofs.unit_duals.unit_duals.Goals as goal

-- the dual of one activity more
pub loop-a-preserved : goal.loop-a-preserved
loop-a-preserved c =
    let dual = unit_dual c.args.asked.now c.args.brought.now c.loop-a.a in
    let fits : to_z w64 (of_z w64 dual) ≡ dual = search rules in
    let more = map-range_with_len_more (unit_dual c.args.asked.now c.args.brought.now) 0 c.loop-a.a c.loop-a.a (omega arith) in
    rw (c.in_ok-push.ensures.items, c.loop-a.invariant, c.unit_dual.ensures, fits, more) refl

-- all duals are there, each in the box
pub returns-clause-duals : goal.returns-clause-duals
returns-clause-duals c =
    let all : c.loop-a.values.items ≡ unit_duals c.args.asked.now c.args.brought.now (activities c.args.book.now) = search rules in
    subst (AreDuals (costless c.args.book.now) c.args.book.now) (sym all) (duals_in_box c.args.book.now c.args.asked.now c.args.brought.now)
