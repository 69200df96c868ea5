use Rattle.std.specs.Prelude.{◌+ℤ◌}
use Rattle.std.proofs.Common.{◌≡◌, ◌∙◌, ℤ, true, List, ap, sym, subst}
use Rattle.std.proofs.lemmas.Int.{to_z-of_z}
use Rattle.tail_book.specs.Counters.{step}
use Rattle.tail_book.specs.CostTable.{costs_of}
use Rattle.tail_book.specs.LegalTests.{within_limits}
use Rattle.branch_marks.specs.Weights.{arc_weight}
use Rattle.branch_marks.specs.FamilyTests.{is_covered_by}
use Rattle.branch_marks.specs.MarkTests.{is_usable}
use Rattle.cert_checker.proofs.MetWays.{met_open}
use Rattle.cert_checker.proofs.cover.is_met.Goals as goal

-- the link is gone over, so what it comes to has to be covered
pub returns : goal.returns
returns c =
    let book = c.args.leaf.now.book.now in
    let stepped = c.if-not-step_by.ensures.steps ∙ ap (step book c.args.leaf.now.k c.args.from c.args.b) c.copy_from_slice.ensures.after in
    let within : within_limits book.rules.counters (step book c.args.leaf.now.k c.args.from c.args.b c.args.counters.now) ≡ true =
    ap (within_limits book.rules.counters) (sym stepped) ∙ sym c.if-not-step_by.ensures.tests in
    let seen : c.is_covered_after.result ≡ is_covered_by c.args.leaf.now.family.now (record { at = c.args.b; weight = c.args.weight +ℤ arc_weight (costs_of book) book c.args.leaf.now.k c.args.leaf.now.duals.now c.args.from c.args.b; counters = c.step_by.new.values }) =
    subst (λ (z : ℤ). c.is_covered_after.result ≡ is_covered_by c.args.leaf.now.family.now (record { at = c.args.b; weight = z +ℤ arc_weight (costs_of book) book c.args.leaf.now.k c.args.leaf.now.duals.now c.args.from c.args.b; counters = c.step_by.new.values }))
    (to_z-of_z _ c.args.weight c.ranges.weight) c.is_covered_after.ensures in
    seen
    ∙ ap (λ (vs : List ℤ). is_covered_by c.args.leaf.now.family.now (record { at = c.args.b; weight = c.args.weight +ℤ arc_weight (costs_of book) book c.args.leaf.now.k c.args.leaf.now.duals.now c.args.from c.args.b; counters = vs })) stepped
    ∙ met_open (is_usable book c.args.leaf.now.marks.now.facts c.args.leaf.now.k c.args.from c.args.b) _ _ (sym c.if-not-usable.ensures.tests) within
