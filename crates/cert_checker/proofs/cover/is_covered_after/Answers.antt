use Rattle.std.specs.Prelude.{◌+ℤ◌}
use Rattle.std.specs.Int.{w64, w128}
use Rattle.std.proofs.Common.{◌≡◌, ◌∙◌, ℤ, ap, of_z, rules, to_z}
use Rattle.std.proofs.lemmas.Int.{to_z-of_z}
use Rattle.tail_book.specs.CostTable.{costs_of}
use Rattle.tail_book.specs.TableSeen.{CostTableSeen}
use Rattle.branch_marks.specs.Weights.{arc_weight}
use Rattle.branch_marks.specs.FamilyTests.{is_covered_by}
use Rattle.cert_checker.proofs.cover.is_covered_after.Goals as goal

-- what is asked for is the weight behind the link
pub returns : goal.returns
returns c =
    let back : to_z w128 (of_z w128 c.weight_after-after.result) ≡ c.weight_after-after.result = to_z-of_z w128 c.weight_after-after.result (search rules) in
    let read : to_z w64 (of_z w64 c.args.weight) ≡ c.args.weight = to_z-of_z w64 c.args.weight c.ranges.weight in
    let is = back ∙ c.weight_after-after.ensures
    ∙ ap (λ (t : CostTableSeen). to_z w64 (of_z w64 c.args.weight) +ℤ arc_weight t c.args.leaf.now.book.now c.args.leaf.now.k c.args.leaf.now.duals.now c.args.from c.args.b) c.requires.leaf.means.costs
    ∙ ap (λ (z : ℤ). z +ℤ arc_weight (costs_of c.args.leaf.now.book.now) c.args.leaf.now.book.now c.args.leaf.now.k c.args.leaf.now.duals.now c.args.from c.args.b) read in
    c.is_covered.ensures ∙ ap (λ (z : ℤ). is_covered_by c.args.leaf.now.family.now (record { at = c.args.b; weight = z; counters = c.args.values.now })) is
