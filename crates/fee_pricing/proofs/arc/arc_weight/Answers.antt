use Rattle.std.proofs.Common.{◌≡◌, ◌∙◌, ℤ, ◌+ℤ◌, w64, to_z, of_z, FitsSigned, rules, arith, ap, sym, subst}
use Rattle.std.proofs.lemmas.Int.{ints, to_z-of_z}
use Rattle.tail_book.specs.TableSeen.{CostTableSeen}
use Rattle.tail_book.specs.CostTable.{IsTableFor}
use Rattle.branch_marks.specs.Weights.{arc_weight}
use Rattle.pricing.specs.inside.WeightRange.{IsBroad}
use Rattle.fee_pricing.specs.inside.Fair.{IsFair}
use Rattle.fee_pricing.specs.inside.ForAsked.{arc_for}
use Rattle.fee_pricing.proofs.arc.arc_weight.Goals as goal

-- the table is the book's own
pub weight_without_fees-weight-requires-clause-table : goal.weight_without_fees-weight-requires-clause-table
weight_without_fees-weight-requires-clause-table c =
    let asked = c.args.asked.now in
    subst (λ (t : CostTableSeen). IsTableFor asked.book.now t) (sym c.requires.asked.table) (c.own_costs_are_for_book.ensures asked.book.now)

-- what is fair is broad
broad : (arc : ℤ) → IsFair arc → IsBroad arc
broad arc fair = let p = fair.least in let q = fair.most in record { least = omega (arith, ints, p); most = omega (arith, ints, q) }

-- the sum as it is taken
taken : (weight fee : ℤ) → FitsSigned w64 weight → FitsSigned w64 fee → FitsSigned w64 (weight +ℤ fee)
    → to_z w64 (of_z w64 (to_z w64 (of_z w64 weight) +ℤ to_z w64 (of_z w64 fee))) ≡ weight +ℤ fee
taken weight fee p q r =
    ap (λ (v : ℤ). to_z w64 (of_z w64 (v +ℤ to_z w64 (of_z w64 fee)))) (to_z-of_z w64 weight p)
    ∙ ap (λ (v : ℤ). to_z w64 (of_z w64 (weight +ℤ v))) (to_z-of_z w64 fee q) ∙ to_z-of_z w64 (weight +ℤ fee) r

fits_fair : (arc : ℤ) → IsFair arc → FitsSigned w64 arc
fits_fair arc fair = let p = fair.least in let q = fair.most in omega (arith, ints, p, q)

-- it is what the law says of the link
pub returns-clause-range : goal.returns-clause-range
returns-clause-range c =
    let weight : ℤ = c.weight_without_fees-weight.result in
    let fee : ℤ = c.fee_at-fee.result in
    let weight_fits : FitsSigned w64 weight = search rules in
    let fee_fits : FitsSigned w64 fee = search rules in
    let is : (weight +ℤ fee) ≡ arc_for c.args.asked.now c.args.from c.args.b =
    ap (λ (v : ℤ). v +ℤ fee) c.weight_without_fees-weight.ensures.value
    ∙ ap (λ (v : ℤ). arc_weight c.args.asked.now.table.now c.args.asked.now.book.now c.args.asked.now.k c.args.asked.now.duals.now.values c.args.from c.args.b +ℤ v)
    c.fee_at-fee.ensures.value in
    let fair : IsFair (weight +ℤ fee) = subst IsFair (sym is) (c.links_are_fair.ensures c.args.from c.args.b c.requires.activity) in
    subst IsBroad (sym (taken weight fee weight_fits fee_fits (fits_fair (weight +ℤ fee) fair))) (broad (weight +ℤ fee) fair)
