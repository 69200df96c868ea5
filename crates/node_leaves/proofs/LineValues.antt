-- A line spells values from minus 2 ^ 61 to 2 ^ 61. In a cost table the end of the box, once for each activity, and the
-- greatest cost in thousandths come to at most 2 ^ 61 together; so where there is a dual, and with it an activity, a
-- dual in the box is spelled. A least weight is the reduced cost of some legal route, and these are small under duals
-- in the box.
use Rattle.std.proofs.Common.{◌≡◌, ℕ, zero, suc, ℤ, pos, ◌+◌, ◌*◌, ◌^◌, ◌<◌, ◌≤◌, ◌≤ℤ◌, arith, List, get_or, subst}
use Rattle.std.proofs.lemmas.Int.{ints}
use Rattle.std.proofs.lemmas.List.{length-replicate, get_or-replicate}
use Rattle.std.specs.Prelude.{All, ◌+ℤ◌}
use Rattle.tail_book.specs.Seen.{BookSeen}
use Rattle.tail_book.specs.TableSeen.{CostTableSeen}
use Rattle.tail_book.specs.declared.place.Place.TheVariants.{Carry}
use Rattle.tail_book.specs.Lookup.{activities}
use Rattle.tail_book.specs.CostTable.{IsCostTable, IsTableFor, IsInBox, box_end, cost_unit, greatest_cost_in}
use Rattle.tail_book.specs.inside.Rising.{LegalRoutesRise}
use Rattle.tail_book.specs.inside.RouteBounds.{ReducedCostsAreSmall}
use Rattle.tail_book.specs.inside.Sound.{IsBook}
use Rattle.branch_marks.specs.declared.fact.Fact.{Fact}
use Rattle.branch_marks.specs.Events.{IsLineValue}
use Rattle.branch_marks.specs.ProofTree.{zero_duals}
use Rattle.branch_marks.specs.Settled.{AreDuals}
use Rattle.branch_marks.specs.Weights.{IsLeastWeight, dual}

-- one of n is at most all n
one_of : (n e rest most : ℕ) → 0 < n → n * e + rest ≤ most → e ≤ most
one_of zero e rest most some fits = absurd (omega (arith, some))
one_of (suc n) e rest most some fits = omega (arith, fits)

in_range : (e : ℕ) (d : ℤ) → e ≤ 2 ^ 61 → pos 0 ≤ℤ (d +ℤ pos e) → d ≤ℤ pos e → IsLineValue d
in_range e d fits least most = record { least = omega (arith, ints, fits, least); most = omega (arith, ints, fits, most) }

pub duals_spelled : (table : CostTableSeen) (book : BookSeen) → IsCostTable table → IsTableFor book table → (duals : List ℤ) → AreDuals table book duals → All IsLineValue duals
duals_spelled table book costs for_book duals are i d less =
    let is = are.box i d less in
    let some : 0 < table.n = omega (arith, less, are.one_each, for_book.activities) in
    in_range (box_end table) (get_or duals i d) (one_of table.n (box_end table) (cost_unit * greatest_cost_in table) (2 ^ 61) some costs.sums) is.least is.most

pub weight_spelled : (rise : LegalRoutesRise) (small : ReducedCostsAreSmall) (table : CostTableSeen) (book : BookSeen) → IsBook book → IsCostTable table → IsTableFor book table
    → (marks : List Fact) (k : ℕ) (duals : List ℤ) (value : ℤ) → AreDuals table book duals → IsLeastWeight table book marks k duals value → IsLineValue value
weight_spelled rise small table book sound costs for_book marks k duals value are least =
    let route = least.attained.0 in let is = least.attained.1 in
    subst IsLineValue is.weighs
    (small table book costs for_book (dual duals) (λ a lt. are.box a (pos 0) (omega (arith, lt, are.one_each))) k Carry route (rise book sound k route is.legal))

zero_in_box : (table : CostTableSeen) (z : ℤ) → z ≡ pos 0 → IsInBox table z
zero_in_box table z is = record { least = omega (arith, ints, is); most = omega (arith, ints, is) }

pub zeros_in_box : (table : CostTableSeen) (book : BookSeen) → AreDuals table book (zero_duals book)
zeros_in_box table book = record {
  one_each = length-replicate (activities book) (pos 0);
  box = λ i d less. zero_in_box table (get_or (zero_duals book) i d) (grind (arith, get_or-replicate, length-replicate));
}
