-- The weight of a route with fees: its reduced cost under duals, and the fees of its connections, in thousandths of a cost unit.
-- For src/laws.rt.
use Rattle.std.specs.Prelude.{◌≡◌, ℕ, ℤ, pos, ◌+ℤ◌, ◌≤ℤ◌, List, [], ◌∷◌, ◌++◌, All}
use Rattle.tail_book.specs.Seen.{BookSeen}
use Rattle.tail_book.specs.TableSeen.{CostTableSeen}
use Rattle.tail_book.specs.declared.place.Place.{Place}
use Rattle.tail_book.specs.declared.place.Place.TheVariants.{Carry, After}
use Rattle.tail_book.specs.inside.OneMore.{end_place}
use Rattle.tail_book.specs.Route.{IsLegalRoute}
use Rattle.branch_marks.specs.declared.fact.Fact.{Fact}
use Rattle.branch_marks.specs.Marks.{Fits}
use Rattle.branch_marks.specs.Weights.{weight, arc_weight}
use Rattle.quota_rows.specs.Fees.{fee_at, fees_on}
use Rattle.quota_rows.specs.declared.quota.Quota.{Quota}

-- the weight of a route of aircraft k with fees: what it costs by the table, less its duals, and its fees
abbrev pub fee_weight : CostTableSeen → BookSeen → List Quota → ℕ → List ℤ → List ℤ → List ℕ → ℤ
fee_weight table book quotas k duals fees route = weight table book k duals route +ℤ fees_on book quotas fees route

-- what b after x adds to it
abbrev pub fee_arc : CostTableSeen → BookSeen → List Quota → ℕ → List ℤ → List ℤ → Place → ℕ → ℤ
fee_arc table book quotas k duals fees x b = arc_weight table book k duals x b +ℤ fee_at book quotas fees x b

-- the weight with fees of the rest of a route from a place on, added up along it
abbrev pub fee_weight_from : CostTableSeen → BookSeen → List Quota → ℕ → List ℤ → List ℤ → Place → List ℕ → ℤ
fee_weight_from table book quotas k duals fees x [] = pos 0
fee_weight_from table book quotas k duals fees x (b ∷ rest) =
    fee_arc table book quotas k duals fees x b +ℤ fee_weight_from table book quotas k duals fees (After b) rest

-- a route weighs with fees what is added up along it from the carry-in on
abbrev pub FeeWeightIsAlong : Type 0
FeeWeightIsAlong = (table : CostTableSeen) (book : BookSeen) (quotas : List Quota) (k : ℕ) (duals fees : List ℤ) (route : List ℕ)
    → fee_weight table book quotas k duals fees route ≡ fee_weight_from table book quotas k duals fees Carry route

-- with b at its end it weighs what b adds more
abbrev pub FeeWeightWithOneMore : Type 0
FeeWeightWithOneMore = (table : CostTableSeen) (book : BookSeen) (quotas : List Quota) (k : ℕ) (duals fees : List ℤ) (route : List ℕ) (b : ℕ)
    → fee_weight table book quotas k duals fees (route ++ b ∷ [])
    ≡ fee_weight table book quotas k duals fees route +ℤ fee_arc table book quotas k duals fees (end_place route) b

-- where all fees are 0, it is the weight
abbrev pub WeightWithoutFees : Type 0
WeightWithoutFees = (table : CostTableSeen) (book : BookSeen) (quotas : List Quota) (k : ℕ) (duals fees : List ℤ) (route : List ℕ)
    → All (λ fee. fee ≡ pos 0) fees → fee_weight table book quotas k duals fees route ≡ weight table book k duals route

-- every legal route of aircraft k that fits the marks weighs at least this with fees
abbrev pub WeighsAtLeastWithFees : CostTableSeen → BookSeen → List Quota → List Fact → ℕ → List ℤ → List ℤ → ℤ → Type 0
WeighsAtLeastWithFees table book quotas marks k duals fees low =
    (route : List ℕ) → IsLegalRoute book k route → Fits book marks k route → low ≤ℤ fee_weight table book quotas k duals fees route

-- the route of aircraft k is legal, fits the marks, and weighs this with fees
pub record IsRouteOfFeeWeight (table : CostTableSeen) (book : BookSeen) (quotas : List Quota)
    (marks : List Fact) (k : ℕ) (duals fees : List ℤ) (value : ℤ) (route : List ℕ) : Type 0 where
  pub legal : IsLegalRoute book k route
  pub fits : Fits book marks k route
  pub weighs : fee_weight table book quotas k duals fees route ≡ value

-- the least weight of aircraft k with fees: no legal route that fits weighs less, and one weighs this
pub record IsLeastFeeWeight (table : CostTableSeen) (book : BookSeen) (quotas : List Quota)
    (marks : List Fact) (k : ℕ) (duals fees : List ℤ) (value : ℤ) : Type 0 where
  pub least : WeighsAtLeastWithFees table book quotas marks k duals fees value
  pub attained : (route : List ℕ) × IsRouteOfFeeWeight table book quotas marks k duals fees value route
