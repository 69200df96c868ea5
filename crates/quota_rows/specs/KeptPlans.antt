-- Plans that keep quotas: how often a plan uses a quota, and which plan is the least of those that keep all.
-- For src/plan_uses.rt.
use Rattle.std.specs.Prelude.{◌≡◌, ℕ, ◌+◌, ◌≤◌, List, [], ◌∷◌, All, cond}
use Rattle.tail_book.specs.Seen.{BookSeen}
use Rattle.tail_book.specs.TableSeen.{CostTableSeen}
use Rattle.tail_book.specs.declared.place.Place.{Place}
use Rattle.tail_book.specs.declared.place.Place.TheVariants.{Carry, After}
use Rattle.tail_book.specs.Cost.{plan_cost}
use Rattle.tail_book.specs.CostTable.{plan_cost_in}
use Rattle.tail_book.specs.Plan.{IsLegalPlan}
use Rattle.tail_book.specs.Truth.{Costs}
use Rattle.quota_rows.specs.Belongs.{belongs_at}
use Rattle.quota_rows.specs.declared.quota.Quota.{Quota}

-- how often the rest of a route uses the quota, from a place on: once for each connection that belongs to it
abbrev pub uses_from : BookSeen → Quota → Place → List ℕ → ℕ
uses_from book quota x [] = 0
uses_from book quota x (b ∷ rest) = cond (belongs_at book quota x b) 1 0 + uses_from book quota (After b) rest

-- how often a route uses the quota; the connection from its carry-in never does
abbrev pub uses_in : BookSeen → Quota → List ℕ → ℕ
uses_in book quota route = uses_from book quota Carry route

-- how often the routes of a plan use the quota, all together
abbrev pub uses : BookSeen → Quota → List (List ℕ) → ℕ
uses book quota [] = 0
uses book quota (route ∷ routes) = uses_in book quota route + uses book quota routes

-- the plan keeps the quota: it uses it no more often than the quota lets it
abbrev pub KeepsQuota : BookSeen → List (List ℕ) → Quota → Type 0
KeepsQuota book plan quota = uses book quota plan ≤ quota.most

-- the plan keeps each of the quotas
abbrev pub KeepsQuotas : BookSeen → List Quota → List (List ℕ) → Type 0
KeepsQuotas book quotas plan = All (KeepsQuota book plan) quotas

-- the plan is legal and keeps the quotas
pub record IsKeptPlan (book : BookSeen) (quotas : List Quota) (plan : List (List ℕ)) : Type 0 where
  pub legal : IsLegalPlan book plan
  pub keeps : KeepsQuotas book quotas plan

-- no legal plan keeps the quotas
abbrev pub HasNoKeptPlan : BookSeen → List Quota → Type 0
HasNoKeptPlan book quotas = (plan : List (List ℕ)) → ¬ IsKeptPlan book quotas plan

-- every legal plan that keeps the quotas costs at least this
abbrev pub KeptCostAtLeastBy : Costs → BookSeen → List Quota → ℕ → Type 0
KeptCostAtLeastBy costs book quotas low = (plan : List (List ℕ)) → IsKeptPlan book quotas plan → low ≤ costs plan

-- a least plan under quotas: it is a kept plan of this cost, which bounds what each kept plan costs from below
pub record IsLeastKeptBy (cost_of : Costs) (book : BookSeen) (quotas : List Quota) (cost : ℕ) (plan : List (List ℕ)) : Type 0 where
  pub kept : IsKeptPlan book quotas plan
  pub costs : cost_of plan ≡ cost
  pub least : KeptCostAtLeastBy cost_of book quotas cost

-- the same by what the book itself says that plans cost, and by what a table for it says
abbrev pub IsLeastKept : BookSeen → List Quota → ℕ → List (List ℕ) → Type 0
IsLeastKept book = IsLeastKeptBy (plan_cost book) book

abbrev pub KeptCostAtLeastIn : CostTableSeen → BookSeen → List Quota → ℕ → Type 0
KeptCostAtLeastIn table book = KeptCostAtLeastBy (plan_cost_in table book) book

abbrev pub IsLeastKeptIn : CostTableSeen → BookSeen → List Quota → ℕ → List (List ℕ) → Type 0
IsLeastKeptIn table book = IsLeastKeptBy (plan_cost_in table book) book
