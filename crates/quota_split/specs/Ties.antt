-- Ties that belong to quotas: connections that each plan has of which the marks hold. For src/ties.rt.
use Rattle.std.specs.Prelude.{◌≡◌, ℕ, pos, ◌<◌, ◌≤◌, List, Bool, true, false, Contains, length, slice_index_or}
use Rattle.std.specs.List.{count_by}
use Rattle.tail_book.specs.Seen.{BookSeen}
use Rattle.tail_book.specs.Plan.{IsLegalPlan}
use Rattle.tail_book.specs.inside.Sound.{IsBook}
use Rattle.branch_marks.specs.declared.fact.Fact.{Fact}
use Rattle.branch_marks.specs.declared.fact.Fact.TheVariants.{Bar, Must, Cut, Tie}
use Rattle.branch_marks.specs.Facts.{HoldAll, joins}
use Rattle.branch_marks.specs.inside.Once.{AreOnce}
use Rattle.quota_rows.specs.Belongs.{belongs}
use Rattle.quota_rows.specs.KeptPlans.{KeepsQuota, uses}
use Rattle.quota_rows.specs.declared.quota.Quota.{Quota}

-- whether the fact is a Tie whose connection belongs to the quota
abbrev pub is_tie_of : BookSeen → Quota → Fact → Bool
is_tie_of book quota (Bar k a) = false
is_tie_of book quota (Must k a) = false
is_tie_of book quota (Cut a b) = false
is_tie_of book quota (Tie a b) = belongs book quota a b

-- how many of the marks are
abbrev pub ties_of : BookSeen → Quota → List Fact → ℕ
ties_of book quota marks = count_by (is_tie_of book quota) marks

-- whether the fact at a place is one is told rightly
abbrev pub IsTieAt : BookSeen → Quota → List Fact → ℕ → Bool → Type 0
IsTieAt book quota marks i told = (other : Fact) → told ≡ is_tie_of book quota (slice_index_or marks i other)

-- more of them are than the quota lets a plan use it
abbrev pub IsTiedOver : BookSeen → List Fact → Quota → Type 0
IsTiedOver book marks quota = quota.most < ties_of book quota marks

-- what stands where there is no quota
abbrev pub no_quota : Quota
no_quota = record { airport = 0; day = pos 0; below = pos 0; most = 0 }

-- the quota of a number
abbrev pub quota_at : List Quota → ℕ → Quota
quota_at quotas q = slice_index_or quotas q no_quota

-- the quota of number q is the first of which so many are tied
pub record IsFirstOver (book : BookSeen) (marks : List Fact) (quotas : List Quota) (q : ℕ) : Type 0 where
  pub of_table : q < length quotas
  pub over : IsTiedOver book marks (quota_at quotas q)
  pub before : (r : ℕ) → r < q → ¬ IsTiedOver book marks (quota_at quotas r)

-- none is
abbrev pub HasNoneOver : BookSeen → List Fact → List Quota → Type 0
HasNoneOver book marks quotas = (q : ℕ) → q < length quotas → ¬ IsTiedOver book marks (quota_at quotas q)

-- marks in which no fact comes twice hold of no plan that keeps a quota of which so many are tied
abbrev pub TiedOverLeavesNoPlan : Type 0
TiedOverLeavesNoPlan = (book : BookSeen) (quota : Quota) (marks : List Fact) → AreOnce marks → IsTiedOver book marks quota
    → (plan : List (List ℕ)) → HoldAll marks plan → ¬ KeepsQuota book plan quota

-- where each connection of a legal plan that belongs to the quota has a Tie, the plan uses the quota no more often than Ties belong to it
abbrev pub TiedUsesAreTies : Type 0
TiedUsesAreTies = (book : BookSeen) → IsBook book → (quota : Quota) (marks : List Fact) (plan : List (List ℕ)) → IsLegalPlan book plan
    → ((a b : ℕ) → joins plan a b ≡ true → belongs book quota a b ≡ true → Contains marks (Tie a b))
    → uses book quota plan ≤ ties_of book quota marks
