-- What a search under quotas still owes: lists of marks, of each of which it has yet to be shown that no cheaper plan keeps the quotas.
-- For src/visit.rt and src/tree.rt.
use Rattle.std.specs.Prelude.{ℕ, ◌≤◌, ⊤, List, [], ◌∷◌, ◌++◌}
use Rattle.tail_book.specs.Seen.{BookSeen}
use Rattle.tail_book.specs.TableSeen.{CostTableSeen}
use Rattle.branch_marks.specs.Branches.{IsUndecided, first_branch, second_branch}
use Rattle.branch_marks.specs.declared.fact.Fact.{Fact}
use Rattle.branch_marks.specs.inside.Once.{AreOnce}
use Rattle.node_leaves.specs.Place.{Open, open_place}
use Rattle.branch_tree.specs.inside.SearchParts.{room}
use Rattle.quota_rows.specs.FeeBound.{MarkedKeptPlansCostAtLeast}
use Rattle.quota_rows.specs.declared.quota.Quota.{Quota}
use Rattle.quota_node.specs.declared.step.QuotaStep.{QuotaStep}
use Rattle.quota_node.specs.declared.step.QuotaStep.TheVariants as step

-- none of these lists of marks leaves a plan that is legal, keeps the quotas and costs less than the target
abbrev pub NoneLeavesCheaper : CostTableSeen → BookSeen → List Quota → ℕ → List (List Fact) → Type 0
NoneLeavesCheaper table book quotas target [] = ⊤
NoneLeavesCheaper table book quotas target (marks ∷ owed) =
    MarkedKeptPlansCostAtLeast table book quotas marks target × NoneLeavesCheaper table book quotas target owed

-- and in none of them does a fact come twice
abbrev pub AreAllOnce : List (List Fact) → Type 0
AreAllOnce [] = ⊤
AreAllOnce (marks ∷ owed) = AreOnce marks × AreAllOnce owed

-- what was owed comes down to what is owed now: for this target, and for each that it may still fall to, what was owed leaves no cheaper
-- plan where what is owed now leaves none
abbrev pub ComesDownTo : CostTableSeen → BookSeen → List Quota → ℕ → List (List Fact) → List (List Fact) → Type 0
ComesDownTo table book quotas target before after =
    (last : ℕ) → last ≤ target → NoneLeavesCheaper table book quotas last after → NoneLeavesCheaper table book quotas last before

-- what a node with these marks owes in its place: a split both its branches, and any other end nothing
abbrev pub owed_by : List Fact → QuotaStep → List (List Fact)
owed_by marks (step.Over q) = []
owed_by marks (step.Hole a) = []
owed_by marks (step.Stuck k) = []
owed_by marks (step.Bounded bound) = []
owed_by marks (step.Split pair bound) = (marks ++ first_branch pair ∷ []) ∷ (marks ++ second_branch pair ∷ []) ∷ []

-- how a node ended lets the search go on: it was split on a pair that is undecided, or it owes nothing
abbrev pub MayGoOn : BookSeen → List Fact → QuotaStep → Type 0
MayGoOn book marks (step.Over q) = ⊤
MayGoOn book marks (step.Hole a) = ⊤
MayGoOn book marks (step.Stuck k) = ⊤
MayGoOn book marks (step.Bounded bound) = ⊤
MayGoOn book marks (step.Split pair bound) = IsUndecided book marks pair

-- the places of what is owed, whatever their duals, and how many nodes these can grow to at most: the measure by which a search ends
abbrev pub owed_places : List (List Fact) → List Open
owed_places [] = []
owed_places (marks ∷ owed) = open_place marks [] ∷ owed_places owed

abbrev pub owed_room : BookSeen → List (List Fact) → ℕ
owed_room book owed = room book (owed_places owed)
