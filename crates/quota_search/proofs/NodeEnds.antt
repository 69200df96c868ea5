-- A node takes the place of its marks by what it owes: whatever its end, its marks leave no cheaper plan where that leaves none. So what
-- was owed comes down to what is owed behind it, through any number of nodes, while the target only falls.
use Rattle.std.proofs.Common.{◌≤◌, ℕ, ℤ, pos, ◌≤ℤ◌, arith, List, [], ◌∷◌, ◌++◌, sym, subst}
use Rattle.std.proofs.lemmas.List.Elements.{All-weaker}
use Rattle.tail_book.specs.Seen.{BookSeen}
use Rattle.tail_book.specs.TableSeen.{CostTableSeen}
use Rattle.tail_book.specs.inside.Sound.{IsBook}
use Rattle.branch_marks.specs.declared.fact.Fact.{Fact}
use Rattle.branch_marks.specs.Bound.{bound_of, Passes}
use Rattle.branch_marks.specs.Following.{IsFollowed}
use Rattle.branch_marks.specs.Settled.{AreDuals}
use Rattle.branch_marks.specs.inside.Once.{AreOnce}
use Rattle.quota_rows.specs.FeeBound.{MarkedKeptPlansCostAtLeast}
use Rattle.quota_rows.specs.Fees.{AreFees, IsFee}
use Rattle.quota_rows.specs.declared.quota.Quota.{Quota}
use Rattle.quota_split.specs.OnceKept.{BranchesStayOnce, StepsStayOnce}
use Rattle.quota_split.specs.NodeEnds.{BoundsEnd, BranchesEnd, HolesEnd, OversEnd, StepsEnd, StuckEnds}
use Rattle.quota_node.specs.QuotaNode.{IsTrueQuotaStep}
use Rattle.quota_node.specs.declared.step.QuotaStep.{QuotaStep}
use Rattle.quota_node.specs.declared.step.QuotaStep.TheVariants as step
use Rattle.quota_search.specs.inside.Owing.{AreAllOnce, ComesDownTo, MayGoOn, NoneLeavesCheaper, owed_by}

-- a split that is answered is on an undecided pair
pub may_go_on : (table : CostTableSeen) (book : BookSeen) (quotas : List Quota) (marks : List Fact) (duals fees : List ℤ) (target : ℕ) (end : QuotaStep)
    → IsTrueQuotaStep table book quotas marks duals fees target end → MayGoOn book marks end
may_go_on table book quotas marks duals fees target (step.Over q) is = tt
may_go_on table book quotas marks duals fees target (step.Hole a) is = tt
may_go_on table book quotas marks duals fees target (step.Stuck k) is = tt
may_go_on table book quotas marks duals fees target (step.Bounded bound) is = tt
may_go_on table book quotas marks duals fees target (step.Split pair bound) is = is.1.undecided

-- marks in which no fact comes twice stay so with what followed from them
pub closed_once : StepsStayOnce → (book : BookSeen) (before after : List Fact) → IsFollowed book before after → AreOnce before → AreOnce after
closed_once steps book before after followed once = subst AreOnce (sym followed.marks) (steps book before followed.added once followed.follow)

-- and so does what a node with them owes
pub owed_once : BranchesStayOnce → (book : BookSeen) (marks : List Fact) (end : QuotaStep) (behind : List (List Fact)) → AreOnce marks → MayGoOn book marks end
    → AreAllOnce behind → AreAllOnce (owed_by marks end ++ behind)
owed_once branches book marks (step.Over q) behind once may rest = rest
owed_once branches book marks (step.Hole a) behind once may rest = rest
owed_once branches book marks (step.Stuck k) behind once may rest = rest
owed_once branches book marks (step.Bounded bound) behind once may rest = rest
owed_once branches book marks (step.Split pair bound) behind once may rest =
    let both = branches book marks pair once may in (both.0, (both.1, rest))

module _ (table : CostTableSeen) (book : BookSeen) (quotas : List Quota) where
  -- a smaller target is undercut by fewer plans
  weaker : (marks : List Fact) (target last : ℕ) → last ≤ target → MarkedKeptPlansCostAtLeast table book quotas marks target
      → MarkedKeptPlansCostAtLeast table book quotas marks last
  weaker marks target last le low plan kept hold = let costs = low plan kept hold in omega (arith, le, costs)

  -- what is owed comes down to itself, and from there on
  pub comes_to_itself : (target : ℕ) (owed : List (List Fact)) → ComesDownTo table book quotas target owed owed
  comes_to_itself target owed last le none = none

  pub comes_on : (target lower : ℕ) (before between after : List (List Fact)) → lower ≤ target → ComesDownTo table book quotas target before between
      → ComesDownTo table book quotas lower between after → ComesDownTo table book quotas lower before after
  comes_on target lower before between after le first then last below none = first last (omega (arith, le, below)) (then last below none)

  -- where nothing is owed, no marks leave a cheaper plan
  pub nothing_owed : (target : ℕ) → ComesDownTo table book quotas target ([] ∷ []) [] → MarkedKeptPlansCostAtLeast table book quotas [] target
  nothing_owed target down = (down target (omega arith) tt).0

  module _ (is_book : IsBook book) (overs : OversEnd) (holes : HolesEnd) (stuck : StuckEnds) (bounds : BoundsEnd) (branches : BranchesEnd) where
    -- the bound of a node passes the target that stood there
    bounded : (marks : List Fact) (duals fees : List ℤ) (target : ℕ) (bound : ℤ) → AreDuals table book duals → AreFees table quotas fees
        → IsTrueQuotaStep table book quotas marks duals fees target (step.Bounded bound) → MarkedKeptPlansCostAtLeast table book quotas marks target
    bounded marks duals fees target bound boxed paid is =
        let (values, least, same) = is.1.sum in
        bounds table book is_book quotas marks duals fees values target boxed.one_each
        (All-weaker (IsFee table) (λ (fee : ℤ). pos 0 ≤ℤ fee) (λ fee within. within.least) fees paid.box) least
        (subst (λ (sum : ℤ). Passes (bound_of sum) target) same is.1.passes)

    -- whatever the end of a node, its marks leave no cheaper plan where what it owes leaves none
    node_ends : (marks : List Fact) (duals fees : List ℤ) (target last : ℕ) (end : QuotaStep) (behind : List (List Fact)) → AreOnce marks
        → AreDuals table book duals → AreFees table quotas fees → IsTrueQuotaStep table book quotas marks duals fees target end → last ≤ target
        → NoneLeavesCheaper table book quotas last (owed_by marks end ++ behind) → NoneLeavesCheaper table book quotas last (marks ∷ behind)
    node_ends marks duals fees target last (step.Over q) behind once boxed paid is le none = (overs table book quotas marks q last once is, none)
    node_ends marks duals fees target last (step.Hole a) behind once boxed paid is le none = (holes table book is_book quotas marks a last is.1, none)
    node_ends marks duals fees target last (step.Stuck k) behind once boxed paid is le none =
        (stuck table book is_book quotas marks k last is.1 is.2, none)
    node_ends marks duals fees target last (step.Bounded bound) behind once boxed paid is le none =
        (weaker marks target last le (bounded marks duals fees target bound boxed paid is), none)
    node_ends marks duals fees target last (step.Split pair bound) behind once boxed paid is le none =
        (branches table book quotas marks pair last none.0 none.1.0, none.1.1)

    -- and so of the marks before all that followed from them
    pub visit_comes_down : StepsEnd → (before after : List Fact) (duals fees : List ℤ) (target : ℕ) (end : QuotaStep) (behind : List (List Fact)) → IsFollowed book before after
        → AreOnce after → AreDuals table book duals → AreFees table quotas fees → IsTrueQuotaStep table book quotas after duals fees target end
        → ComesDownTo table book quotas target (before ∷ behind) (owed_by after end ++ behind)
    visit_comes_down steps before after duals fees target end behind followed once boxed paid is last le none =
        let ended = node_ends after duals fees target last end behind once boxed paid is le none in
        let closed = subst (λ (marks : List Fact). MarkedKeptPlansCostAtLeast table book quotas marks last) followed.marks ended.0 in
        (steps table book is_book quotas before followed.added last followed.follow closed, ended.1)
