-- A shown tree bounds every legal plan of which its marks hold, by induction over the tree: a fact that follows holds too, one
-- branch of a split holds, a leaf without a plan bounds by anything, and covers bound by weak duality.
use Rattle.std.proofs.Common.{◌≡◌, ◌∙◌, ℕ, zero, suc, ℤ, pos, ◌≤◌, inl, inr, arith, List, [], ◌∷◌, ◌++◌, map, sym, refl, get_or, subst}
use Rattle.std.proofs.lemmas.List.{length-map}
use Rattle.std.proofs.lemmas.List.Elements.{All-push}
use Rattle.tail_book.specs.Seen.{BookSeen}
use Rattle.tail_book.specs.TableSeen.{CostTableSeen}
use Rattle.tail_book.specs.CostTable.{plan_cost_in}
use Rattle.tail_book.specs.Plan.{IsLegalPlan}
use Rattle.tail_book.specs.inside.Sound.{IsBook}
use Rattle.branch_marks.specs.declared.fact.Fact.{Fact}
use Rattle.branch_marks.specs.Facts.{Holds, HoldAll}
use Rattle.branch_marks.specs.DeadEnds.{HolesLeaveNoPlan, StuckLeavesNoPlan}
use Rattle.branch_marks.specs.Following.{FollowingFactsHold}
use Rattle.branch_marks.specs.Weights.{WeighsAtLeast}
use Rattle.branch_marks.specs.Bound.{AreLowWeights, LowWeightsBound}
use Rattle.branch_marks.specs.Families.{ClosedFamiliesBound, EndlessFamiliesStick}
use Rattle.branch_marks.specs.Branches.{first_branch, second_branch, OneBranchHolds}
use Rattle.branch_marks.specs.ProofTree.{Cover, cover_of, Tree, Step, Split, Hole, Stuck, Bounded, zero_duals, IsShown, IsShownBound, BoundsAtLeast}

value_of_cover : (covers : List Cover) (k : ℕ) → get_or (map (λ cover. cover.value) covers) k (pos 0) ≡ (cover_of covers k).value
value_of_cover [] k = refl
value_of_cover (cover ∷ covers) zero = refl
value_of_cover (cover ∷ covers) (suc k) = value_of_cover covers k

module _ (follow : FollowingFactsHold) (branch : OneBranchHolds) (hole : HolesLeaveNoPlan) (no_route : StuckLeavesNoPlan) (dual_bound : LowWeightsBound)
    (family_bound : ClosedFamiliesBound) (sticks : EndlessFamiliesStick) (table : CostTableSeen) (book : BookSeen) (sound : IsBook book) where
  -- shown covers are low weights
  covers_low : (marks : List Fact) (duals : List ℤ) (covers : List Cover) → IsShownBound table book marks duals covers
      → AreLowWeights table book marks duals (map (λ cover. cover.value) covers)
  covers_low marks duals covers shown = record {
    one_each = length-map covers (λ (cover : Cover). cover.value) ∙ shown.one_each;
    each = λ k hk. let c = shown.each k hk in
        subst (λ (value : ℤ). WeighsAtLeast table book marks k duals value) (sym (value_of_cover covers k))
        (family_bound table book marks k duals (cover_of covers k).family (cover_of covers k).value c.family.closed c.ends);
  }

  module _ (plan : List (List ℕ)) (legal : IsLegalPlan book plan) (low : ℕ) where
    pub tree_bound : (marks : List Fact) (tree : Tree) → IsShown table book marks tree → BoundsAtLeast low tree → HoldAll marks plan → low ≤ plan_cost_in table book plan
    tree_bound marks (Step fact tree) shown bounds hold =
        tree_bound (marks ++ fact ∷ []) tree shown.2 bounds
        (All-push (λ f. Holds f plan) marks fact hold (follow book sound marks fact shown.1 plan legal hold))
    tree_bound marks (Split pair one other) shown bounds hold =
        let first = tree_bound (marks ++ first_branch pair ∷ []) one shown.1 bounds.0 in
        let second = tree_bound (marks ++ second_branch pair ∷ []) other shown.2 bounds.1 in
        elim ((branch pair plan).0) [
          | inl h ↦ first (All-push (λ f. Holds f plan) marks (first_branch pair) hold h)
          | inr h ↦ second (All-push (λ f. Holds f plan) marks (second_branch pair) hold h)
        ]
    tree_bound marks (Hole a) shown bounds hold = absurd (hole book sound marks a shown plan legal hold)
    tree_bound marks (Stuck k family) shown bounds hold =
        absurd (no_route book sound marks k shown.aircraft (sticks table book marks k (zero_duals book) family shown.shown.closed shown.endless) plan legal hold)
    tree_bound marks (Bounded duals covers) shown bounds hold =
        let bound = dual_bound table book sound marks duals (map (λ cover. cover.value) covers) shown.in_box.one_each (covers_low marks duals covers shown) plan legal hold in
        omega (arith, bound, bounds)
