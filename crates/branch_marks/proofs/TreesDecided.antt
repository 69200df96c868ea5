-- The tests of proof trees decide their definitions.
use Rattle.std.proofs.Common.{◌≡◌, ℕ, ℤ, pos, ◌+ℤ◌, ◌≤◌, List, [], ◌∷◌, ◌++◌, length}
use Rattle.std.specs.Prelude.{nat_le, ◌==◌}
use Rattle.std.specs.Bool.{Decides}
use Rattle.std.proofs.lemmas.Bool.Decides.{Decides-eqb, Decides-ltb, Decides-and, Decides-not, Decides-like}
use Rattle.tail_book.specs.Seen.{BookSeen}
use Rattle.tail_book.specs.TableSeen.{CostTableSeen}
use Rattle.tail_book.specs.Lookup.{activities, aircraft}
use Rattle.tail_book.specs.CostTable.{box_end, IsInBox}
use Rattle.branch_marks.specs.declared.fact.Fact.{Fact}
use Rattle.branch_marks.specs.Marks.{IsAlive}
use Rattle.branch_marks.specs.inside.MarkTests.{AliveDecides}
use Rattle.branch_marks.specs.inside.FactTests.{HasFactDecides}
use Rattle.branch_marks.specs.DeadEnds.{IsHole}
use Rattle.branch_marks.specs.inside.FollowingTests.{FollowsDecides}
use Rattle.branch_marks.specs.Settled.{AreDuals}
use Rattle.branch_marks.specs.Labels.{Label}
use Rattle.branch_marks.specs.inside.FamilyTests.{ClosedFamilyDecides, EndsDecide, NoEndDecides}
use Rattle.branch_marks.specs.Branches.{first_branch, second_branch}
use Rattle.branch_marks.specs.inside.BranchTests.{UndecidedDecides}
use Rattle.branch_marks.specs.ProofTree.{Cover, Tree, Step, Split, Hole, Stuck, Bounded, cover_of, zero_duals, leaf_bound, IsShownFamily, IsShownCover, IsShownStuck, IsShownBound, IsShown, BoundsAtLeast}
use Rattle.branch_marks.specs.TreeTests.{is_in_box, are_duals, is_hole, is_shown_family, is_shown_cover, is_shown_stuck, is_shown_bound, is_shown, bounds_at_least}
use Rattle.branch_marks.proofs.Decisions.{always, all_tested, pairs_tested, le_tested, int_le_tested}
use Rattle.branch_marks.proofs.BelowDecided.{all_below_tested}

pub bounds_tested : (low : ℕ) (tree : Tree) → Decides (bounds_at_least low tree) (BoundsAtLeast low tree)
bounds_tested low (Step fact tree) = bounds_tested low tree
bounds_tested low (Split pair one other) = Decides-and _ _ (bounds_tested low one) (bounds_tested low other)
bounds_tested low (Hole a) = always
bounds_tested low (Stuck k family) = always
bounds_tested low (Bounded duals covers) = le_tested low (leaf_bound duals covers)

in_box_tested : (table : CostTableSeen) (dual : ℤ) → Decides (is_in_box table dual) (IsInBox table dual)
in_box_tested table dual =
    Decides-like (is_in_box table dual) (λ h. record { least = h.0; most = h.1 }) (λ b. (b.least, b.most))
    (Decides-and _ _ (int_le_tested (pos 0) (dual +ℤ pos (box_end table))) (int_le_tested dual (pos (box_end table))))

duals_tested : (table : CostTableSeen) (book : BookSeen) (duals : List ℤ) → Decides (are_duals table book duals) (AreDuals table book duals)
duals_tested table book duals =
    Decides-like (are_duals table book duals) (λ h. record { one_each = h.0; box = h.1 }) (λ d. (d.one_each, d.box))
    (Decides-and _ _ (Decides-eqb (length duals) (activities book)) (all_tested (is_in_box table) (IsInBox table) (in_box_tested table) duals))

module _ (alive : AliveDecides) (has : HasFactDecides) (follow : FollowsDecides) (pair_tested : UndecidedDecides) (closed : ClosedFamilyDecides) (ends : EndsDecide)
    (endless : NoEndDecides) (table : CostTableSeen) (book : BookSeen) where
  hole_tested : (marks : List Fact) (a : ℕ) → Decides (is_hole book marks a) (IsHole book marks a)
  hole_tested marks a =
      Decides-like (is_hole book marks a) (λ h. record { of_book = h.0; nobody = h.1 }) (λ d. (d.of_book, d.nobody))
      (Decides-and _ _ (Decides-ltb a (activities book))
      (all_below_tested _ (λ k. ¬ IsAlive book marks k a) (λ k. Decides-not _ (alive book marks k a)) (aircraft book)))

  family_tested : (marks : List Fact) (k : ℕ) (duals : List ℤ) (family : List Label) → Decides (is_shown_family table book marks k duals family) (IsShownFamily table book marks k duals family)
  family_tested marks k duals family =
      Decides-like (is_shown_family table book marks k duals family) (λ h. record { closed = h.0; ordered = h.1.0; counted = h.1.1 }) (λ f. (f.closed, (f.ordered, f.counted)))
      (Decides-and _ _ (closed table book marks k duals family) (Decides-and _ _
      (pairs_tested (λ label other. nat_le label.at other.at) (λ (label other : Label). label.at ≤ other.at) (λ label other. le_tested label.at other.at) family)
      (all_tested (λ label. length label.counters == length book.rules.counters) (λ (label : Label). length label.counters ≡ length book.rules.counters)
      (λ label. Decides-eqb (length label.counters) (length book.rules.counters)) family)))

  cover_tested : (marks : List Fact) (k : ℕ) (duals : List ℤ) (cover : Cover) → Decides (is_shown_cover table book marks k duals cover) (IsShownCover table book marks k duals cover)
  cover_tested marks k duals cover =
      Decides-like (is_shown_cover table book marks k duals cover) (λ h. record { family = h.0; ends = h.1 }) (λ c. (c.family, c.ends))
      (Decides-and _ _ (family_tested marks k duals cover.family) (ends marks k cover.family cover.value))

  stuck_tested : (marks : List Fact) (k : ℕ) (family : List Label) → Decides (is_shown_stuck table book marks k family) (IsShownStuck table book marks k family)
  stuck_tested marks k family =
      Decides-like (is_shown_stuck table book marks k family) (λ h. record { aircraft = h.0; shown = h.1.0; endless = h.1.1 }) (λ s. (s.aircraft, (s.shown, s.endless)))
      (Decides-and _ _ (Decides-ltb k (aircraft book)) (Decides-and _ _ (family_tested marks k (zero_duals book) family) (endless marks k family)))

  bound_tested : (marks : List Fact) (duals : List ℤ) (covers : List Cover) → Decides (is_shown_bound table book marks duals covers) (IsShownBound table book marks duals covers)
  bound_tested marks duals covers =
      Decides-like (is_shown_bound table book marks duals covers) (λ h. record { in_box = h.0; one_each = h.1.0; each = h.1.1 }) (λ b. (b.in_box, (b.one_each, b.each)))
      (Decides-and _ _ (duals_tested table book duals) (Decides-and _ _ (Decides-eqb (length covers) (aircraft book))
      (all_below_tested _ (λ k. IsShownCover table book marks k duals (cover_of covers k)) (λ k. cover_tested marks k duals (cover_of covers k)) (aircraft book))))

  pub shown_tested : (marks : List Fact) (tree : Tree) → Decides (is_shown table book marks tree) (IsShown table book marks tree)
  shown_tested marks (Step fact tree) =
      Decides-like (is_shown table book marks (Step fact tree)) (λ h. (h.0, h.1.0, h.1.1)) (λ s. (s.0, (s.1, s.2)))
      (Decides-and _ _ (Decides-not _ (has marks fact)) (Decides-and _ _ (follow book marks fact) (shown_tested (marks ++ fact ∷ []) tree)))
  shown_tested marks (Split pair one other) =
      Decides-like (is_shown table book marks (Split pair one other)) (λ h. (h.0, h.1.0, h.1.1)) (λ s. (s.0, (s.1, s.2)))
      (Decides-and _ _ (pair_tested book marks pair)
      (Decides-and _ _ (shown_tested (marks ++ first_branch pair ∷ []) one) (shown_tested (marks ++ second_branch pair ∷ []) other)))
  shown_tested marks (Hole a) = hole_tested marks a
  shown_tested marks (Stuck k family) = stuck_tested marks k family
  shown_tested marks (Bounded duals covers) = bound_tested marks duals covers
