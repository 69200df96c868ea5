-- Trees with lean leaves by tests that compute, which decide what the definitions say.
use Rattle.std.specs.Prelude.{◌==◌, ◌&&◌, not, nat_le, IfSome, All}
use Rattle.std.specs.Bool.{Decides}
use Rattle.std.specs.List.{list_all}
use Rattle.std.proofs.Common.{◌≡◌, ◌≤◌, ℕ, ℤ, pos, ◌+ℤ◌, Bool, true, List, [], ◌∷◌, ◌++◌, Option, Some, None, length, arith, refl}
use Rattle.std.proofs.lemmas.Bool.{and_from, and_parts}
use Rattle.std.proofs.lemmas.Bool.Decides.{Decides-and, Decides-eqb, Decides-like, Decides-not, nat_tests}
use Rattle.std.proofs.lemmas.List.Elements.{All-cons, All-head, All-nil, All-tail}
use Rattle.tail_book.specs.Lookup.{activities}
use Rattle.tail_book.specs.Seen.{BookSeen}
use Rattle.tail_book.specs.TableSeen.{CostTableSeen}
use Rattle.tail_book.specs.CostTable.{IsInBox, box_end, costs_of}
use Rattle.tail_book.proofs.Deciding.{int_le_tested}
use Rattle.branch_marks.specs.Branches.{first_branch, second_branch}
use Rattle.branch_marks.specs.FactTests.{has_fact}
use Rattle.branch_marks.specs.FollowingTests.{follows}
use Rattle.branch_marks.specs.Settled.{AreDuals}
use Rattle.branch_marks.specs.TreeTests.{are_duals, bounds_at_least, is_in_box, is_shown}
use Rattle.branch_marks.specs.Undecided.{is_undecided}
use Rattle.branch_marks.specs.declared.fact.Fact.{Fact}
use Rattle.branch_marks.specs.inside.BranchTests.{UndecidedDecides}
use Rattle.branch_marks.specs.inside.FactTests.{HasFactDecides}
use Rattle.branch_marks.specs.inside.FollowingTests.{FollowsDecides}
use Rattle.branch_marks.specs.inside.TreeTests.{BoundsDecide, ShownDecides}
use Rattle.cert_checker.specs.LeanTree.{BoundsIn, IsShownIn, LeanTree, Lean, Split, Step, Told}
use Rattle.cert_checker.specs.LeastWeight.{lean_bound}
use Rattle.cert_checker.specs.Reasons.{reaches}

abbrev pub is_shown_in : ℕ → BookSeen → List Fact → LeanTree → Bool
is_shown_in version book marks (Told tree) = is_shown (costs_of book) book marks tree
is_shown_in version book marks (Step fact tree) = not (has_fact marks fact) && (follows book marks fact && is_shown_in version book (marks ++ fact ∷ []) tree)
is_shown_in version book marks (Split pair one other) =
    is_undecided book marks pair
    && (is_shown_in version book (marks ++ first_branch pair ∷ []) one && is_shown_in version book (marks ++ second_branch pair ∷ []) other)
is_shown_in version book marks (Lean duals) = version == 2 && are_duals (costs_of book) book duals

abbrev pub bounds_in : BookSeen → ℕ → List Fact → LeanTree → Bool
bounds_in book low marks (Told tree) = bounds_at_least low tree
bounds_in book low marks (Step fact tree) = bounds_in book low (marks ++ fact ∷ []) tree
bounds_in book low marks (Split pair one other) = bounds_in book low (marks ++ first_branch pair ∷ []) one && bounds_in book low (marks ++ second_branch pair ∷ []) other
bounds_in book low marks (Lean duals) = reaches low (lean_bound book marks duals)

in_box_tested : (table : CostTableSeen) (dual : ℤ) → Decides (is_in_box table dual) (IsInBox table dual)
in_box_tested table dual =
    Decides-like (is_in_box table dual) (λ h. record { least = h.0; most = h.1 }) (λ b. (b.least, b.most))
    (Decides-and _ _ (int_le_tested (pos 0) (dual +ℤ pos (box_end table))) (int_le_tested dual (pos (box_end table))))

all_in_box : (table : CostTableSeen) (duals : List ℤ) → list_all (is_in_box table) duals ≡ true → All (IsInBox table) duals
all_in_box table [] e = All-nil (IsInBox table)
all_in_box table (dual ∷ duals) e =
    let parts = and_parts (is_in_box table dual) (list_all (is_in_box table) duals) e in
    All-cons (IsInBox table) dual duals ((in_box_tested table dual).0 parts.0) (all_in_box table duals parts.1)

all_test_true : (table : CostTableSeen) (duals : List ℤ) → All (IsInBox table) duals → list_all (is_in_box table) duals ≡ true
all_test_true table [] each = refl
all_test_true table (dual ∷ duals) each =
    and_from (is_in_box table dual) (list_all (is_in_box table) duals) ((in_box_tested table dual).1 (All-head (IsInBox table) dual duals each))
    (all_test_true table duals (All-tail (IsInBox table) dual duals each))

pub duals_tested : (table : CostTableSeen) (book : BookSeen) (duals : List ℤ) → Decides (are_duals table book duals) (AreDuals table book duals)
duals_tested table book duals =
    Decides-like (are_duals table book duals) (λ h. record { one_each = h.0; box = h.1 }) (λ d. (d.one_each, d.box))
    (Decides-and _ _ (Decides-eqb (length duals) (activities book)) (all_in_box table duals, all_test_true table duals))

le_tested : (a b : ℕ) → Decides (nat_le a b) (a ≤ b)
le_tested a b = grind (arith, nat_tests)

reaches_tested : (low : ℕ) (bound : Option ℕ) → Decides (reaches low bound) (IfSome bound (λ bound. low ≤ bound))
reaches_tested low None = (λ e. tt, λ h. refl)
reaches_tested low (Some bound) = le_tested low bound

module _ (has : HasFactDecides) (follow : FollowsDecides) (undecided : UndecidedDecides) (shown : ShownDecides) (version : ℕ) (book : BookSeen) where
  pub shown_in_tested : (tree : LeanTree) (marks : List Fact) → Decides (is_shown_in version book marks tree) (IsShownIn version book marks tree)
  shown_in_tested (Told tree) marks = shown (costs_of book) book marks tree
  shown_in_tested (Step fact tree) marks =
      Decides-like (is_shown_in version book marks (Step fact tree)) (λ h. (h.0, h.1.0, h.1.1)) (λ s. (s.0, (s.1, s.2)))
      (Decides-and _ _ (Decides-not _ (has marks fact)) (Decides-and _ _ (follow book marks fact) (shown_in_tested tree (marks ++ fact ∷ []))))
  shown_in_tested (Split pair one other) marks =
      Decides-like (is_shown_in version book marks (Split pair one other)) (λ h. (h.0, h.1.0, h.1.1)) (λ s. (s.0, (s.1, s.2)))
      (Decides-and _ _ (undecided book marks pair)
      (Decides-and _ _ (shown_in_tested one (marks ++ first_branch pair ∷ [])) (shown_in_tested other (marks ++ second_branch pair ∷ []))))
  shown_in_tested (Lean duals) marks = Decides-and _ _ (Decides-eqb version 2) (duals_tested (costs_of book) book duals)

module _ (bounds : BoundsDecide) (book : BookSeen) (low : ℕ) where
  pub bounds_in_tested : (tree : LeanTree) (marks : List Fact) → Decides (bounds_in book low marks tree) (BoundsIn book low marks tree)
  bounds_in_tested (Told tree) marks = bounds low tree
  bounds_in_tested (Step fact tree) marks = bounds_in_tested tree (marks ++ fact ∷ [])
  bounds_in_tested (Split pair one other) marks =
      Decides-and _ _ (bounds_in_tested one (marks ++ first_branch pair ∷ [])) (bounds_in_tested other (marks ++ second_branch pair ∷ []))
  bounds_in_tested (Lean duals) marks = reaches_tested low (lean_bound book marks duals)
