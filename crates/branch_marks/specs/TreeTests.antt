-- Proof trees as tests that compute, and that each decides its definition.
-- For cert_checker/src/leaves.rt and cert_checker/src/node_tests.rt.
use Rattle.std.specs.Prelude.{ℕ, ℤ, pos, ◌+ℤ◌, ◌==◌, List, [], ◌∷◌, ◌++◌, Bool, true, ◌&&◌, not, nat_lt, nat_le, length}
use Rattle.std.specs.List.{list_all}
use Rattle.tail_book.specs.Seen.{BookSeen}
use Rattle.tail_book.specs.TableSeen.{CostTableSeen}
use Rattle.tail_book.specs.Lookup.{activities, aircraft}
use Rattle.tail_book.specs.Numbers.{int_le}
use Rattle.tail_book.specs.CostTable.{box_end}
use Rattle.tail_book.specs.Pairs.{each_pair}
use Rattle.branch_marks.specs.declared.fact.Fact.{Fact}
use Rattle.branch_marks.specs.Below.{all_below}
use Rattle.branch_marks.specs.MarkTests.{is_alive}
use Rattle.branch_marks.specs.FactTests.{has_fact}
use Rattle.branch_marks.specs.FollowingTests.{follows}
use Rattle.branch_marks.specs.Labels.{Label}
use Rattle.branch_marks.specs.FamilyTests.{is_closed_family, ends_at_least, has_no_end}
use Rattle.branch_marks.specs.Branches.{first_branch, second_branch}
use Rattle.branch_marks.specs.Undecided.{is_undecided}
use Rattle.branch_marks.specs.ProofTree.{Cover, Tree, Step, Split, Hole, Stuck, Bounded, cover_of, zero_duals, leaf_bound}

-- the dual lies in the box
abbrev pub is_in_box : CostTableSeen → ℤ → Bool
is_in_box table dual = int_le (pos 0) (dual +ℤ pos (box_end table)) && int_le dual (pos (box_end table))

-- a dual for each activity, each of them in the box
abbrev pub are_duals : CostTableSeen → BookSeen → List ℤ → Bool
are_duals table book duals = length duals == activities book && list_all (is_in_box table) duals

-- activity a is a hole
abbrev pub is_hole : BookSeen → List Fact → ℕ → Bool
is_hole book marks a = nat_lt a (activities book) && all_below (λ k. not (is_alive book marks k a)) (aircraft book)

-- the family is closed, in order, and has a value for each counter
abbrev pub is_shown_family : CostTableSeen → BookSeen → List Fact → ℕ → List ℤ → List Label → Bool
is_shown_family table book marks k duals family =
    is_closed_family table book marks k duals family
    && (each_pair (λ label other. nat_le label.at other.at) family
    && list_all (λ label. length label.counters == length book.rules.counters) family)

-- the cover of aircraft k is shown
abbrev pub is_shown_cover : CostTableSeen → BookSeen → List Fact → ℕ → List ℤ → Cover → Bool
is_shown_cover table book marks k duals cover = is_shown_family table book marks k duals cover.family && ends_at_least marks k cover.family cover.value

-- aircraft k is shown to be stuck
abbrev pub is_shown_stuck : CostTableSeen → BookSeen → List Fact → ℕ → List Label → Bool
is_shown_stuck table book marks k family =
    nat_lt k (aircraft book) && (is_shown_family table book marks k (zero_duals book) family && has_no_end marks k family)

-- the bound is shown
abbrev pub is_shown_bound : CostTableSeen → BookSeen → List Fact → List ℤ → List Cover → Bool
is_shown_bound table book marks duals covers =
    are_duals table book duals
    && (length covers == aircraft book && all_below (λ k. is_shown_cover table book marks k duals (cover_of covers k)) (aircraft book))

-- the tree is shown from these marks on
abbrev pub is_shown : CostTableSeen → BookSeen → List Fact → Tree → Bool
is_shown table book marks (Step fact tree) = not (has_fact marks fact) && (follows book marks fact && is_shown table book (marks ++ fact ∷ []) tree)
is_shown table book marks (Split pair one other) =
    is_undecided book marks pair
    && (is_shown table book (marks ++ first_branch pair ∷ []) one && is_shown table book (marks ++ second_branch pair ∷ []) other)
is_shown table book marks (Hole a) = is_hole book marks a
is_shown table book marks (Stuck k family) = is_shown_stuck table book marks k family
is_shown table book marks (Bounded duals covers) = is_shown_bound table book marks duals covers

-- each bound of the tree is at least this
abbrev pub bounds_at_least : ℕ → Tree → Bool
bounds_at_least low (Step fact tree) = bounds_at_least low tree
bounds_at_least low (Split pair one other) = bounds_at_least low one && bounds_at_least low other
bounds_at_least low (Hole a) = true
bounds_at_least low (Stuck k family) = true
bounds_at_least low (Bounded duals covers) = nat_le low (leaf_bound duals covers)
