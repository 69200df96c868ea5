-- A certificate's tree, as far as its lines have come: whatever trees the places that are left get, put there they make one whole
-- tree, whose lines are those so far and then theirs. So a line that takes a place, and leaves others, puts one tree together of
-- those behind it.
use Rattle.std.proofs.Common.{◌≡◌, ◌∙◌, ℕ, Bool, true, false, List, [], ◌∷◌, ◌++◌, Option, Some, None, nat_le, refl, sym, ap, arith, append_assoc}
use Rattle.std.proofs.lemmas.Bool.Decides.{nat_tests}
use Rattle.std.proofs.lemmas.List.{append-nil}
use Rattle.std.specs.List.{flat_map}
use Rattle.std.specs.Prelude.{⊤, if◌then◌else◌}
use Rattle.tail_book.specs.Seen.{BookSeen}
use Rattle.branch_marks.specs.Branches.{first_branch, second_branch}
use Rattle.branch_marks.specs.declared.event.Event.TheVariants as events
use Rattle.branch_marks.specs.declared.fact.Fact.{Fact}
use Rattle.branch_marks.specs.declared.fact.Pair.{Pair}
use Rattle.branch_marks.specs.Undecided.{is_undecided}
use Rattle.branch_marks.specs.FactTests.{has_fact}
use Rattle.branch_marks.specs.FollowingTests.{follows}
use Rattle.cert_lines.specs.declared.cert_line.CertLine.{CertLine}
use Rattle.cert_lines.specs.declared.cert_line.CertLine.TheVariants as lines
use Rattle.cert_checker.specs.LeanTree.{LeanTree, tree_lines}
use Rattle.cert_checker.specs.LeanTree as grown
use Rattle.cert_checker.specs.Step.{lower, lower_by}
use Rattle.cert_checker.specs.Reasons.{reaches}
use Rattle.cert_checker.proofs.LeanTests.{bounds_in, is_shown_in}

-- each place has its tree, which is shown from its marks on and bounds by this
abbrev pub ShownAt : ℕ → BookSeen → ℕ → List (List Fact) → List LeanTree → Type 0
ShownAt version book low [] [] = ⊤
ShownAt version book low [] (tree ∷ trees) = ⊥
ShownAt version book low (marks ∷ places) [] = ⊥
ShownAt version book low (marks ∷ places) (tree ∷ trees) =
    (is_shown_in version book marks tree ≡ true) × (bounds_in book low marks tree ≡ true) × ShownAt version book low places trees

-- the lines of trees, one after the other
abbrev pub lines_of : List LeanTree → List CertLine
lines_of trees = flat_map tree_lines trees

-- a whole tree that is shown, bounds by this, and has these lines
pub record IsTreeOf (version : ℕ) (book : BookSeen) (low : ℕ) (told : List CertLine) (tree : LeanTree) : Type 0 where
  pub shown : is_shown_in version book [] tree ≡ true
  pub bounds : bounds_in book low [] tree ≡ true
  pub spelled : tree_lines tree ≡ told

-- the trees of the places that are left make one whole tree
abbrev pub Grows : ℕ → BookSeen → List CertLine → List (List Fact) → Option ℕ → Type 0
Grows version book told places least =
    (low : ℕ) → reaches low least ≡ true → (trees : List LeanTree) → ShownAt version book low places trees → (tree : LeanTree) × IsTreeOf version book low (told ++ lines_of trees) tree

-- at the start the one place is that of the whole tree
pub grows_first : (version : ℕ) (book : BookSeen) → Grows version book [] ([] ∷ []) None
grows_first version book low reached [] h = absurd h
grows_first version book low reached (tree ∷ []) h = (tree, record { shown = h.0; bounds = h.1; spelled = sym (append-nil (tree_lines tree)) })
grows_first version book low reached (tree ∷ other ∷ trees) h = absurd h.2

-- where no place is left, the tree is there
pub grows_last : (version : ℕ) (book : BookSeen) (told : List CertLine) (least : Option ℕ) → Grows version book told [] least → (low : ℕ) → reaches low least ≡ true
    → (tree : LeanTree) × IsTreeOf version book low told tree
grows_last version book told least grows low reached =
    let (tree, made) = grows low reached [] tt in
    (tree, record { shown = made.shown; bounds = made.bounds; spelled = made.spelled ∙ append-nil told })

module _ (version : ℕ) (book : BookSeen) (told : List CertLine) (marks : List Fact) (owed : List (List Fact)) (least : Option ℕ) (grows : Grows version book told (marks ∷ owed) least) where
  -- a step
  pub grows_step : (fact : Fact) → has_fact marks fact ≡ false → follows book marks fact ≡ true
      → Grows version book (told ++ lines.Event (events.Fact fact) ∷ []) ((marks ++ fact ∷ []) ∷ owed) least
  grows_step fact new follow low reached [] h = absurd h
  grows_step fact new follow low reached (tree ∷ trees) h =
      let (whole, made) = grows low reached (grown.Step fact tree ∷ trees) (rw (new, follow, h.0) refl, h.1, h.2) in
      (whole, record { shown = made.shown; bounds = made.bounds; spelled = made.spelled ∙ sym (append_assoc told (lines.Event (events.Fact fact) ∷ []) (lines_of (tree ∷ trees))) })

  -- a split
  pub grows_split : (pair : Pair) → is_undecided book marks pair ≡ true
      → Grows version book (told ++ lines.Event (events.Split pair) ∷ []) ((marks ++ first_branch pair ∷ []) ∷ (marks ++ second_branch pair ∷ []) ∷ owed) least
  grows_split pair undecided low reached [] h = absurd h
  grows_split pair undecided low reached (one ∷ []) h = absurd h.2
  grows_split pair undecided low reached (one ∷ other ∷ trees) h =
      let (whole, made) = grows low reached (grown.Split pair one other ∷ trees) (rw (undecided, h.0, h.2.0) refl, rw (h.1, h.2.1) refl, h.2.2) in
      let split : CertLine = lines.Event (events.Split pair) in
      let parts : lines_of (grown.Split pair one other ∷ trees) ≡ split ∷ lines_of (one ∷ other ∷ trees) =
      ap (λ rest. split ∷ rest) (append_assoc (tree_lines one) (tree_lines other) (lines_of trees)) in
      (whole, record { shown = made.shown; bounds = made.bounds; spelled = made.spelled ∙ ap (λ rest. told ++ rest) parts ∙ sym (append_assoc told (split ∷ []) (lines_of (one ∷ other ∷ trees))) })

  -- a leaf, with the bound that it brings, if any
  pub grows_leaf : (leaf : LeanTree) (lowest : Option ℕ) → is_shown_in version book marks leaf ≡ true
      → ((low : ℕ) → reaches low lowest ≡ true → (bounds_in book low marks leaf ≡ true) × (reaches low least ≡ true))
      → Grows version book (told ++ tree_lines leaf) owed lowest
  grows_leaf leaf lowest shown bounds low reached trees h =
      let bound = bounds low reached in
      let (whole, made) = grows low bound.1 (leaf ∷ trees) (shown, bound.0, h) in
      (whole, record { shown = made.shown; bounds = made.bounds; spelled = made.spelled ∙ sym (append_assoc told (tree_lines leaf) (lines_of trees)) })

-- what is at most the least bound with one more is at most that one, and at most the least
below_both : (low least bound : ℕ) (test : Bool) → nat_le least bound ≡ test → nat_le low (if test then least else bound) ≡ true → (nat_le low bound ≡ true) × (nat_le low least ≡ true)
below_both low least bound true e h = (grind (arith, nat_tests), h)
below_both low least bound false e h = (h, grind (arith, nat_tests))

pub reaches_lower : (low bound : ℕ) (least : Option ℕ) → reaches low (lower least bound) ≡ true → (nat_le low bound ≡ true) × (reaches low least ≡ true)
reaches_lower low bound None h = (h, refl)
reaches_lower low bound (Some least) h = below_both low least bound (nat_le least bound) refl h

-- with the bound of a leaf that may have none
pub reaches_lower_by : (low : ℕ) (bound least : Option ℕ) → reaches low (lower_by least bound) ≡ true → (reaches low bound ≡ true) × (reaches low least ≡ true)
reaches_lower_by low None least h = (refl, h)
reaches_lower_by low (Some bound) least h = reaches_lower low bound least h
