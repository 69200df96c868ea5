-- The lines of a proof tree's events, in either version, are those of a tree as a certificate tells it: in a full one of the tree itself,
-- in a lean one of the tree with each bound leaf lean. That tree is shown too, and its bounds are no lower.
--
-- A tree never begins with a label, so its lines are the same wherever it stands; and behind a cover's event each event up to the next
-- cover's is a label, so covers leave no line.
use Rattle.std.proofs.Common.{◌≡◌, ◌∙◌, ◌+◌, Bool, true, false, ℕ, zero, suc, ℤ, pos, negsuc, List, [], ◌∷◌, ◌++◌, map, refl, ap}
use Rattle.std.proofs.lemmas.List.{append-nil}
use Rattle.tail_book.specs.CostTable.{costs_of}
use Rattle.tail_book.specs.Seen.{BookSeen}
use Rattle.tail_book.specs.inside.Sound.{IsBook}
use Rattle.branch_marks.specs.Labels.{Label}
use Rattle.branch_marks.specs.ProofTree.{BoundsAtLeast, Cover, IsShown, Tree, Step, Split, Hole, Stuck, Bounded}
use Rattle.branch_marks.specs.TreeEvents.{cover_events, dual_events, label_events, tree_events}
use Rattle.branch_marks.specs.declared.event.Event.{Event}
use Rattle.branch_marks.specs.declared.event.Event.TheVariants as event
use Rattle.cert_lines.specs.declared.cert_line.CertLine.{CertLine}
use Rattle.cert_lines.specs.declared.cert_line.CertLine.TheVariants as line
use Rattle.cert_lines.specs.declared.version.Version.{Version}
use Rattle.cert_lines.specs.declared.version.Version.TheVariants.{Full, Lean}
use Rattle.cert_lines.specs.Version.{number_of_version}
use Rattle.cert_checker.specs.LeanTree.{BoundsIn, IsShownIn, LeanTree, Told, WholeTreesAreLean, lean_of, tree_lines}
use Rattle.cert_writer.specs.EventLines.{event_lines, in_cover_behind, lean_lines}
use Rattle.cert_writer.proofs.Lines.{lean_join}

-- a label outside a cover keeps its line
labels_stay : (family : List Label) → lean_lines false (label_events family) ≡ map line.Event (label_events family)
labels_stay [] = refl
labels_stay (label ∷ family) = ap (λ (rest : List CertLine). line.Event (event.Label label.at label.weight label.counters) ∷ rest) (labels_stay family)

-- one in a cover has none, and the next one is in it still
labels_go : (family : List Label) (rest : List Event) → lean_lines true (label_events family ++ rest) ≡ lean_lines true rest
labels_go [] rest = refl
labels_go (label ∷ family) rest = labels_go family rest

covers_go : (before : Bool) (k : ℕ) (covers : List Cover) → lean_lines before (cover_events k covers) ≡ []
covers_go before k [] = refl
covers_go before k (cover ∷ covers) = labels_go cover.family (cover_events (k + 1) covers) ∙ covers_go true (k + 1) covers

duals_stay : (before : Bool) (a : ℕ) (duals : List ℤ) → lean_lines before (dual_events a duals) ≡ map line.Event (dual_events a duals)
duals_stay before a [] = refl
duals_stay before a (pos zero ∷ duals) = duals_stay before (a + 1) duals
duals_stay before a (pos (suc n) ∷ duals) = ap (λ (rest : List CertLine). line.Event (event.Dual a (pos (suc n))) ∷ rest) (duals_stay false (a + 1) duals)
duals_stay before a (negsuc n ∷ duals) = ap (λ (rest : List CertLine). line.Event (event.Dual a (negsuc n)) ∷ rest) (duals_stay false (a + 1) duals)

leaf_lean : (duals : List ℤ) (covers : List Cover) → lean_lines false (dual_events 0 duals ++ cover_events 0 covers) ≡ map line.Event (dual_events 0 duals)
leaf_lean duals covers =
    lean_join false (dual_events 0 duals) (cover_events 0 covers)
    ∙ ap (λ (rest : List CertLine). lean_lines false (dual_events 0 duals) ++ rest) (covers_go (in_cover_behind false (dual_events 0 duals)) 0 covers)
    ∙ append-nil (lean_lines false (dual_events 0 duals)) ∙ duals_stay false 0 duals

tree_lean : (before : Bool) (tree : Tree) → lean_lines before (tree_events tree) ≡ tree_lines (lean_of tree)
tree_lean before (Step fact tree) = ap (λ (rest : List CertLine). line.Event (event.Fact fact) ∷ rest) (tree_lean false tree)
tree_lean before (Split pair one other) =
    ap (λ (rest : List CertLine). line.Event (event.Split pair) ∷ rest) (
    lean_join false (tree_events one) (tree_events other)
    ∙ ap (λ (lines : List CertLine). lines ++ lean_lines (in_cover_behind false (tree_events one)) (tree_events other)) (tree_lean false one)
    ∙ ap (λ (lines : List CertLine). tree_lines (lean_of one) ++ lines) (tree_lean (in_cover_behind false (tree_events one)) other))
tree_lean before (Hole a) = refl
tree_lean before (Stuck k family) = ap (λ (rest : List CertLine). line.Event (event.Stuck k) ∷ rest) (labels_stay family)
tree_lean before (Bounded duals covers) = ap (λ (rest : List CertLine). line.Lean ∷ rest) (leaf_lean duals covers)

-- the tree as a certificate of this version tells it
abbrev pub told_in : Version → Tree → LeanTree
told_in Full tree = Told tree
told_in Lean tree = lean_of tree

pub told_lines : (version : Version) (tree : Tree) → event_lines version (tree_events tree) ≡ tree_lines (told_in version tree)
told_lines Full tree = refl
told_lines Lean tree = tree_lean false tree

pub told_shows : WholeTreesAreLean → (book : BookSeen) → IsBook book → (version : Version) (tree : Tree) (low : ℕ) → IsShown (costs_of book) book [] tree → BoundsAtLeast low tree
    → IsShownIn (number_of_version version) book [] (told_in version tree) × BoundsIn book low [] (told_in version tree)
told_shows lean book sound Full tree low shown reached = (shown, reached)
told_shows lean book sound Lean tree low shown reached = lean book sound [] tree low shown reached
