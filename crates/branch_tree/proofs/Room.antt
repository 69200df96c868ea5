-- A search ends: a node takes its place away, and what its branches can grow to is less. A branch leaves fewer pairs undecided, so
-- two of them leave less than three times as much.
use Rattle.std.proofs.Common.{◌≡◌, ◌≤◌, ◌<◌, ◌+◌, ℕ, zero, suc, List, [], ◌∷◌, ◌++◌, sym, subst, arith, append_assoc, append-nil}
use Rattle.tail_book.specs.Seen.{BookSeen}
use Rattle.tail_book.specs.TableSeen.{CostTableSeen}
use Rattle.branch_marks.specs.declared.fact.Fact.{Fact}
use Rattle.branch_marks.specs.Branches.{first_branch, second_branch}
use Rattle.branch_marks.specs.inside.BranchTests.{undecided, FactsLeaveNoMore, BranchesLeaveFewer}
use Rattle.node_leaves.specs.Node.{Ending, Hole, Stuck, Bounded, Split, Node, branches, closed_marks, IsShownEnding, IsShownNode}
use Rattle.node_leaves.specs.Place.{Open}
use Rattle.branch_tree.specs.inside.SearchParts.{tripled, room}

tripled-le : (n m : ℕ) → n ≤ m → tripled n ≤ tripled m
tripled-le zero zero le = omega arith
tripled-le zero (suc m) le = let less = tripled-le zero m (omega arith) in omega (arith, less)
tripled-le (suc n) zero le = absurd (omega (arith, le))
tripled-le (suc n) (suc m) le = let less = tripled-le n m (omega (arith, le)) in omega (arith, less)

tripled-pos : (n : ℕ) → 0 < tripled n
tripled-pos zero = omega arith
tripled-pos (suc n) = let more = tripled-pos n in omega (arith, more)

tripled-two : (n m k : ℕ) → n < k → m < k → tripled n + tripled m < tripled k
tripled-two n m zero one two = absurd (omega (arith, one))
tripled-two n m (suc k) one two =
    let a = tripled-le n k (omega (arith, one)) in let b = tripled-le m k (omega (arith, two)) in let p = tripled-pos k in omega (arith, a, b, p)

module _ (no_more : FactsLeaveNoMore) (fewer : BranchesLeaveFewer) (table : CostTableSeen) (book : BookSeen) where
  pub steps_leave : (marks steps : List Fact) → undecided book (marks ++ steps) ≤ undecided book marks
  steps_leave marks [] = subst (λ (m : List Fact). undecided book m ≤ undecided book marks) (sym (append-nil marks)) (omega arith)
  steps_leave marks (step ∷ steps) =
      let one = no_more book marks step in
      let others = subst (λ (m : List Fact). undecided book m ≤ undecided book (marks ++ step ∷ [])) (append_assoc marks (step ∷ []) steps) (steps_leave (marks ++ step ∷ []) steps) in
      omega (arith, one, others)

  ending_lighter : (marks : List Fact) (ending : Ending) (owed : List Open) → IsShownEnding table book marks ending
      → room book (branches marks ending ++ owed) < tripled (undecided book marks) + room book owed
  unfolding room
  ending_lighter marks (Hole a) owed shown = let p = tripled-pos (undecided book marks) in omega (arith, p)
  ending_lighter marks (Stuck k family) owed shown = let p = tripled-pos (undecided book marks) in omega (arith, p)
  ending_lighter marks (Bounded duals covers) owed shown = let p = tripled-pos (undecided book marks) in omega (arith, p)
  ending_lighter marks (Split pair duals routes dive) owed shown =
      let less = fewer book marks pair shown in
      let two = tripled-two (undecided book (marks ++ first_branch pair ∷ [])) (undecided book (marks ++ second_branch pair ∷ [])) (undecided book marks) less.0 less.1 in
      omega (arith, two)

  -- a node leaves less room than its place had
  pub lighter : (places : List Open) (here : Open) (rest : List Open) (node : Node) (after : List Open) → places ≡ here ∷ rest → IsShownNode table book here node
      → after ≡ branches (closed_marks here node) node.ending ++ rest → room book after < room book places
  unfolding room
  lighter places here rest node after was shown is =
      let ended = ending_lighter (closed_marks here node) node.ending rest shown.ending in
      let steps = tripled-le (undecided book (closed_marks here node)) (undecided book here.marks) (steps_leave here.marks node.steps) in
      subst (λ (o : List Open). room book after < room book o) (sym was)
      (subst (λ (o : List Open). room book o < room book (here ∷ rest)) (sym is) (omega (arith, ended, steps)))
