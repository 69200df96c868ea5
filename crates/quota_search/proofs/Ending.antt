-- A search ends: what a node owes can grow to fewer nodes than its marks could before.
use Rattle.std.proofs.Common.{◌≡◌, ◌<◌, ℕ, zero, suc, arith, List, [], ◌∷◌, ◌++◌, refl, sym, subst}
use Rattle.tail_book.specs.Seen.{BookSeen}
use Rattle.tail_book.specs.TableSeen.{CostTableSeen}
use Rattle.dive_heuristic.specs.declared.answer.Dive.TheVariants.{Plan}
use Rattle.branch_marks.specs.declared.fact.Fact.{Fact}
use Rattle.branch_marks.specs.Following.{FollowInTurn}
use Rattle.branch_marks.specs.inside.BranchTests.{undecided, FactsLeaveNoMore, BranchesLeaveFewer}
use Rattle.node_leaves.specs.Node.{Node, Split}
use Rattle.node_leaves.specs.Place.{open_place}
use Rattle.branch_tree.specs.inside.SearchParts.{tripled, room}
use Rattle.branch_tree.proofs.Room.{lighter}
use Rattle.quota_node.specs.declared.step.QuotaStep.{QuotaStep}
use Rattle.quota_node.specs.declared.step.QuotaStep.TheVariants as step
use Rattle.quota_search.specs.inside.Owing.{MayGoOn, owed_by, owed_places, owed_room}

some_room : (n : ℕ) → 0 < tripled n
some_room zero = omega arith
some_room (suc n) = let more = some_room n in omega (arith, more)

-- a place that is left takes its room away
less_by_one : (book : BookSeen) (marks : List Fact) (behind : List (List Fact)) → owed_room book behind < owed_room book (marks ∷ behind)
unfolding room
less_by_one book marks behind = let some = some_room (undecided book marks) in omega (arith, some)

owed_less : FactsLeaveNoMore → BranchesLeaveFewer → (table : CostTableSeen) (book : BookSeen) (marks added : List Fact) (end : QuotaStep) (behind : List (List Fact))
    → FollowInTurn book marks added → MayGoOn book (marks ++ added) end → owed_room book (owed_by (marks ++ added) end ++ behind) < owed_room book (marks ∷ behind)
owed_less no_more fewer table book marks added (step.Over q) behind follow may = less_by_one book marks behind
owed_less no_more fewer table book marks added (step.Hole a) behind follow may = less_by_one book marks behind
owed_less no_more fewer table book marks added (step.Stuck k) behind follow may = less_by_one book marks behind
owed_less no_more fewer table book marks added (step.Bounded bound) behind follow may = less_by_one book marks behind
owed_less no_more fewer table book marks added (step.Split pair bound) behind follow may =
    let node : Node = record { target = 0; steps = added; ending = Split pair [] [] (Plan [] 0) } in
    lighter no_more fewer table book (open_place marks [] ∷ owed_places behind) (open_place marks []) (owed_places behind) node
    (owed_places (owed_by (marks ++ added) (step.Split pair bound) ++ behind)) refl (record { steps = follow; ending = may }) refl

-- so it is with the marks with which the node ended
pub less_owed : FactsLeaveNoMore → BranchesLeaveFewer → (table : CostTableSeen) (book : BookSeen) (marks added closed : List Fact) (end : QuotaStep)
    (behind : List (List Fact)) → closed ≡ marks ++ added → FollowInTurn book marks added → MayGoOn book closed end
    → owed_room book (owed_by closed end ++ behind) < owed_room book (marks ∷ behind)
less_owed no_more fewer table book marks added closed end behind is follow may =
    subst (λ (z : List Fact). owed_room book (owed_by z end ++ behind) < owed_room book (marks ∷ behind)) (sym is)
    (owed_less no_more fewer table book marks added end behind follow (subst (λ (z : List Fact). MayGoOn book z end) is may))
