use Rattle.std.proofs.Common.{◌≡◌, ◌<◌, ◌++◌, ◌∷◌, ◌∙◌, List, refl, sym, ap, subst}
use Rattle.branch_marks.specs.declared.fact.Fact.{Fact}
use Rattle.branch_marks.specs.inside.Once.{AreOnce}
use Rattle.open_branches.specs.declared.branches.Branches.{Branches}
use Rattle.open_branches.specs.Branches.{behind_of, owed_of}
use Rattle.quota_search.specs.inside.Owing.{AreAllOnce, ComesDownTo, owed_by, owed_room}
use Rattle.quota_search.proofs.Ending.{less_owed}
use Rattle.quota_search.proofs.KeptBranches.{here_first, same_behind, still_open}
use Rattle.quota_search.proofs.NodeEnds.{closed_once, may_go_on, owed_once, visit_comes_down}
use Rattle.quota_search.proofs.visit.visit.Goals as goal

-- the marks have more facts, and all that is owed behind the node stays
pub go_on-requires-clause-branches : goal.go_on-requires-clause-branches
go_on-requires-clause-branches c =
    let before = c.args.state.now.branches in let followed = c.in-Ok.ensures.followed in
    let after : Branches = record before { marks = c.quota_node_with.new.marks } in
    still_open c.args.book.now before after followed.added c.requires.state.branches followed.marks refl c.in-Ok.ensures.marks

-- what the node owes comes in the place of its marks
pub returns-in-Ok-go_on-clause-visited : goal.returns-in-Ok-go_on-clause-visited
returns-in-Ok-go_on-clause-visited c =
    let book = c.args.book.now in let table = c.args.table.now in let quotas = c.args.quotas.now in
    let before = c.args.state.now.branches in let node = c.in-Ok.ensures in let followed = node.followed in
    let after : Branches = record before { marks = c.quota_node_with.new.marks } in
    let closed = c.quota_node_with.new.marks.facts in let target = c.quota_node_with.new.best.target in
    let once_before : AreAllOnce (before.marks.facts ∷ behind_of before) = subst AreAllOnce (here_first before c.requires.owes) c.requires.once in
    let once : AreOnce closed = closed_once c.steps_stay_once.ensures book before.marks.facts closed followed once_before.0 in
    let behind = same_behind book before after followed.added c.requires.state.branches followed.marks refl in
    let owed : owed_of c.go_on.new.branches ≡ owed_by closed c.in-Ok.step ++ behind_of before =
    c.in-Ok-go_on.ensures.owed ∙ ap (λ (z : List (List Fact)). owed_by closed c.in-Ok.step ++ z) behind in
    let down = visit_comes_down table book quotas c.every_book_is_sound.ensures c.overs_end.ensures c.holes_end.ensures c.stuck_ends.ensures
    c.bounds_end.ensures c.branches_end.ensures c.steps_end.ensures before.marks.facts closed c.quota_node_with.new.duals.values
    c.quota_node_with.new.fees.values target c.in-Ok.step (behind_of before) followed once node.duals node.fees node.truth in
    subst (λ (z : List (List Fact)). ComesDownTo table book quotas target z (owed_of c.go_on.new.branches)) (sym (here_first before c.requires.owes))
    (subst (λ (z : List (List Fact)). ComesDownTo table book quotas target (before.marks.facts ∷ behind_of before) z) (sym owed) down)

-- and can grow to fewer nodes than these
pub returns-in-Ok-go_on-clause-fewer : goal.returns-in-Ok-go_on-clause-fewer
returns-in-Ok-go_on-clause-fewer c =
    let book = c.args.book.now in let table = c.args.table.now in
    let before = c.args.state.now.branches in let node = c.in-Ok.ensures in let followed = node.followed in
    let after : Branches = record before { marks = c.quota_node_with.new.marks } in
    let closed = c.quota_node_with.new.marks.facts in let step = c.in-Ok.step in
    let behind = same_behind book before after followed.added c.requires.state.branches followed.marks refl in
    let owed : owed_of c.go_on.new.branches ≡ owed_by closed step ++ behind_of before =
    c.in-Ok-go_on.ensures.owed ∙ ap (λ (z : List (List Fact)). owed_by closed step ++ z) behind in
    let may = may_go_on table book c.args.quotas.now closed c.quota_node_with.new.duals.values c.quota_node_with.new.fees.values c.quota_node_with.new.best.target step node.truth in
    let less = less_owed c.facts_leave_no_more.ensures c.branches_leave_fewer.ensures table book before.marks.facts followed.added closed step (behind_of before)
    followed.marks followed.follow may in
    subst (λ (z : List (List Fact)). owed_room book (owed_of c.go_on.new.branches) < owed_room book z) (sym (here_first before c.requires.owes))
    (subst (λ (z : List (List Fact)). owed_room book z < owed_room book (before.marks.facts ∷ behind_of before)) (sym owed) less)

-- and in no marks of these does a fact come twice
pub returns-in-Ok-go_on-clause-once : goal.returns-in-Ok-go_on-clause-once
returns-in-Ok-go_on-clause-once c =
    let book = c.args.book.now in let before = c.args.state.now.branches in let node = c.in-Ok.ensures in let followed = node.followed in
    let after : Branches = record before { marks = c.quota_node_with.new.marks } in
    let closed = c.quota_node_with.new.marks.facts in let step = c.in-Ok.step in
    let behind = same_behind book before after followed.added c.requires.state.branches followed.marks refl in
    let owed : owed_of c.go_on.new.branches ≡ owed_by closed step ++ behind_of before =
    c.in-Ok-go_on.ensures.owed ∙ ap (λ (z : List (List Fact)). owed_by closed step ++ z) behind in
    let once_before : AreAllOnce (before.marks.facts ∷ behind_of before) = subst AreAllOnce (here_first before c.requires.owes) c.requires.once in
    let once : AreOnce closed = closed_once c.steps_stay_once.ensures book before.marks.facts closed followed once_before.0 in
    let may = may_go_on c.args.table.now book c.args.quotas.now closed c.quota_node_with.new.duals.values c.quota_node_with.new.fees.values
    c.quota_node_with.new.best.target step node.truth in
    subst AreAllOnce (sym owed) (owed_once c.branches_stay_once.ensures book closed step (behind_of before) once may once_before.1)
