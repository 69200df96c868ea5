use Rattle.std.proofs.Common.{◌∙◌, ◌≤ℤ◌, ℕ, ℤ, List, [], Option, w64, to_z, of_z, FitsSigned, rules, ap, sym, subst, length}
use Rattle.std.proofs.lemmas.Int.{to_z-of_z}
use Rattle.std.proofs.lemmas.List.{length-replicate}
use Rattle.branch_marks.specs.Weights.{IsLeastWeight, IsRouteOfWeight}
use Rattle.label_store.specs.Seen.{StoreSeen}
use Rattle.pricing.specs.declared.end.RouteEnd.{RouteEnd}
use Rattle.route_search.specs.inside.Laws.{BestOrNoneWithin}
use Rattle.route_search.proofs.search.found.Goals as goal

-- there is no end
pub returns-in_default-clause-found : goal.returns-in_default-clause-found
returns-in_default-clause-found c =
    let empty : List ℕ = [] in
    let nodes = c.in_ok-ends.ensures.wide.nodes ∙ ap (λ (s : StoreSeen). length s.buckets) c.clear.ensures
    ∙ length-replicate (length c.args.store.now.buckets) empty ∙ c.requires.nodes in
    let exact = c.done_buckets_are_exact.ensures c.args.task.now.table.now c.args.task.now.book.now c.args.task.now.marks.now.facts c.args.task.now.k c.args.task.now.duals.now.values c.search_rows.new.store
    (to_z w64 (of_z w64 c.args.cut)) c.in_ok-ends.ends c.every_task_is_sound.ensures.book c.requires.task.aircraft c.every_store_is_sound.ensures nodes
    c.in_ok-ends.ensures.truths c.in_ok-ends.ensures.done c.in_ok-ends.ensures.ends in
    subst (λ (best : Option RouteEnd). BestOrNoneWithin c.args.task.now.table.now c.args.task.now.book.now c.args.task.now.marks.now.facts c.args.task.now.k c.args.task.now.duals.now.values c.search_rows.new.store c.args.cut best) c.in_default.is
    (subst (λ (cut : ℤ). BestOrNoneWithin c.args.task.now.table.now c.args.task.now.book.now c.args.task.now.marks.now.facts c.args.task.now.k c.args.task.now.duals.now.values c.search_rows.new.store cut c.in_ok-ends.ends.best) (to_z-of_z w64 c.args.cut c.ranges.cut) exact)

-- the best end has the least weight, and the route to it has it
pub returns-clause-found : goal.returns-clause-found
returns-clause-found c =
    let empty : List ℕ = [] in
    let nodes = c.in_ok-ends.ensures.wide.nodes ∙ ap (λ (s : StoreSeen). length s.buckets) c.clear.ensures
    ∙ length-replicate (length c.args.store.now.buckets) empty ∙ c.requires.nodes in
    let exact = c.done_buckets_are_exact.ensures c.args.task.now.table.now c.args.task.now.book.now c.args.task.now.marks.now.facts c.args.task.now.k c.args.task.now.duals.now.values c.search_rows.new.store
    (to_z w64 (of_z w64 c.args.cut)) c.in_ok-ends.ends c.every_task_is_sound.ensures.book c.requires.task.aircraft c.every_store_is_sound.ensures nodes
    c.in_ok-ends.ensures.truths c.in_ok-ends.ensures.done c.in_ok-ends.ensures.ends in
    let value = c.in-Some.end.value in
    let fits : FitsSigned w64 value = search rules in
    let best = subst (λ (best : Option RouteEnd). BestOrNoneWithin c.args.task.now.table.now c.args.task.now.book.now c.args.task.now.marks.now.facts c.args.task.now.k c.args.task.now.duals.now.values c.search_rows.new.store c.args.cut best) c.in-Some.is
    (subst (λ (cut : ℤ). BestOrNoneWithin c.args.task.now.table.now c.args.task.now.book.now c.args.task.now.marks.now.facts c.args.task.now.k c.args.task.now.duals.now.values c.search_rows.new.store cut c.in_ok-ends.ends.best) (to_z-of_z w64 c.args.cut c.ranges.cut) exact) in
    subst (λ (v : ℤ). IsLeastWeight c.args.task.now.table.now c.args.task.now.book.now c.args.task.now.marks.now.facts c.args.task.now.k c.args.task.now.duals.now.values v × IsRouteOfWeight c.args.task.now.table.now c.args.task.now.book.now c.args.task.now.marks.now.facts c.args.task.now.k c.args.task.now.duals.now.values v c.in_ok-route.route × (v ≤ℤ c.args.cut)) (sym (to_z-of_z w64 value fits))
    (best.0, subst (λ (route : List ℕ). IsRouteOfWeight c.args.task.now.table.now c.args.task.now.book.now c.args.task.now.marks.now.facts c.args.task.now.k c.args.task.now.duals.now.values value route) (sym c.in_ok-route.ensures) best.1, best.2)
