use Rattle.std.proofs.Common.{◌≡◌, ◌<◌, ◌∙◌, ℕ, Some, arith, length, get_or, sym, subst}
use Rattle.std.specs.Prelude.{◌≤ℤ◌}
use Rattle.std.proofs.lemmas.List.{get_or_default}
use Rattle.label_store.specs.Buckets.{row_at}
use Rattle.label_store.specs.Store.{bucket_of, IsRowOf}
use Rattle.pricing.specs.declared.end.RouteEnd.{RouteEnd}
use Rattle.pricing.specs.Rows.{weight_of}
use Rattle.pricing.specs.inside.Ends.{IsEnd, IsAtMost}
use Rattle.pricing.specs.inside.WeightRange.{IsSmall}
use Rattle.route_search.proofs.Ending.{end_at_row, best_one_more, here_one_more, heavier_trans}
use Rattle.route_search.proofs.end.with_rows.Goals as goal

-- a true row weighs little
pub with_end-all-requires : goal.with_end-all-requires
with_end-all-requires c =
    let small = c.true_rows_are_small.ensures c.args.task.now.table.now c.args.task.now.book.now c.args.task.now.marks.now.facts c.args.task.now.k c.args.task.now.duals.now.values c.args.store.now (Some c.at-j.result)
    c.every_task_is_sound.ensures.book c.every_task_is_sound.ensures.table c.requires.task.table c.requires.task.duals (c.requires.truths c.at-j.result c.at-j.ensures.kept) in
    record { small = subst (λ (end : RouteEnd). IsSmall end.value) (sym c.end_at-end.ensures) small }

-- one row more
pub loop-i-preserved : goal.loop-i-preserved
loop-i-preserved c =
    let store = c.args.store.now in
    let x = c.args.x in
    let bucket = bucket_of store x in
    let i = c.loop-i.i in
    let inv = c.loop-i.invariant in
    let old = c.loop-i.all in
    let new = c.with_end-all.result in
    let node : x < length store.buckets = omega (arith, c.requires.nodes, c.requires.activity) in
    let within : i < length bucket = omega arith in
    let at = c.at-j.ensures.number in
    let row : IsRowOf store x c.at-j.result = subst (IsRowOf store x) (sym at) (c.every_store_is_sound.ensures.numbers x node i 0 within) in
    let this = end_at_row c.args.task.now.book.now c.args.task.now.marks.now.facts c.args.task.now.k store x c.at-j.result row c.requires.may in
    let ensures = c.with_end-all.ensures in
    record {
      one = best_one_more c.args.task.now.book.now c.args.task.now.marks.now.facts c.args.task.now.k store old.best new.best c.end_at-end.result inv.one (subst (IsEnd c.args.task.now.book.now c.args.task.now.marks.now.facts c.args.task.now.k store) (sym c.end_at-end.ensures) this) ensures.one;
      here = here_one_more c.args.task.now.book.now c.args.task.now.marks.now.facts c.args.task.now.k store bucket i old new ensures.no_heavier inv.here
          (subst (λ (j : ℕ). weight_of (row_at store.rows j) ≤ℤ old.limit → IsAtMost new.best (weight_of (row_at store.rows j))) at
          (subst (λ (end : RouteEnd). end.value ≤ℤ old.limit → IsAtMost new.best end.value) c.end_at-end.ensures ensures.here));
      no_heavier = heavier_trans c.args.ends old new inv.no_heavier ensures.no_heavier;
      limit = λ cut is. ensures.limit cut (inv.limit cut is);
      broad = λ broad. ensures.broad (inv.broad broad);
    }

-- each row of the bucket stands at one of its places
pub returns-clause-here : goal.returns-clause-here
returns-clause-here c = λ may j has.
    let bucket = bucket_of c.args.store.now c.args.x in
    let (q, lt, is) = has in
    let below : q < c.loop-i.i = omega (arith, lt) in
    let here : get_or bucket q 0 ≡ j = sym (get_or_default bucket q j 0 lt) ∙ is in
    subst (λ (m : ℕ). weight_of (row_at c.args.store.now.rows m) ≤ℤ c.loop-i.all.limit → IsAtMost c.loop-i.all.best (weight_of (row_at c.args.store.now.rows m))) here
    (c.loop-i.invariant.here q below)
