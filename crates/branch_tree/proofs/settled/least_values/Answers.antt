use Rattle.std.proofs.Common.{◌≡◌, ◌∙◌, ◌++◌, ◌∷◌, [], sym, ap, ap₂, pos, ℤ, List, Option, arith, rules, w64, to_z, of_z, length}
use Rattle.std.proofs.lemmas.List.FromFn.{length-map-range_with_len, map-range_with_len_more}
use Rattle.std.specs.Option.{unwrap_or}
use Rattle.tail_book.specs.Lookup.{aircraft}
use Rattle.branch_marks.specs.Pool.{least_in, values_in}
use Rattle.branch_tree.proofs.settled.least_values.Goals as goal

-- one aircraft more
pub loop-k-preserved : goal.loop-k-preserved
loop-k-preserved c =
    let read : to_z w64 (of_z w64 c.unwrap_or.result) ≡ c.unwrap_or.result = search rules in
    c.in_ok-push.ensures.items
    ∙ ap₂ (λ (values : List ℤ) (value : ℤ). values ++ value ∷ []) c.loop-k.invariant
    (read ∙ c.unwrap_or.ensures ∙ ap (λ (o : Option ℤ). unwrap_or o (pos 0)) c.least.ensures)
    ∙ sym (map-range_with_len_more (λ k. unwrap_or (least_in c.args.table.now c.args.book.now c.args.duals.now.values k c.args.pool.now.entries) (pos 0)) 0 c.loop-k.k c.loop-k.k (omega arith))

-- one for each aircraft
pub returns-clause-one_each : goal.returns-clause-one_each
returns-clause-one_each c =
    let values : c.loop-k.values.items ≡ values_in c.args.table.now c.args.book.now c.args.duals.now.values c.args.pool.now.entries = search rules in
    ap length values
    ∙ length-map-range_with_len (λ k. unwrap_or (least_in c.args.table.now c.args.book.now c.args.duals.now.values k c.args.pool.now.entries) (pos 0)) 0 (aircraft c.args.book.now)
