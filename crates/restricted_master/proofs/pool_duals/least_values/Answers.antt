use Rattle.std.proofs.Common.{◌≡◌, ◌∙◌, ◌++◌, ◌∷◌, [], sym, ap, ap₂, pos, ℤ, List, Option, arith, rules, w64, to_z, of_z}
use Rattle.std.proofs.lemmas.List.FromFn.{map-range_with_len_more}
use Rattle.std.specs.Option.{unwrap_or}
use Rattle.branch_marks.specs.Pool.{least_in}
use Rattle.restricted_master.proofs.pool_duals.least_values.Goals as goal

-- one aircraft more
pub loop-k-preserved : goal.loop-k-preserved
loop-k-preserved c =
    let read : to_z w64 (of_z w64 c.unwrap_or.result) ≡ c.unwrap_or.result = search rules in
    c.in_ok-push.ensures.items
    ∙ ap₂ (λ (values : List ℤ) (value : ℤ). values ++ value ∷ []) c.loop-k.invariant
    (read ∙ c.unwrap_or.ensures ∙ ap (λ (o : Option ℤ). unwrap_or o (pos 0)) c.least.ensures)
    ∙ sym (map-range_with_len_more (λ k. unwrap_or (least_in c.args.table.now c.args.book.now c.args.duals.now.values k c.args.pool.now.entries) (pos 0)) 0 c.loop-k.k c.loop-k.k (omega arith))
