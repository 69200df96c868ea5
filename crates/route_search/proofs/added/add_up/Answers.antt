use Rattle.std.proofs.Common.{◌≡◌, ◌<◌, ◌∙◌, ℕ, pos, w64, to_z, of_z, FitsSigned, rules, arith, inl, inr, length, get_or, set, sym, subst}
use Rattle.std.proofs.lemmas.Bool.{cases_lt}
use Rattle.std.proofs.lemmas.Int.{to_z-of_z}
use Rattle.std.proofs.lemmas.List.{get_or-set_other, get_or-set_same, length-set}
use Rattle.route_search.specs.inside.Task.{IsAdded}
use Rattle.route_search.proofs.added.add_up.Goals as goal

pub loop-b-preserved : goal.loop-b-preserved
loop-b-preserved c =
    let inv = c.loop-b.invariant in
    let xs = c.loop-b.added in
    let b = c.loop-b.b in
    let fits : FitsSigned w64 c.added_by.result = search rules in
    let new = to_z w64 (of_z w64 c.added_by.result) in
    let within : b < length xs = search rules in
    record {
      one_each = length-set xs b new ∙ inv.one_each;
      each = λ a lt. elim (cases_lt a b) [
        | inl less ↦ subst (IsAdded c.args.table.now c.args.k c.args.duals.now.values a) (sym (get_or-set_other xs b a new (pos 0) (omega (arith, less)))) (inv.each a less)
        | inr more ↦ (let at : b ≡ a = omega (arith, lt, more) in
            subst (λ (m : ℕ). IsAdded c.args.table.now c.args.k c.args.duals.now.values m (get_or (set xs b new) m (pos 0))) at
            (subst (IsAdded c.args.table.now c.args.k c.args.duals.now.values b) (sym (get_or-set_same xs b new (pos 0) within ∙ to_z-of_z w64 c.added_by.result fits)) c.added_by.ensures))
      ];
    }
