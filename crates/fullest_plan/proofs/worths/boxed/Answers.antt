use Rattle.std.proofs.Common.{◌≡◌, ◌∙◌, ◌+◌, ℕ, ℤ, rules, List, length, ap, sym, subst}
use Rattle.std.proofs.lemmas.List.{length_push}
use Rattle.std.proofs.lemmas.List.Elements.{All-push}
use Rattle.std.specs.Prelude.{All}
use Rattle.tail_book.specs.CostTable.{IsInBox}
use Rattle.fullest_plan.proofs.worths.boxed.Goals as goal

-- one dual more
pub loop-a-preserved : goal.loop-a-preserved
loop-a-preserved c =
    let is = c.in_ok-push_dual.ensures in
    let before = c.loop-a.duals.items in
    record {
      count = subst (λ (us : List ℤ). length us ≡ c.loop-a.a + 1) (sym is) (length_push before _ ∙ ap (λ (n : ℕ). n + 1) c.loop-a.invariant.count);
      box = subst (λ (us : List ℤ). All (IsInBox c.args.table.now) us) (sym is) (All-push (IsInBox c.args.table.now) before _ c.loop-a.invariant.box (search rules));
    }
