use Rattle.std.proofs.Common.{◌∙◌, ◌++◌, ◌∷◌, [], sym, ap, subst}
use Rattle.std.specs.Prelude.{All}
use Rattle.std.proofs.lemmas.List.Elements.{All-push}
use Rattle.branch_marks.specs.inside.TrailRows.{IsNumber}
use Rattle.branch_marks.proofs.trail.Trail.push.Goals as goal

-- the row of the fact stands behind the others
pub invariant_of-self-2 : goal.invariant_of-self-2
invariant_of-self-2 c =
    let rows = c.push-number.ensures.rows ∙ ap (λ r. r ++ c.as_slice.result.now ∷ []) c.in_ok-reserve.ensures.same_rows in
    record {
      width = c.push-number.ensures.same_width ∙ c.in_ok-reserve.ensures.same_width ∙ c.self.invariant.width;
      numbers =
          subst (All (λ row. All IsNumber row)) (sym rows)
          (All-push (λ row. All IsNumber row) c.self.inside.cells.rows c.as_slice.result.now c.self.invariant.numbers
          (subst (All IsNumber) (sym c.as_slice.ensures) c.numbers_of-row.ensures.numbers));
    }
