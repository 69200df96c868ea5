use Rattle.std.proofs.Common.{◌∙◌, take, map, sym, ap, subst}
use Rattle.std.specs.Prelude.{All}
use Rattle.std.proofs.lemmas.List.{take-map}
use Rattle.std.proofs.lemmas.List.Elements.{All-take}
use Rattle.branch_marks.specs.inside.TrailRows.{IsNumber, fact_of}
use Rattle.branch_marks.proofs.trail.Trail.cut.Goals as goal

-- the first rows are the first facts
pub invariant_of-self : goal.invariant_of-self
invariant_of-self c = record {
  width = c.rewind.ensures.same_width ∙ c.self.invariant.width;
  numbers =
      subst (All (λ row. All IsNumber row)) (sym c.rewind.ensures.rows)
      (All-take (λ row. All IsNumber row) c.args.count c.self.inside.cells.rows c.self.invariant.numbers);
}

pub returns : goal.returns
returns c =
    ap (map fact_of) c.rewind.ensures.rows ∙ sym (take-map fact_of c.args.count c.self.inside.cells.rows) ∙ ap (take c.args.count) c.self.view_is
