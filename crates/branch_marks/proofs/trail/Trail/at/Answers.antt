use Rattle.std.proofs.Common.{◌∙◌, [], length, arith, sym, ap, subst}
use Rattle.std.specs.Prelude.{All}
use Rattle.std.proofs.lemmas.List.{length-map}
use Rattle.std.proofs.lemmas.List.Elements.{All-get_or}
use Rattle.branch_marks.specs.inside.TrailRows.{IsNumber, fact_of}
use Rattle.branch_marks.proofs.trail.Trail.at.Goals as goal

-- each row is that of a fact
pub fact_in-requires-clause-numbers : goal.fact_in-requires-clause-numbers
fact_in-requires-clause-numbers c =
    let rows = sym (ap length c.self.view_is) ∙ length-map c.self.inside.cells.rows fact_of in
    subst (All IsNumber) (sym c.row.ensures.values)
    (All-get_or (λ row. All IsNumber row) c.self.inside.cells.rows c.args.i [] (omega (arith, c.requires, rows)) c.self.invariant.numbers)
