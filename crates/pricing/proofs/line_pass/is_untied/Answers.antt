use Rattle.std.proofs.Common.{◌∙◌, sym, refl, subst}
use Rattle.branch_marks.specs.declared.fact.Fact.TheVariants.{Tie}
use Rattle.branch_marks.specs.declared.named.Named.TheVariants.{Nothing}
use Rattle.branch_marks.specs.inside.MarkTables.{tied_before}
use Rattle.pricing.proofs.Standing.{IsNone, is_tied, nothing_named}
use Rattle.pricing.proofs.line_pass.is_untied.Goals as goal

-- a Tie would be named
pub returns-in-Nothing : goal.returns-in-Nothing
returns-in-Nothing c = λ yes a has.
    let b = c.args.b in
    let facts = c.args.marks.now.facts in
    let (q, lt, is) = has in
    let none = (nothing_named (tied_before b) Nothing facts (sym c.tied_before.ensures ∙ c.in-Nothing.is)).1 q (Tie a b) lt in
    is_tied b b a refl (subst (IsNone (tied_before b)) is none)
