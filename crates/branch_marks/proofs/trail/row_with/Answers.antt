use Rattle.std.proofs.Common.{◌≡◌, pos, refl, [], ◌∷◌, rules, sym, subst, to_z, w64}
use Rattle.std.specs.Prelude.{All}
use Rattle.std.proofs.lemmas.List.Elements.{All-nil, All-cons}
use Rattle.branch_marks.specs.inside.TrailRows.{IsNumber}
use Rattle.branch_marks.proofs.trail.row_with.Goals as goal

-- numbers of 32 bits
pub returns-clause-numbers : goal.returns-clause-numbers
returns-clause-numbers c =
    let same : to_z w64 c.args.kind ∷ to_z w64 c.args.one ∷ to_z w64 c.args.other ∷ [] ≡ pos c.args.kind ∷ pos c.args.one ∷ pos c.args.other ∷ [] =
    search rules in
    subst (All IsNumber) (sym same)
    (All-cons IsNumber (pos c.args.kind) (pos c.args.one ∷ pos c.args.other ∷ []) (c.args.kind, c.ranges.kind.fits, refl)
    (All-cons IsNumber (pos c.args.one) (pos c.args.other ∷ []) (c.args.one, c.ranges.one.fits, refl)
    (All-cons IsNumber (pos c.args.other) [] (c.args.other, c.ranges.other.fits, refl) (All-nil IsNumber))))
