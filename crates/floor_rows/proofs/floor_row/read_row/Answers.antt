use Rattle.std.proofs.Common.{◌≡◌, ◌∙◌, ℕ, ℤ, ◌*◌, ◌+◌, List, take, drop, ap, arith, sym, subst, Some}
use Rattle.std.specs.Prelude.{slice_range}
use Rattle.maint_counters.specs.inside.Counts.{AreCounts}
use Rattle.floor_rows.proofs.KeptFloors.{row_known, row_unknown, row_counts}
use Rattle.floor_rows.proofs.floor_row.read_row.Goals as goal

pub returns-then-not-known-x-clause-value : goal.returns-then-not-known-x-clause-value
returns-then-not-known-x-clause-value c =
    row_unknown c.args.width c.args.known.now c.args.values.now c.requires.row c.args.x c.requires.place c.if-not-known-x.true

-- the row that is copied has as many values as a floor
copied : (w from : ℕ) (values : List ℤ) → slice_range values from (from + w) ≡ take w (drop from values)
copied w from values = ap (λ (n : ℕ). take n (drop from values)) (omega arith)

pub returns-clause-value : goal.returns-clause-value
returns-clause-value c =
    row_known c.args.width c.args.known.now c.args.values.now c.requires.row c.args.x c.requires.place c.if-not-known-x.false
    ∙ ap (λ (row : List ℤ). Some row) (sym (copied c.args.width (c.args.x * c.args.width) c.args.values.now) ∙ sym c.copy_from_slice.ensures.after)

pub returns-clause-range : goal.returns-clause-range
returns-clause-range c found =
    subst (λ (row : List ℤ). AreCounts row) (sym (copied c.args.width (c.args.x * c.args.width) c.args.values.now) ∙ sym c.copy_from_slice.ensures.after)
    (row_counts c.args.width c.args.known.now c.args.values.now c.requires.row c.args.x c.requires.place c.if-not-known-x.false).1
