use Rattle.std.proofs.Common.{◌≡◌, ◌++◌, drop}
use Rattle.plan_picture.specs.Curfews.{bands_in}
use Rattle.plan_picture.specs.Layout.{end_shown, first_moment}
use Rattle.plan_picture.specs.Stretches.{stretches_from}
use Rattle.plan_picture.specs.inside.Drawable.{IsNear}
use Rattle.plan_picture.proofs.curfews.add_bands_between.Given as goal

-- the bands so far, and those of the stretches from here on
abbrev pub invariant-loop-change : goal.invariant-loop-change
invariant-loop-change l = record {
  bands : l.initial.lines.items ++ bands_in l.book l.port l.height (stretches_from l.book l.port (first_moment l.book) (end_shown l.book) l.changes)
      ≡ l.lines.items ++ bands_in l.book l.port l.height (stretches_from l.book l.port l.from (end_shown l.book) (drop l.change-index l.changes));
  range : IsNear l.from;
}
