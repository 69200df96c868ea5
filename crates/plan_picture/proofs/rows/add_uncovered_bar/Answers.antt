use Rattle.std.proofs.Common.{◌≡◌, ◌+◌, ◌++◌, of_z, refl, to_z, w64}
use Rattle.std.specs.Prelude.{◌%◌, None, codes}
use Rattle.std.proofs.lemmas.Result.{on_ok_weaker}
use Rattle.plan_picture.specs.Bars.{bar_lines}
use Rattle.plan_picture.proofs.Signed.{as_it_was}
use Rattle.plan_picture.proofs.rows.add_uncovered_bar.Goals as goal

-- the bar with its one name
pub returns : goal.returns
returns c = on_ok_weaker c.add_bar.result
    (λ (last : c.add_bar.new.lines.items ≡ c.args.lines.now.items ++ bar_lines c.args.book.now (to_z w64 (of_z w64 c.args.first)) (c.args.row + c.args.i % 8) c.args.i c.args.a (codes " uncovered") None).
    rw (last, as_it_was c.args.first c.ranges.first) refl) c.add_bar.ensures
