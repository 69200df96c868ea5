use Rattle.std.proofs.Common.{◌≡◌, ◌++◌, append_assoc, of_z, to_z, w64}
use Rattle.std.proofs.lemmas.Result.{on_ok_weaker}
use Rattle.plan_picture.specs.Bars.{bar_lines}
use Rattle.plan_picture.proofs.Signed.{as_it_was}
use Rattle.plan_picture.proofs.rows.add_leg.Goals as goal

-- the marks, and then the bar
pub returns : goal.returns
returns c = on_ok_weaker c.add_bar.result
    (λ (last : c.add_bar.new.lines.items ≡ c.add_stops.new.lines.items ++ bar_lines c.args.book.now (to_z w64 (of_z w64 c.args.first)) c.args.k c.args.i c.args.b c.bytes.result.now c.moved_from-before.result).
    rw (last, c.moved_from-before.ensures, c.bytes.ensures, c.in_ok-add_rules_at.ensures, c.in_ok-names.ensures, c.in_ok-add_stops.ensures, as_it_was c.args.first c.ranges.first)
    (append_assoc c.args.lines.now.items _ _)) c.add_bar.ensures
