use Rattle.std.proofs.Common.{◌≡◌, ◌++◌, append_assoc, of_z, to_z, w64}
use Rattle.std.proofs.lemmas.Result.{on_ok_weaker}
use Rattle.plan_picture.specs.Rows.{uncovered_lines}
use Rattle.plan_picture.proofs.Signed.{as_it_was}
use Rattle.plan_picture.proofs.rows.add_uncovered_block.Goals as goal

-- the head, and then the bars
pub returns : goal.returns
returns c = on_ok_weaker c.add_uncovered_lines.result
    (λ (last : c.add_uncovered_lines.new.lines.items ≡ c.push.new.self.items ++ uncovered_lines c.args.book.now (to_z w64 (of_z w64 c.args.first)) c.args.row 0 c.args.list.now).
    rw (last, c.in_ok-push.ensures.items, c.in_ok-head_line.ensures, as_it_was c.args.first c.ranges.first) (append_assoc c.args.lines.now.items _ _)) c.add_uncovered_lines.ensures
