use Rattle.std.proofs.Common.{◌≡◌, ◌++◌, false, of_z, refl, rules, to_z, w64}
use Rattle.std.proofs.lemmas.Result.{on_ok_weaker}
use Rattle.tail_book.specs.Lookup.{aircraft}
use Rattle.tail_book.specs.Numbers.{is_empty}
use Rattle.plan_picture.specs.Rows.{uncovered_block}
use Rattle.plan_picture.proofs.Emptiness.{not_empty}
use Rattle.plan_picture.proofs.Signed.{as_it_was}
use Rattle.plan_picture.proofs.rows.add_uncovered.Goals as goal

-- the rows, since there is something in them
pub returns : goal.returns
returns c =
    let told = c.is_empty.ensures in
    let result = c.if-is_empty.false in
    let some : is_empty c.args.list.now ≡ false = not_empty c.args.list.now cc in
    let count : c.len-row.result ≡ aircraft c.args.book.now = search rules in
    on_ok_weaker c.add_uncovered_block.result
    (λ (last : c.add_uncovered_block.new.lines.items ≡ c.args.lines.now.items ++ uncovered_block c.args.book.now (to_z w64 (of_z w64 c.args.first)) c.args.width c.len-row.result c.args.list.now).
    rw (last, count, as_it_was c.args.first c.ranges.first, some) refl) c.add_uncovered_block.ensures
