use Rattle.std.proofs.Common.{◌≡◌, true, false, append_assoc, refl, rules}
use Rattle.tail_book.specs.Numbers.{is_empty}
use Rattle.plan_picture.proofs.Emptiness.{not_empty}
use Rattle.plan_picture.proofs.Signed.{as_it_was}
use Rattle.plan_picture.proofs.bars.add_bar.Goals as goal

-- the bar, and the names of the rules behind it
pub returns-in_ok-push-2 : goal.returns-in_ok-push-2
returns-in_ok-push-2 c =
    let told = c.is_empty.ensures in
    let result = c.if-not-is_empty.true in
    let some : is_empty c.args.names.now ≡ false = not_empty c.args.names.now cc in
    rw (c.in_ok-push-2.ensures.items, c.in_ok-push.ensures.items, c.in_ok-rule_line.ensures, c.in_ok-bar_line.ensures, as_it_was c.args.first c.ranges.first, some) (append_assoc c.args.lines.now.items _ _)

-- the bar alone
pub returns-else-not-is_empty : goal.returns-else-not-is_empty
returns-else-not-is_empty c =
    let none : is_empty c.args.names.now ≡ true = search rules in
    rw (c.in_ok-push.ensures.items, c.in_ok-bar_line.ensures, as_it_was c.args.first c.ranges.first, none) refl
