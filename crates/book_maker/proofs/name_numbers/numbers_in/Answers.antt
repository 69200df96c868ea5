use Rattle.std.proofs.Common.{sym}
use Rattle.tail_text.specs.inside.Joined.{joined-nil}
use Rattle.book_maker.proofs.EachLemmas.{each-bad, each-end, each-good}
use Rattle.book_maker.proofs.name_numbers.numbers_in.Goals as goal

pub loop-i-init : goal.loop-i-init
loop-i-init c = rw c.new-numbers.ensures.items (sym (joined-nil _))

-- a name that is unknown decides
pub returns-in-Err : goal.returns-in-Err
returns-in-Err c =
    each-bad _ _ _ _ c.loop-i.invariant c.index-list-i.result c.loop-i-test.true c.index-list-i.is c.in-Err.code c.in-Err.ensures

-- a number joins those before it
pub loop-i-preserved : goal.loop-i-preserved
loop-i-preserved c =
    let items = rw c.if-is_err.ensures.negation at c.push.ensures.items in
    rw items (each-good _ _ _ _ c.loop-i.invariant c.index-list-i.result c.loop-i-test.true c.index-list-i.is c.in-Ok.number c.in-Ok.ensures)

-- behind the last name all numbers are found
pub returns : goal.returns
returns c = each-end _ _ _ _ c.loop-i.invariant c.loop-i-test.false
