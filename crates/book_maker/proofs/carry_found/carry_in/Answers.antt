use Rattle.std.proofs.Common.{◌≡◌, ◌∙◌, length, slice_set, sym}
use Rattle.std.proofs.lemmas.List.{length-set}
use Rattle.book_maker.proofs.CarryLemmas.{carry-end, carry-set, carry-twice, carry-unknown}
use Rattle.book_maker.proofs.carry_found.carry_in.Goals as goal

-- a counter that is unknown decides
pub returns-in-Err : goal.returns-in-Err
returns-in-Err c =
    carry-unknown _ _ _ _ _ c.loop-i.invariant.1 c.index-items-i.result c.loop-i-test.true c.index-items-i.is c.in-Err.code c.in-Err.ensures

-- and so does one that an earlier item names
pub returns-then-is_named : goal.returns-then-is_named
returns-then-is_named c =
    carry-twice _ _ _ _ _ c.loop-i.invariant.1 c.index-items-i.result c.loop-i-test.true c.index-items-i.is c.in-Ok-number_in.counter c.in-Ok-number_in.ensures (sym c.if-is_named.ensures)

-- its value is set
pub loop-i-preserved : goal.loop-i-preserved
loop-i-preserved c =
    let wide : length (slice_set c.loop-i.values.items c.in-Ok-number_in.counter c.index-items-i.result.value) ≡ length c.args.counters.now.keys = length-set c.loop-i.values.items c.in-Ok-number_in.counter c.index-items-i.result.value ∙ c.loop-i.invariant.0 in
    rw c.set.ensures (wide, carry-set _ _ _ _ _ c.loop-i.invariant.1 c.index-items-i.result c.loop-i-test.true c.index-items-i.is c.in-Ok-number_in.counter c.in-Ok-number_in.ensures (sym c.if-is_named.ensures))

-- behind the last item all values are set
pub returns : goal.returns
returns c = carry-end _ _ _ _ _ c.loop-i.invariant.1 c.loop-i-test.false
