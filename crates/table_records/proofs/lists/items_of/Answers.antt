use Rattle.std.proofs.Common.{◌≤◌, ◌<◌, length, rules}
use Rattle.tail_book.specs.declared.limits.TheConstants.{ITEM_LIMIT}
use Rattle.table_records.proofs.ListLemmas.{turn-kept, turn-over}
use Rattle.table_records.proofs.lists.items_of.Goals as goal

-- an item that still has room is kept
pub loop-part-preserved : goal.loop-part-preserved
loop-part-preserved g c =
    let few : length c.loop-part.list.items < ITEM_LIMIT = search rules in
    rw (rw c.if-is_err.ensures.negation at c.push.ensures.items)
    (turn-kept _ _ _ _ _ _ c.loop-part.invariant _ _ c.in-Some.ensures _ c.in-Ok.ensures.value c.in-Ok.ensures.sound few)

-- an item past the room is only looked at
pub loop-part-preserved-then-len-ge-ITEM_LIMIT : goal.loop-part-preserved-then-len-ge-ITEM_LIMIT
loop-part-preserved-then-len-ge-ITEM_LIMIT g c =
    let full : ITEM_LIMIT ≤ length c.loop-part.list.items = search rules in
    turn-over _ _ _ _ _ _ c.loop-part.invariant _ _ c.in-Some.ensures _ c.in-Ok.ensures.value full
