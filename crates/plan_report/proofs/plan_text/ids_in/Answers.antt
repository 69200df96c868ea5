use Rattle.std.proofs.Common.{◌≡◌, ◌≤◌, ◌<◌, ◌∷◌, ◌++◌, [], false, length, rules}
use Rattle.tail_book.specs.declared.limits.TheConstants.{ACTIVITY_LIMIT}
use Rattle.plan_report.proofs.IdLemmas.{AreKept, AreKept-few, end-few, end-good, ids_in-good, turn-kept, turn-over}
use Rattle.plan_report.proofs.plan_text.ids_in.Goals as goal

-- a part past the room is only tested
pub loop-part-preserved-then-len-ge-ACTIVITY_LIMIT : goal.loop-part-preserved-then-len-ge-ACTIVITY_LIMIT
loop-part-preserved-then-len-ge-ACTIVITY_LIMIT c =
    let full : ACTIVITY_LIMIT ≤ length c.loop-part.ids.items = search rules in
    turn-over ACTIVITY_LIMIT _ _ _ _ c.loop-part.invariant _ _ c.in-Some.ensures _ c.in-Ok.ensures full

-- a part that has room is kept
pub loop-part-preserved : goal.loop-part-preserved
loop-part-preserved c =
    let room : length c.loop-part.ids.items < ACTIVITY_LIMIT = search rules in
    let items : c.push.new.self.items ≡ c.loop-part.ids.items ++ c.in-Ok.id ∷ [] = rw c.if-is_err.ensures.negation at c.push.ensures.items in
    rw items (turn-kept ACTIVITY_LIMIT _ _ _ _ c.loop-part.invariant _ _ c.in-Some.ensures _ c.in-Ok.ensures room)

-- all are names, and all are kept
pub returns-clause-ids : goal.returns-clause-ids
returns-clause-ids c =
    let so_far : AreKept ACTIVITY_LIMIT c.args.parts.now c.loop-part.parts c.loop-part.ids.items false = rw c.if-too_many.false at c.loop-part.invariant in
    let few = end-few ACTIVITY_LIMIT _ _ _ c.in_default.ensures.0 so_far in
    ids_in-good _ _ _ (end-good ACTIVITY_LIMIT _ _ _ c.in_default.ensures.0 false so_far) few.0 few.1

pub returns-clause-few : goal.returns-clause-few
returns-clause-few c = AreKept-few ACTIVITY_LIMIT _ _ _ _ c.loop-part.invariant
