use Rattle.std.proofs.Common.{List, subst, sym}
use Rattle.branch_marks.specs.declared.event.Event.{Event}
use Rattle.node_leaves.specs.inside.EventLists.{Lists}
use Rattle.node_leaves.proofs.Lists.{lists_none, lists_then, no_duals, duals_more}
use Rattle.node_leaves.proofs.node_events.list_duals.Goals as goal

pub loop-i-init : goal.loop-i-init
loop-i-init c =
    let list = c.args.events.now.items in
    subst (λ (es : List Event). Lists list list es) (sym (no_duals 0)) (lists_none list c.requires.list)

-- the dual of the next activity comes behind those before it
pub loop-i-preserved : goal.loop-i-preserved
loop-i-preserved c =
    lists_then c.args.events.now.items c.loop-i.events.items c.list_dual.new.events.items _ _ _ (duals_more c.args.duals.now c.loop-i.i _ c.loop-i-test.true)
    c.loop-i.invariant c.in_ok-list_dual.ensures
