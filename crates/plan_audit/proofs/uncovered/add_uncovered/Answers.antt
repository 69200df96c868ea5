use Rattle.std.proofs.Common.{sym, ap}
use Rattle.std.specs.Prelude.{not}
use Rattle.tail_book.specs.Numbers.{contains}
use Rattle.plan_audit.specs.Met.{activities_met}
use Rattle.plan_audit.proofs.MarkLemmas.{uncovered-next}
use Rattle.plan_audit.proofs.uncovered.add_uncovered.Goals as goal

-- the next activity is added, unless a route has it
pub loop-a-preserved : goal.loop-a-preserved
loop-a-preserved c =
    uncovered-next (λ b. not (contains (activities_met c.args.met_names.now.met.items) b)) c.args.list.now.items c.loop-a.list.items c.add_unless_flown.new.list.items c.loop-a.a
    c.is_flown.result (ap not (sym c.is_flown.ensures)) c.loop-a.invariant c.in_ok-add_unless_flown.ensures
