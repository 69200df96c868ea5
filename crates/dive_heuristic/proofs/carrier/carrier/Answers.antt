use Rattle.std.proofs.Common.{inr}
use Rattle.dive_heuristic.proofs.Carriers.{least_alive}
use Rattle.dive_heuristic.proofs.carrier.carrier.Goals as goal

-- no route has it, and somebody may fly it
pub returns : goal.returns
returns c =
    inr (
      c.in_default.ensures.none,
      least_alive c.alive_decides.ensures c.args.book.now c.args.marks.now.facts c.args.a c.next_alive.result c.requires.activity c.requires.somebody
          c.next_alive.ensures.none c.next_alive.ensures.found,
    )
