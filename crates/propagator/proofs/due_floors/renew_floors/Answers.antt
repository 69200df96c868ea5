use Rattle.std.proofs.Common.{◌≤◌, ap, arith, length}
use Rattle.tail_book.specs.Seen.{BookSeen}
use Rattle.tail_book.specs.Lookup.{activities}
use Rattle.propagator.proofs.RenewedFloors.{renewed_floors, renewed_asked}
use Rattle.propagator.proofs.due_floors.renew_floors.Goals as goal

pub returns-clause-floors : goal.returns-clause-floors
returns-clause-floors c =
    let all : activities c.args.book.now ≤ c.loop-b.b = omega (arith, ap (λ (b : BookSeen). length b.activities) c.book.view_is) in
    renewed_floors c.floors_count.ensures c.args.book.now c.args.marks.now.facts c.args.k c.loop-b.b c.loop-b.row c.loop-b.due c.loop-b.ask all c.loop-b.invariant.0

pub returns-clause-asked : goal.returns-clause-asked
returns-clause-asked c =
    let all : activities c.args.book.now ≤ c.loop-b.b = omega (arith, ap (λ (b : BookSeen). length b.activities) c.book.view_is) in
    renewed_asked c.alive_decides.ensures c.args.book.now c.args.marks.now.facts c.args.k c.loop-b.b c.loop-b.row c.loop-b.due c.loop-b.ask all c.loop-b.invariant.0
