use Rattle.std.proofs.Common.{ℕ, ◌+ℤ◌, ◌≤◌, ◌≤ℤ◌, length, subst, arith, rules}
use Rattle.quota_demands.specs.Potentials.{potential, use_of}
use Rattle.quota_demands.proofs.NetRows.{predecessor_of_book, predecessor_stands}
use Rattle.quota_demands.proofs.potentials.hold_after.Goals as goal

pub holds-requires-clause-before : goal.holds-requires-clause-before
holds-requires-clause-before c =
    predecessor_of_book c.rows_are_their_places.ensures c.args.book.now (c.rows_rise.ensures c.args.book.now) c.args.net.now c.requires.net
    c.predecessors-before.result.now c.args.b c.predecessors-before.ensures c.loop-i.i (omega arith)

-- each activity that may come directly before it stands at a place
pub returns : goal.returns
returns c = λ t a some.
    let row = c.predecessors-before.result.now in
    let whole : length row ≤ c.loop-i.i = search rules in
    let (i, lt, at) = predecessor_stands c.rows_are_their_places.ensures c.args.book.now (c.rows_rise.ensures c.args.book.now) c.args.net.now c.requires.net
    row c.predecessors_are_links.ensures c.args.b c.predecessors-before.ensures a some in
    subst (λ (x : ℕ). (potential c.args.coming.now c.args.b +ℤ potential c.args.leaving.now x) ≤ℤ use_of c.args.book.now c.args.quota.now x c.args.b) at
    (c.loop-i.invariant i (omega (arith, lt, whole)))
