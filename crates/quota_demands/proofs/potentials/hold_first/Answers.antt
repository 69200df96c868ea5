use Rattle.std.proofs.Common.{ℕ, pos, ◌+ℤ◌, ◌≤◌, ◌≤ℤ◌, length, subst, arith, rules}
use Rattle.quota_demands.specs.Potentials.{potential}
use Rattle.quota_demands.proofs.NetRows.{head_of_book, head_stands}
use Rattle.quota_demands.proofs.potentials.hold_first.Goals as goal

pub holds_first-requires-clause-after : goal.holds_first-requires-clause-after
holds_first-requires-clause-after c =
    head_of_book c.rows_are_their_places.ensures c.args.book.now (c.rows_rise.ensures c.args.book.now) c.args.net.now c.requires.net
    c.heads-heads.result.now c.args.k c.heads-heads.ensures c.loop-i.i (omega arith)

-- each activity that it may fly first stands at a place
pub returns : goal.returns
returns c = λ t b link.
    let row = c.heads-heads.result.now in
    let whole : length row ≤ c.loop-i.i = search rules in
    let (i, lt, at) = head_stands c.rows_are_their_places.ensures c.args.book.now (c.rows_rise.ensures c.args.book.now) c.args.net.now c.requires.net
    row c.heads_are_links.ensures c.args.k c.heads-heads.ensures b link in
    subst (λ (x : ℕ). (potential c.args.coming.now x +ℤ potential c.args.carried.now c.args.k) ≤ℤ pos 0) at (c.loop-i.invariant i (omega (arith, lt, whole)))
