use Rattle.std.proofs.Common.{◌≡◌, ◌≤◌, ◌<◌, ◌-◌, ℕ, suc, true, arith, rules, length, subst}
use Rattle.std.specs.Prelude.{slice_index_or}
use Rattle.branch_marks.specs.Facts.{directly}
use Rattle.node_leaves.proofs.PairChoices.{directly_at}
use Rattle.quota_node.proofs.FreePairs.{link_undecided}
use Rattle.quota_node.proofs.free_pairs.free_link_in.Goals as goal

-- the connection is in the route, which fits
pub returns-then-not-has : goal.returns-then-not-has
returns-then-not-has c =
    let i = c.loop-i.i in
    let route = c.args.route.now in
    let low : 1 ≤ i = search rules in
    let within : i < length route = search rules in
    let behind : suc (i - 1) ≡ i = omega (arith, low) in
    let link : directly route (slice_index_or route (i - 1) 0) (slice_index_or route (suc (i - 1)) 0) ≡ true =
    directly_at route (i - 1) (omega (arith, within, low)) in
    link_undecided c.args.book.now c.args.marks.now.facts c.args.k c.requires.aircraft route c.requires.fits
    (slice_index_or route (i - 1) 0) (slice_index_or route i 0)
    (subst (λ (j : ℕ). directly route (slice_index_or route (i - 1) 0) (slice_index_or route j 0) ≡ true) behind link)
    (search rules)
