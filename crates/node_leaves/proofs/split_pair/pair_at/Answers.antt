use Rattle.std.proofs.Common.{◌≡◌, ◌≤◌, ◌<◌, ◌-◌, ℕ, suc, true, arith, rules, length, refl, subst}
use Rattle.std.specs.Prelude.{Contains, slice_index_or}
use Rattle.branch_marks.specs.declared.fact.Fact.TheVariants.{Tie}
use Rattle.branch_marks.specs.Facts.{directly}
use Rattle.node_leaves.proofs.PairChoices.{directly_at, directly_where}
use Rattle.node_leaves.proofs.split_pair.pair_at.Goals as goal

-- the link is in the route
pub returns-then-not-has : goal.returns-then-not-has
returns-then-not-has c =
    let i = c.loop-i.i in
    let route = c.args.route.now in
    let low : 1 ≤ i = search rules in
    let within : i < length route = search rules in
    let here : slice_index_or route i 0 ≡ c.args.a = search rules in
    let behind : suc (i - 1) ≡ i = omega (arith, low) in
    let link : directly route (slice_index_or route (i - 1) 0) (slice_index_or route (suc (i - 1)) 0) ≡ true =
    directly_at route (i - 1) (omega (arith, within, low)) in (
      refl,
      subst (λ (b : ℕ). directly route (slice_index_or route (i - 1) 0) b ≡ true) here
          (subst (λ (j : ℕ). directly route (slice_index_or route (i - 1) 0) (slice_index_or route j 0) ≡ true) behind link),
      search rules,
    )

-- no link into it is free
pub returns : goal.returns
returns c =
    let route = c.args.route.now in
    let whole : length route ≤ c.loop-i.i = search rules in (
      refl,
      refl,
      λ x h. (let (i, lt, at, then) = directly_where route x c.args.a h in
          subst (λ (y : ℕ). Contains c.args.marks.now.facts (Tie y c.args.a)) at (c.loop-i.invariant i (omega (arith, lt, whole)) then)),
    )
