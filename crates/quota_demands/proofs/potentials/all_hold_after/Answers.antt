use Rattle.std.proofs.Common.{ℕ, inl, inr, arith, rules, subst}
use Rattle.std.proofs.lemmas.Bool.{cases_lt}
use Rattle.quota_demands.specs.Potentials.{HoldAfter}
use Rattle.quota_demands.proofs.potentials.all_hold_after.Goals as goal

-- one activity more
pub loop-b-preserved : goal.loop-b-preserved
loop-b-preserved c = λ b lt.
    let here : HoldAfter c.args.book.now c.args.quota.now c.args.coming.now c.args.leaving.now c.loop-b.b = search rules in
    elim (cases_lt b c.loop-b.b) [
      | inl less ↦ c.loop-b.invariant b less
      | inr more ↦ subst (λ (x : ℕ). HoldAfter c.args.book.now c.args.quota.now c.args.coming.now c.args.leaving.now x) (omega (arith, lt, more)) here
    ]
