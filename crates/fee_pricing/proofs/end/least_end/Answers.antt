use Rattle.std.proofs.Common.{◌≡◌, ℕ, pos, arith, inl, inr, subst}
use Rattle.std.proofs.lemmas.Bool.{cases_lt}
use Rattle.label_store.specs.Buckets.{row_at}
use Rattle.pricing.specs.Rows.{weight_of}
use Rattle.pricing.specs.inside.Ends.{IsLeastAt}
use Rattle.fee_pricing.proofs.end.least_end.Goals as goal

-- it is the lightest in the bucket of b too, and no heavier than before
pub loop-b-preserved : goal.loop-b-preserved
loop-b-preserved c =
    let inv = c.loop-b.invariant in
    let behind = c.least_behind-best.ensures in
    record {
      one = behind.one;
      first = λ may. behind.stays (pos 0) (inv.first may);
      next = λ b lt. elim (cases_lt b c.loop-b.b) [
        | inl less ↦ (λ may j has. behind.stays (weight_of (row_at c.args.store.now.rows j)) (inv.next b less may j has))
        | inr more ↦ let at : c.loop-b.b ≡ b = omega (arith, lt, more) in
            subst (λ (a : ℕ). IsLeastAt c.args.marks.now.facts c.args.k c.args.store.now c.least_behind-best.result a) at behind.here
      ];
    }
