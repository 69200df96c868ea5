use Rattle.std.proofs.Common.{ℕ, arith, subst, Contains}
use Rattle.branch_marks.specs.declared.fact.Fact.TheVariants.{Must}
use Rattle.pricing.proofs.Busy.{floor_stays}
use Rattle.pricing.proofs.line_pass.pass_must.Goals as goal

-- the activity is no Must
pub returns-then-not-has-clause-floor : goal.returns-then-not-has-clause-floor
returns-then-not-has-clause-floor c =
    floor_stays c.args.asked.now.marks.now.facts c.args.asked.now.k c.args.b c.args.floor (λ has. let yes = c.has.ensures.means.1 has in let no = c.if-not-has.true in absurd (grind (arith, yes, no))) c.requires.floor

-- the activity is the last Must
pub returns-clause-floor : goal.returns-clause-floor
returns-clause-floor c =
    let facts = c.args.asked.now.marks.now.facts in
    let k = c.args.asked.now.k in
    let no = c.if-not-has.false in
    let is_must : Contains facts (Must k c.args.b) = c.has.ensures.means.0 (grind (arith, no)) in
    record {
      musts = λ d below there. below;
      least = λ d is. (subst (λ (n : ℕ). Contains facts (Must k n)) (omega (arith, is)) is_must, omega (arith, is));
    }
