use Rattle.std.proofs.Common.{◌≡◌, ℤ, ◌≤ℤ◌, w64, FitsSigned, rules, arith, true, sym, subst}
use Rattle.std.proofs.lemmas.Int.{ints, to_z-of_z}
use Rattle.pricing.specs.inside.WeightRange.{IsBroad, IsSmall}
use Rattle.route_search.proofs.Ending.{limit_is_below, lightest, at_most_trans}
use Rattle.route_search.proofs.end.with_end.Goals as goal

between : (value limit low : ℤ) → value ≤ℤ low → low ≤ℤ limit → IsSmall value → IsBroad limit → IsBroad low
between value limit low least most small broad =
    let under = small.least in
    let over = broad.most in
    record { least = omega (arith, ints, least, under); most = omega (arith, ints, most, over) }

-- a lighter end, and a limit between it and the one before
pub returns-clause-no_heavier : goal.returns-clause-no_heavier
returns-clause-no_heavier c =
    let fits : FitsSigned w64 c.lowered-limit.result = search rules in
    let is : c.is_lighter.result ≡ true = search rules in
    record {
      best = lightest c.args.ends.best c.args.end.value (c.is_lighter.ensures.lighter is);
      limit = subst (λ (w : ℤ). w ≤ℤ c.args.ends.limit) (sym (to_z-of_z w64 c.lowered-limit.result fits)) c.lowered-limit.ensures.most;
    }

pub returns-clause-limit : goal.returns-clause-limit
returns-clause-limit c = λ cut is.
    let fits : FitsSigned w64 c.lowered-limit.result = search rules in
    let low = c.lowered-limit.result in
    subst (λ (w : ℤ). (c.args.end.value ≤ℤ w) × (w ≤ℤ cut)) (sym (to_z-of_z w64 low fits))
    (c.lowered-limit.ensures.least, at_most_trans low c.args.ends.limit cut c.lowered-limit.ensures.most (limit_is_below cut c.args.ends.best c.args.ends.limit is))

pub returns-clause-broad : goal.returns-clause-broad
returns-clause-broad c = λ broad.
    let fits : FitsSigned w64 c.lowered-limit.result = search rules in
    let low = c.lowered-limit.result in
    subst IsBroad (sym (to_z-of_z w64 low fits))
    (between c.args.end.value c.args.ends.limit low c.lowered-limit.ensures.least c.lowered-limit.ensures.most c.requires.small broad)
