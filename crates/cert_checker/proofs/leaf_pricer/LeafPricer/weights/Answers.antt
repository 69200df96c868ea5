use Rattle.std.proofs.Common.{◌≡◌, ◌∙◌, ◌+◌, ◌<◌, ◌++◌, ◌∷◌, [], ℤ, List, Some, None, ap, arith, length, refl, rules, subst, sym, to_z, of_z, w64}
use Rattle.std.proofs.lemmas.List.{length_push}
use Rattle.tail_book.specs.Lookup.{aircraft}
use Rattle.tail_book.specs.Seen.{BookSeen}
use Rattle.cert_checker.specs.LeastWeight.{least_weight}
use Rattle.cert_checker.proofs.LeanBounds.{no_weights, one_weight_more, stuck_at}
use Rattle.cert_checker.proofs.leaf_pricer.LeafPricer.weights.Goals as goal

pub loop-k-init : goal.loop-k-init
loop-k-init c =
    let none : c.new-values.result.items ≡ [] = search rules in
    record {
      weights = no_weights c.args.book.now c.args.marks.now.facts c.args.duals.now.values ∙ ap (λ (values : List ℤ). Some values) (sym none);
      count = ap (λ (values : List ℤ). length values) none;
      pricer = c.requires.pricer;
    }

-- the weight of aircraft k comes behind those before it
pub loop-k-preserved : goal.loop-k-preserved
loop-k-preserved c =
    let inv = c.loop-k.invariant in
    let k = c.loop-k.k in
    let values = c.loop-k.values.items in
    let value = c.in-Some.value in
    let fits : to_z w64 (of_z w64 value) ≡ value = search rules in
    let pushed : c.push.new.self.items ≡ values ++ value ∷ [] = c.in_ok-push.ensures.items ∙ ap (λ (z : ℤ). values ++ z ∷ []) fits in
    let found : least_weight c.args.book.now c.args.marks.now.facts k c.args.duals.now.values ≡ Some value = sym c.in_ok-weight.ensures.weight ∙ c.in-Some.is in
    let long : length c.push.new.self.items ≡ length values + 1 = ap (λ (all : List ℤ). length all) pushed ∙ length_push values value in
    let count = inv.count in
    record {
      weights = one_weight_more c.args.book.now c.args.marks.now.facts c.args.duals.now.values k (k + 1) values value (omega arith) inv.weights found
          ∙ ap (λ (all : List ℤ). Some all) (sym pushed);
      count = omega (arith, long, count);
      pricer = c.in_ok-weight.ensures.pricer;
    }

-- one aircraft that is stuck leaves no weights
pub returns-in_default-clause-weights : goal.returns-in_default-clause-weights
returns-in_default-clause-weights c =
    let tails : length c.book.inside.tails.items ≡ aircraft c.args.book.now =
    subst (λ (b : BookSeen). length c.book.inside.tails.items ≡ aircraft b) c.book.view_is refl in
    let few : c.loop-k.k < aircraft c.args.book.now = omega (arith, tails) in
    let none : c.in_ok-weight.weight ≡ None = search rules in
    sym (stuck_at c.args.book.now c.args.marks.now.facts c.args.duals.now.values c.loop-k.k (aircraft c.args.book.now) few (sym c.in_ok-weight.ensures.weight ∙ none))
