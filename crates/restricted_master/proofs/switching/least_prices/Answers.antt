use Rattle.std.proofs.Common.{◌≡◌, ◌+◌, sym, ap, ◌∙◌, ℤ, List, Some, None, rules, arith, ℕ, w64, to_z, of_z}
use Rattle.std.proofs.lemmas.Int.{to_z-of_z}
use Rattle.std.specs.Int.{int_max, int_min}
use Rattle.restricted_master.specs.declared.choice.Choice.{Choice}
use Rattle.restricted_master.specs.declared.switching.Prices.{Prices}
use Rattle.restricted_master.specs.inside.Choices.{choice_at, price_at}
use Rattle.restricted_master.proofs.LeastPrices.{AreLeastPrices, no_price, one_price, price_from}
use Rattle.restricted_master.proofs.switching.least_prices.Goals.{in-Some, in_default}
use Rattle.restricted_master.proofs.switching.least_prices.Goals as goal

with_price : (low high : ℤ) (choices : List Choice) (k : ℕ) (prices later : Prices) (price : ℤ) → AreLeastPrices low high choices k prices.least prices.second
    → price_at low choices k ≡ Some price → later.least ≡ int_min prices.least price → later.second ≡ int_min prices.second (int_max prices.least price)
    → AreLeastPrices low high choices (k + 1) later.least later.second
with_price low high choices k prices later price are is least second =
    rw (least, second) (one_price low high choices k prices.least prices.second are price is
    (price_from low (choice_at choices k).with (choice_at choices k).without price is) are.most)

without_price : (low high : ℤ) (choices : List Choice) (k : ℕ) (prices later : Prices) → AreLeastPrices low high choices k prices.least prices.second
    → price_at low choices k ≡ None → later ≡ prices → AreLeastPrices low high choices (k + 1) later.least later.second
without_price low high choices k prices later are none same = rw same (no_price low high choices k prices.least prices.second are none)

-- one price more, or none
pub loop-k-preserved : goal.loop-k-preserved
loop-k-preserved c = elim c.match-price.branch [
  | in-Some w ↦
      (let fits : to_z w64 (of_z w64 w.in-Some.price) ≡ w.in-Some.price = search rules in
      let is = sym c.price.ensures ∙ w.in-Some.is ∙ ap Some (sym fits) in
      rw w.prices-is (with_price _ _ _ _ _ _ _ c.loop-k.invariant is w.with_price-prices.ensures.least w.with_price-prices.ensures.second))
  | in_default w ↦ without_price _ _ _ _ _ _ c.loop-k.invariant (sym c.price.ensures ∙ w.in_default.is) w.prices-is
]

-- all have been seen
pub returns-clause-once : goal.returns-clause-once
returns-clause-once c = λ j k lt below.
    rw (sym (to_z-of_z w64 c.args.low c.ranges.low)) (c.loop-k.invariant.once j k lt (omega (arith, below)))
