-- Where one aircraft takes the activity from a dual on, raising the dual gains at most nothing: what the dual gains that
-- aircraft loses. Where at most one takes it below a dual, lowering the dual gains at most nothing either.
use Rattle.std.proofs.Common.{◌≡◌, ◌⊎◌, ◌<◌, ◌≤ℤ◌, ◌+ℤ◌, ◌-ℤ◌, ℕ, zero, suc, ℤ, inl, inr, arith, List, [], ◌∷◌, length, Option, Some, None}
use Rattle.std.proofs.lemmas.Int.{ints, clamps}
use Rattle.restricted_master.specs.declared.choice.Choice.{Choice}
use Rattle.restricted_master.specs.inside.Choices.{price_of, taken_at, KeepsOffBelow, TakesFrom, price_at, all_taken, IsTakenOnce, SwitchingPricesAreBest}

-- one aircraft: a higher dual takes nothing from its weight but what it rises
falls : (one other : ℤ) (with without : Option ℤ) → one ≤ℤ other → taken_at other with without ≤ℤ taken_at one with without
falls one other None None le = omega (arith, ints)
falls one other None (Some without) le = omega (arith, ints)
falls one other (Some with) None le = omega (arith, ints, le)
falls one other (Some with) (Some without) le = omega (arith, ints, clamps, le)

falls_by : (one other : ℤ) (with without : Option ℤ) → one ≤ℤ other → taken_at one with without ≤ℤ (taken_at other with without +ℤ (other -ℤ one))
falls_by one other None None le = omega (arith, ints, le)
falls_by one other None (Some without) le = omega (arith, ints, le)
falls_by one other (Some with) None le = omega (arith, ints, le)
falls_by one other (Some with) (Some without) le = omega (arith, ints, clamps, le)

-- from its price on it takes the activity, and pays back what the dual rises
pays : (low one other : ℤ) (with without : Option ℤ) → one ≤ℤ other → TakesFrom one (price_of low with without)
    → (taken_at other with without +ℤ (other -ℤ one)) ≤ℤ taken_at one with without
pays low one other None without le takes = absurd takes
pays low one other (Some with) None le takes = omega (arith, ints, le)
pays low one other (Some with) (Some without) le takes = omega (arith, ints, clamps, le, takes)

-- below its price it does not, and nothing changes
stays : (low one other : ℤ) (with without : Option ℤ) → low ≤ℤ one → one ≤ℤ other → KeepsOffBelow other (price_of low with without)
    → taken_at one with without ≤ℤ taken_at other with without
stays low one other None None least le keeps = omega (arith, ints)
stays low one other None (Some without) least le keeps = omega (arith, ints)
stays low one other (Some with) None least le keeps = omega (arith, ints, le, least, keeps)
stays low one other (Some with) (Some without) least le keeps = omega (arith, ints, clamps, le, least, keeps)

-- whether it keeps off
either : (dual : ℤ) (price : Option ℤ) → KeepsOffBelow dual price ⊎ ¬ KeepsOffBelow dual price
either dual None = inl tt
either dual (Some price) = order dual price
  where
    order : (x y : ℤ) → (x ≤ℤ y) ⊎ ¬ (x ≤ℤ y)
    order x y = grind (arith, ints)

-- the choices of all aircraft
module _ (low : ℤ) where
  all_fall : (one other : ℤ) (choices : List Choice) → one ≤ℤ other → all_taken other choices ≤ℤ all_taken one choices
  all_fall one other [] le = omega (arith, ints)
  all_fall one other (c ∷ choices) le = omega (arith, ints, falls one other c.with c.without le, all_fall one other choices le)

  one_pays : (one other : ℤ) (choices : List Choice) (k : ℕ) → one ≤ℤ other → k < length choices → TakesFrom one (price_at low choices k)
      → (all_taken other choices +ℤ (other -ℤ one)) ≤ℤ all_taken one choices
  one_pays one other [] k le below takes = absurd (omega (arith, below))
  one_pays one other (c ∷ choices) zero le below takes =
      omega (arith, ints, pays low one other c.with c.without le takes, all_fall one other choices le)
  one_pays one other (c ∷ choices) (suc k) le below takes =
      omega (arith, ints, falls one other c.with c.without le, one_pays one other choices k le (omega (arith, below)) takes)

  all_stay : (one other : ℤ) (choices : List Choice) → low ≤ℤ one → one ≤ℤ other
      → ((k : ℕ) → k < length choices → KeepsOffBelow other (price_at low choices k)) → all_taken one choices ≤ℤ all_taken other choices
  all_stay one other [] least le keep = omega (arith, ints)
  all_stay one other (c ∷ choices) least le keep =
      omega (
        arith,
        ints,
        stays low one other c.with c.without least le (keep 0 (omega arith)),
        all_stay one other choices least le (λ k below. keep (suc k) (omega (arith, below))),
      )

  sure : (one two : Type 0) → ¬ one → one ⊎ two → two
  sure one two not_one (inl h) = absurd (not_one h)
  sure one two not_one (inr h) = h

  one_falls : (one other : ℤ) (choices : List Choice) → low ≤ℤ one → one ≤ℤ other → IsTakenOnce low choices (length choices) other
      → all_taken one choices ≤ℤ (all_taken other choices +ℤ (other -ℤ one))
  one_falls one other [] least le once = omega (arith, ints, le)
  one_falls one other (c ∷ choices) least le once = elim (either other (price_of low c.with c.without)) [
    | inl keeps ↦ omega (
      arith,
      ints,
      stays low one other c.with c.without least le keeps,
      one_falls one other choices least le (λ j k lt below. once (suc j) (suc k) (omega (arith, lt)) (omega (arith, below))),
    )
    | inr takes ↦ omega (
      arith,
      ints,
      falls_by one other c.with c.without le,
      all_stay one other choices least le (λ k below. sure _ _ takes (once 0 (suc k) (omega arith) (omega (arith, below)))),
    )
  ]

order : (x y : ℤ) → (x ≤ℤ y) ⊎ (y ≤ℤ x)
order x y = grind (arith, ints)

pub switching_prices_are_best : SwitchingPricesAreBest
switching_prices_are_best low high choices dual box taken once other within = elim (order dual other) [
  | inl above ↦ elim taken [
    | inl top ↦ (let same : other ≡ dual = omega (arith, ints, top, within.most, above) in rw same (omega (arith, ints)))
    | inr some ↦ (let (k, below, takes) = some in omega (arith, ints, one_pays low dual other choices k above below takes))
  ]
  | inr below ↦ omega (arith, ints, one_falls low other dual choices within.least below once)
]
