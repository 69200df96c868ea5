-- The two least prices, one aircraft after the other. One more price takes its place among the two: the least becomes
-- the lesser of both, and the second is what then comes next. So none takes the activity below the least, and of any
-- two aircraft one keeps off below the second. The hard case is a pair with the new aircraft: the new second is at most
-- the greater of the least so far and the new price, so the other one keeps off below it where the least is the
-- greater, and the new one where the price is.
use Rattle.std.proofs.Common.{◌≡◌, ◌⊎◌, ◌<◌, ◌+◌, ◌≤ℤ◌, ◌-ℤ◌, ℕ, ℤ, inl, inr, arith, List, Option, Some, None, refl, sym, subst}
use Rattle.std.proofs.lemmas.Int.{ints, clamps}
use Rattle.std.proofs.lemmas.Bool.{cases_eq}
use Rattle.std.specs.Int.{int_min, int_max}
use Rattle.restricted_master.specs.declared.choice.Choice.{Choice}
use Rattle.restricted_master.specs.inside.Choices.{price_of, price_at, KeepsOffBelow, TakesFrom, IsTaken, IsTakenOnce}

-- of the first so many aircraft: none takes the activity below the least, and of any two one keeps off below the second
pub record AreLeastPrices (low high : ℤ) (choices : List Choice) (count : ℕ) (least second : ℤ) : Type 0 where
  pub from : low ≤ℤ least
  pub order : least ≤ℤ second
  pub most : second ≤ℤ high
  pub taken : IsTaken low high choices count least
  pub keep : (k : ℕ) → k < count → KeepsOffBelow least (price_at low choices k)
  pub once : IsTakenOnce low choices count second

keeps_lower : (one other : ℤ) (price : Option ℤ) → one ≤ℤ other → KeepsOffBelow other price → KeepsOffBelow one price
keeps_lower one other None le keeps = tt
keeps_lower one other (Some price) le keeps = omega (arith, ints, le, keeps)

takes_higher : (one other : ℤ) (price : Option ℤ) → one ≤ℤ other → TakesFrom one price → TakesFrom other price
takes_higher one other None le takes = takes
takes_higher one other (Some price) le takes = omega (arith, ints, le, takes)

order : (x y : ℤ) → (x ≤ℤ y) ⊎ (y ≤ℤ x)
order x y = grind (arith, ints)

pub price_from : (low : ℤ) (with without : Option ℤ) (price : ℤ) → price_of low with without ≡ Some price → low ≤ℤ price
price_from low None without price is = cc
price_from low (Some with) None price is = let e : low ≡ price = cc in omega (arith, ints, e)
price_from low (Some with) (Some without) price is =
    let e : int_max low (with -ℤ without) ≡ price = cc in omega (arith, ints, clamps, e)

module _ (low high : ℤ) (choices : List Choice) (count : ℕ) (least second : ℤ) (are : AreLeastPrices low high choices count least second) where
  taken_later : (dual : ℤ) → dual ≡ least → IsTaken low high choices (count + 1) dual
  taken_later dual same = elim are.taken [
    | inl top ↦ inl (omega (arith, ints, top, same))
    | inr some ↦ (let (k, below, takes) = some in
        inr (k, omega (arith, below), subst (λ (d : ℤ). TakesFrom d (price_at low choices k)) (sym same) takes))
  ]

  pub no_price : price_at low choices count ≡ None → AreLeastPrices low high choices (count + 1) least second
  no_price none = record {
    from = are.from;
    order = are.order;
    most = are.most;
    taken = taken_later least refl;
    keep = λ k below. elim (cases_eq k count) [
      | inl e ↦ subst (λ (j : ℕ). KeepsOffBelow least (price_at low choices j)) (sym e) (subst (λ (p : Option ℤ). KeepsOffBelow least p) (sym none) tt)
      | inr ne ↦ are.keep k (omega (arith, below, ne))
    ];
    once = λ j k lt below. elim (cases_eq k count) [
      | inl e ↦ inr (subst (λ (i : ℕ). KeepsOffBelow second (price_at low choices i)) (sym e) (subst (λ (p : Option ℤ). KeepsOffBelow second p) (sym none) tt))
      | inr ne ↦ are.once j k lt (omega (arith, below, ne))
    ];
  }

  module _ (price : ℤ) (is : price_at low choices count ≡ Some price) (above : low ≤ℤ price) (to_high : second ≤ℤ high) where
    here : (dual : ℤ) → dual ≤ℤ price → (k : ℕ) → k ≡ count → KeepsOffBelow dual (price_at low choices k)
    here dual le k e =
        subst (λ (j : ℕ). KeepsOffBelow dual (price_at low choices j)) (sym e) (subst (λ (p : Option ℤ). KeepsOffBelow dual p) (sym is) le)

    less : int_min least price ≤ℤ least
    less = omega (arith, ints, clamps)

    less_here : int_min least price ≤ℤ price
    less_here = omega (arith, ints, clamps)

    less_second : int_min second (int_max least price) ≤ℤ second
    less_second = omega (arith, ints, clamps)

    new_pair : (j k : ℕ) → j < k → k < count + 1
        → KeepsOffBelow (int_min second (int_max least price)) (price_at low choices j) ⊎ KeepsOffBelow (int_min second (int_max least price)) (price_at low choices k)
    new_pair j k lt below = elim (cases_eq k count) [
      | inl e ↦ elim (order least price) [
        | inl cheap ↦ inr (here (int_min second (int_max least price)) (omega (arith, ints, clamps, cheap)) k e)
        | inr dear ↦ inl (keeps_lower (int_min second (int_max least price)) least (price_at low choices j) (omega (arith, ints, clamps, dear)) (are.keep j (omega (arith, lt, e))))
      ]
      | inr ne ↦ elim (are.once j k lt (omega (arith, below, ne))) [
        | inl one ↦ inl (keeps_lower (int_min second (int_max least price)) second (price_at low choices j) less_second one)
        | inr two ↦ inr (keeps_lower (int_min second (int_max least price)) second (price_at low choices k) less_second two)
      ]
    ]

    pub one_price : AreLeastPrices low high choices (count + 1) (int_min least price) (int_min second (int_max least price))
    one_price = record {
      from = omega (arith, ints, clamps, are.from, above);
      order = omega (arith, ints, clamps, are.order);
      most = omega (arith, ints, clamps, are.most);
      taken = elim (order least price) [
        | inl cheap ↦ taken_later (int_min least price) (omega (arith, ints, clamps, cheap))
        | inr dear ↦ inr (count, omega arith, subst (λ (p : Option ℤ). TakesFrom (int_min least price) p) (sym is) (omega (arith, ints, clamps, dear)))
      ];
      keep = λ k below. elim (cases_eq k count) [
        | inl e ↦ here (int_min least price) less_here k e
        | inr ne ↦ keeps_lower (int_min least price) least (price_at low choices k) less (are.keep k (omega (arith, below, ne)))
      ];
      once = new_pair;
    }

-- from the least price to the second, the law of switching prices holds
pub taken_from : (low high : ℤ) (choices : List Choice) (count : ℕ) (least dual : ℤ) → IsTaken low high choices count least → least ≤ℤ dual → dual ≤ℤ high
    → IsTaken low high choices count dual
taken_from low high choices count least dual taken above most = elim taken [
  | inl top ↦ inl (omega (arith, ints, top, above, most))
  | inr some ↦ (let (k, below, takes) = some in inr (k, below, takes_higher least dual (price_at low choices k) above takes))
]

pub once_below : (low : ℤ) (choices : List Choice) (count : ℕ) (second dual : ℤ) → IsTakenOnce low choices count second → dual ≤ℤ second
    → IsTakenOnce low choices count dual
once_below low choices count second dual once below j k lt within = elim (once j k lt within) [
  | inl one ↦ inl (keeps_lower dual second (price_at low choices j) below one)
  | inr two ↦ inr (keeps_lower dual second (price_at low choices k) below two)
]
