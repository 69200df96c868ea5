-- Lines and tangents. From one rise to another a line changes by its times; so the lowest line of an aircraft at one rise is nowhere below
-- its value, and the lowest lines of all aircraft together are nowhere below the sum. Where such a tangent does not fall towards smaller
-- rises, or does not rise towards larger ones, none of them is better.
use Rattle.std.proofs.Common.{◌≡◌, ◌⊎◌, ◌<◌, ◌≤◌, ◌+◌, ◌-◌, ◌+ℤ◌, ◌-ℤ◌, ◌*ℤ◌, ◌≤ℤ◌, ℕ, ℤ, pos, arith, sym, ap, subst, inl, inr, add-one, true, List, length, get_or, Some, None, ◌∙◌}
use Rattle.std.proofs.lemmas.Int.{by_lt_z, ints}
use Rattle.std.proofs.lemmas.Bool.{cases_eq, cases_lt}
use Rattle.std.specs.Prelude.{◌<ℤ◌}
use Rattle.tail_book.specs.CostTable.{cost_unit}
use Rattle.tail_book.specs.Ranges.{IsWithin}
use Rattle.restricted_master.specs.Seen.{PoolSeen}
use Rattle.restricted_master.specs.Lists.{is_of}
use Rattle.restricted_master.specs.inside.Least.{weight_at}
use Rattle.fee_master.specs.inside.Lines.{line_at, line_value, part_at, IsGain, IsLowest, IsNarrowed, IsSearched, IsTangent, IsTouching}
use Rattle.fee_master.specs.inside.Uses.{times_at}
use Rattle.fee_master.specs.declared.best_rise.Range.{Range}
use Rattle.fee_master.specs.declared.lines.Tangent.{Tangent}
use Rattle.fee_master.specs.declared.lines.Touch.{Touch}
use Rattle.fee_master.proofs.BelowSums.{last_term}
use Rattle.fee_master.proofs.Least.{value_is, value_is_least}
use Rattle.fee_master.proofs.Products.{more_times, no_less, no_more, spread}

-- from one rise to another
pub product_step : (t : ℕ) (rise other : ℤ) → pos t *ℤ other ≡ (pos t *ℤ rise) +ℤ (pos t *ℤ (other -ℤ rise))
product_step t rise other =
    let e : rise +ℤ (other -ℤ rise) ≡ other = omega (arith, ints) in
    ap (λ (x : ℤ). pos t *ℤ x) (sym e) ∙ spread t rise (other -ℤ rise)

line_step : (w : ℤ) (t : ℕ) (rise other : ℤ) → w +ℤ (pos t *ℤ other) ≡ (w +ℤ (pos t *ℤ rise)) +ℤ (pos t *ℤ (other -ℤ rise))
line_step w t rise other = let h = product_step t rise other in omega (arith, ints, h)

-- the first number's line, and one more
pub lowest_more : (numbers : List ℕ) (q : ℕ) (weights : List ℤ) (times : List ℕ) (rise : ℤ) (old here new : Touch)
    → IsLowest numbers q weights times rise old → here.value ≡ line_at weights times rise (get_or numbers q 0) → here.times ≡ times_at times (get_or numbers q 0)
    → new.value ≤ℤ old.value → new.value ≤ℤ here.value → (new ≡ old) ⊎ (new ≡ here) → IsLowest numbers (q + 1) weights times rise new
lowest_more numbers q weights times rise old here new lowest value time first second either = record {
  least = λ p lt. elim (cases_eq p q) [
    | inl e ↦ (let at = ap (λ (n : ℕ). line_at weights times rise (get_or numbers n 0)) e in omega (arith, ints, at, value, second))
    | inr ne ↦ (let before = lowest.least p (omega (arith, lt, ne)) in omega (arith, ints, before, first))
  ];
  attained = elim either [
    | inl e ↦ (let (p, lt, is, of) = lowest.attained in (p, omega (arith, lt), is ∙ ap (λ (t : Touch). t.value) (sym e), of ∙ ap (λ (t : Touch). t.times) (sym e)))
    | inr e ↦ (q, omega arith, sym value ∙ ap (λ (t : Touch). t.value) (sym e), sym time ∙ ap (λ (t : Touch). t.times) (sym e))
  ];
}

module _ (pool : PoolSeen) (weights : List ℤ) (times : List ℕ) where
  module _ (k : ℕ) (numbers : List ℕ) (members : (p : ℕ) → p < length numbers → (get_or numbers p 0 < length pool.entries) × (is_of pool k (get_or numbers p 0) ≡ true))
      (places : (i : ℕ) → i < length pool.entries → is_of pool k i ≡ true → (p : ℕ) × (p < length numbers) × (get_or numbers p 0 ≡ i))
      (rise : ℤ) (touch : Touch) (lowest : IsLowest numbers (length numbers) weights times rise touch) where
    pub lowest_value : touch.value ≡ line_value pool weights times rise k
    lowest_value =
        let (p, below, is, of) = lowest.attained in
        let (lt, pass) = members p below in
        sym (value_is (is_of pool k) (line_at weights times rise) (length pool.entries) touch.value
        (λ i within it.
        let (q, under, at) = places i within it in
        subst (λ (j : ℕ). touch.value ≤ℤ line_at weights times rise j) at (lowest.least q under))
        (get_or numbers p 0, lt, pass, is))

    pub lowest_above : (other : ℤ) → line_value pool weights times other k ≤ℤ (touch.value +ℤ (pos touch.times *ℤ (other -ℤ rise)))
    lowest_above other =
        let (p, below, is, of) = lowest.attained in
        let (lt, pass) = members p below in
        let i = get_or numbers p 0 in
        let least = (value_is_least (is_of pool k) (line_at weights times other) (length pool.entries) (i, lt, pass)).0 i lt pass in
        let step = line_step (weight_at weights i) (times_at times i) rise other in
        let same = ap (λ (t : ℕ). pos t *ℤ (other -ℤ rise)) of in
        omega (arith, ints, least, step, is, same)

  -- one aircraft more
  pub touching_more : (k : ℕ) (rise sum value : ℤ) (count t : ℕ) → IsTouching pool k weights times rise sum count → value ≡ line_value pool weights times rise k
      → ((other : ℤ) → line_value pool weights times other k ≤ℤ (value +ℤ (pos t *ℤ (other -ℤ rise))))
      → IsTouching pool (k + 1) weights times rise (sum +ℤ value) (count + t)
  touching_more k rise sum value count t touching is above = subst (λ (n : ℕ). IsTouching pool n weights times rise (sum +ℤ value) (count + t)) (sym (add-one k)) (record {
    on = (let last = last_term k (line_value pool weights times rise) in let so_far = touching.on in omega (arith, ints, last, so_far, is));
    above = λ other.
        let last = last_term k (line_value pool weights times other) in
        let so_far = touching.above other in
        let here = above other in
        let both = more_times count t (other -ℤ rise) in
        omega (arith, ints, last, so_far, here, both);
  })

  pub tangent_of : (m most : ℕ) (rise sum : ℤ) (tangent : Tangent) → IsTouching pool m weights times rise sum tangent.count
      → tangent.part ≡ sum -ℤ (pos most *ℤ rise) → IsTangent pool m weights times most rise tangent
  tangent_of m most rise sum tangent touching is = record {
    on = (let on = touching.on in omega (arith, ints, on, is));
    above = λ other.
        let above = touching.above other in
        let step = product_step most rise other in
        omega (arith, ints, above, step, is);
  }

  module _ (m most : ℕ) (rise : ℤ) (tangent : Tangent) (is : IsTangent pool m weights times most rise tangent) where
    none_below : (other : ℤ) → most ≤ tangent.count → other ≤ℤ rise → part_at pool m weights times most other ≤ℤ tangent.part
    none_below other le less =
        let c = tangent.count - most in
        let e : most + c ≡ tangent.count = omega (arith, le) in
        let above = is.above other in
        let both = more_times most c (other -ℤ rise) in
        let same = ap (λ (n : ℕ). pos n *ℤ (other -ℤ rise)) e in
        let sign = no_more c (other -ℤ rise) (omega (arith, ints, less)) in
        omega (arith, ints, above, both, same, sign)

    none_beyond : (other : ℤ) → tangent.count ≤ most → rise ≤ℤ other → part_at pool m weights times most other ≤ℤ tangent.part
    none_beyond other le more =
        let c = most - tangent.count in
        let e : tangent.count + c ≡ most = omega (arith, le) in
        let above = is.above other in
        let both = more_times tangent.count c (other -ℤ rise) in
        let same = ap (λ (n : ℕ). pos n *ℤ (other -ℤ rise)) e in
        let sign = no_less c (other -ℤ rise) (omega (arith, ints, more)) in
        omega (arith, ints, above, both, same, sign)

  -- what is left behind a tangent, by which side it rules out, and by whether its rise is better
  module _ (m most : ℕ) (low high : ℤ) (range : Range) (rise : ℤ) (tangent : Tangent) (new : Range) (searched : IsSearched pool m weights times most low high range)
      (inside : IsWithin range.from range.to rise) (is : IsTangent pool m weights times most rise tangent) (narrowed : IsNarrowed most range rise tangent new) where
    old_most : range.part ≤ℤ new.part
    old_most = by_lt_z range.part tangent.part
        (λ less. let e = (narrowed.better less).1 in omega (arith, ints, e, less))
        (λ le. let e = (narrowed.kept le).1 in omega (arith, ints, e))

    here_most : tangent.part ≤ℤ new.part
    here_most = by_lt_z range.part tangent.part
        (λ less. let e = (narrowed.better less).1 in omega (arith, ints, e))
        (λ le. let e = (narrowed.kept le).1 in omega (arith, ints, e, le))

    from_now : low ≤ℤ new.from
    from_now = let from = searched.from in let least = inside.least in elim (cases_lt tangent.count most) [
      | inl lt ↦ (let e = narrowed.from_same lt in omega (arith, ints, e, from))
      | inr le ↦ (let e = narrowed.from_up le in omega (arith, ints, e, from, least))
    ]

    to_now : new.to ≤ℤ high
    to_now = let to = searched.to in let greatest = inside.most in elim (cases_lt most tangent.count) [
      | inl lt ↦ (let e = narrowed.to_same lt in omega (arith, ints, e, to))
      | inr le ↦ (let e = narrowed.to_down le in omega (arith, ints, e, to, greatest))
    ]

    within_now : IsWithin low high new.best
    within_now = by_lt_z range.part tangent.part
        (λ less. let e = (narrowed.better less).0 in let from = searched.from in let to = searched.to in let least = inside.least in let greatest = inside.most in
        record { least = omega (arith, ints, e, from, least); most = omega (arith, ints, e, to, greatest) })
        (λ le. let e = (narrowed.kept le).0 in subst (IsWithin low high) (sym e) searched.within)

    part_now : new.part ≡ part_at pool m weights times most new.best
    part_now = by_lt_z range.part tangent.part
        (λ less. let (e, f) = narrowed.better less in f ∙ is.on ∙ ap (part_at pool m weights times most) (sym e))
        (λ le. let (e, f) = narrowed.kept le in f ∙ searched.part ∙ ap (part_at pool m weights times most) (sym e))

    below_now : (other : ℤ) → low ≤ℤ other → other <ℤ new.from → part_at pool m weights times most other ≤ℤ new.part
    below_now other from less = let old = old_most in let here = here_most in elim (cases_lt tangent.count most) [
      | inl lt ↦ (let e = narrowed.from_same lt in let known = searched.below other from (omega (arith, ints, e, less)) in omega (arith, ints, known, old))
      | inr le ↦ (let e = narrowed.from_up le in let known = none_below m most rise tangent is other le (omega (arith, ints, e, less)) in omega (arith, ints, known, here))
    ]

    beyond_now : (other : ℤ) → other ≤ℤ high → new.to <ℤ other → part_at pool m weights times most other ≤ℤ new.part
    beyond_now other to more = let old = old_most in let here = here_most in elim (cases_lt most tangent.count) [
      | inl lt ↦ (let e = narrowed.to_same lt in let known = searched.beyond other to (omega (arith, ints, e, more)) in omega (arith, ints, known, old))
      | inr le ↦ (let e = narrowed.to_down le in let known = none_beyond m most rise tangent is other le (omega (arith, ints, e, more)) in omega (arith, ints, known, here))
    ]

    pub searched_more : IsSearched pool m weights times most low high new
    searched_more = record { from = from_now; to = to_now; within = within_now; part = part_now; below = below_now; beyond = beyond_now }

    -- and fewer rises are left
    pub fewer : (new.to -ℤ new.from) <ℤ (range.to -ℤ range.from)
    fewer = let least = inside.least in let greatest = inside.most in elim (cases_lt tangent.count most) [
      | inl lt ↦ (let e = narrowed.from_same lt in let f = narrowed.to_down (omega (arith, lt)) in omega (arith, ints, e, f, greatest))
      | inr le ↦ (let e = narrowed.from_up le in elim (cases_lt most tangent.count) [
        | inl less ↦ (let f = narrowed.to_same less in omega (arith, ints, e, f, least))
        | inr more ↦ (let f = narrowed.to_down more in omega (arith, ints, e, f, least, greatest))
      ])
    ]

  -- before any rise is tried, all are left
  pub searched_whole : (m most : ℕ) (low high : ℤ) (range : Range) → range.from ≡ low → range.to ≡ high → IsWithin low high range.best
      → range.part ≡ part_at pool m weights times most range.best → IsSearched pool m weights times most low high range
  searched_whole m most low high range e f within part = record {
    from = omega (arith, ints, e);
    to = omega (arith, ints, f);
    within = within;
    part = part;
    below = λ other from less. absurd (omega (arith, ints, e, from, less));
    beyond = λ other to more. absurd (omega (arith, ints, f, to, more));
  }

  -- once none is left, the best is the best of all
  module _ (m most : ℕ) (low high : ℤ) (range : Range) (searched : IsSearched pool m weights times most low high range) (done : range.to <ℤ range.from) where
    best_of : (other : ℤ) → IsWithin low high other → part_at pool m weights times most other ≤ℤ range.part
    best_of other within = by_lt_z other range.from (searched.below other within.least) (λ le. searched.beyond other within.most (omega (arith, ints, le, done)))

    pub gain_none : range.part <ℤ (part_at pool m weights times most (pos 0) +ℤ pos cost_unit) → IsGain pool m weights times most low high None
    gain_none little = λ other within. let best = best_of other within in omega (arith, ints, best, little)

    pub gain_some : (part_at pool m weights times most (pos 0) +ℤ pos cost_unit) ≤ℤ range.part → IsGain pool m weights times most low high (Some range.best)
    gain_some much = (searched.within, subst (λ (z : ℤ). (part_at pool m weights times most (pos 0) +ℤ pos cost_unit) ≤ℤ z) searched.part much)
