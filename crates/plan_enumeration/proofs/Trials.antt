-- The steps of the enumeration: going on with one activity, coming back, and what is tried then.
--
-- Going on writes the activity's flier and row, and that flier's place, and coming back puts the place as it was. So
-- below the activity nothing has changed, and each aircraft is tried from the same state. All that begins with an
-- assignment begins with one of its next steps, and no cost is below 0: so once each next step was tried, or the cost
-- already reaches the best, nothing that begins so is better.
use Rattle.std.proofs.Common.{◌≡◌, ◌≢◌, ◌∙◌, ℕ, ℤ, pos, ◌+◌, ◌*◌, ◌<◌, ◌≤◌, ◌⊎◌, inl, inr, arith, List, [], ◌∷◌, ◌++◌, length, get_or, take, drop, true, refl, sym, ap, ap₂, subst, append_assoc, add-one, length-append, length-take-le}
use Rattle.std.proofs.lemmas.Int.{ints}
use Rattle.std.proofs.lemmas.Bool.{eqb-true, eq-eqb, both_ways, cases_Bool}
use Rattle.std.proofs.lemmas.List.{append-nil, get_or-set_same, get_or-set_other, take-take, length-set, set-get_or, set-set}
use Rattle.std.proofs.lemmas.List.Elements.{All-take, All-drop, All-append, All-weaker}
use Rattle.std.proofs.Math.Seq.{take-suc-set, take-append_seam, get_or-append_seam}
use Rattle.std.proofs.Math.Nat.{mul-le-mul_right}
use Rattle.std.specs.Prelude.{All, nat_eq, slice_set}
use Rattle.tail_book.specs.declared.limits.TheConstants.{VALUE_LIMIT, LEG_COST_LIMIT}
use Rattle.tail_book.specs.Seen.{BookSeen}
use Rattle.tail_book.specs.declared.place.Place.{Place}
use Rattle.tail_book.specs.declared.place.Place.TheVariants.{Carry, After}
use Rattle.tail_book.specs.Lookup.{activities, aircraft, carry_of, no_tail}
use Rattle.tail_book.specs.Link.{IsLink}
use Rattle.tail_book.specs.Counters.{step, WithinLimits}
use Rattle.tail_book.specs.inside.Route.{counters_after, place_after}
use Rattle.tail_book.specs.Ranges.{IsWithin}
use Rattle.tail_book.specs.inside.Sound.{IsBook}
use Rattle.plan_enumeration.specs.declared.enumerate.Trial.{Trial}
use Rattle.plan_enumeration.specs.declared.enumerate.Best.{Best}
use Rattle.plan_enumeration.specs.declared.enumerate.Advance.{Advance}
use Rattle.tail_book.specs.Cost.{activity_cost, connection_cost}
use Rattle.plan_enumeration.specs.inside.Assignment.{IsLegalAssignment, assignment_cost}
use Rattle.tail_book.specs.inside.FlownInTurn.{route_flown_from, RoutesAreFlownInTurn}
use Rattle.tail_book.specs.Fliers.{route_by}
use Rattle.plan_enumeration.specs.inside.Enumeration.{Advances, AgreesBelow, GoesOn, HasRow, HasTried, IsCounterValue, IsPlaceBefore, IsTrial, end_of_route, row_of, values_after, values_at, width_of, with_row}
use Rattle.tail_book.specs.Place.{IsPlaceOf}
use Rattle.plan_enumeration.proofs.Extended.{completed, cost_more, counters_push, route_flown-other, route_flown-same, legal_more, place_push}
use Rattle.plan_enumeration.proofs.Rows.{row_below, row_of_front, with_row-front, with_row-row, with_row-through, length-with_row}

-- the end of a route lies before the activities that are not yet assigned
end_before : (k i n : ℕ) (x : Place) (who : List ℕ) → IsPlaceBefore i x → n ≡ i + length who → IsPlaceBefore n (place_after x (route_flown_from k i who))
end_before k i n Carry [] before e = tt
end_before k i n (After x) [] before e = omega (arith, before, e)
end_before k i n x (j ∷ who) before e = elim (cases_Bool (nat_eq j k)) [
  | inl t ↦ rw t (end_before k (i + 1) n (After i) who (omega arith) (omega (arith, e)))
  | inr f ↦ rw f (end_before k (i + 1) n x who (later x before) (omega (arith, e)))
]
  where
    later : (y : Place) → IsPlaceBefore i y → IsPlaceBefore (i + 1) y
    later Carry h = tt
    later (After y) h = omega (arith, h)

-- a place before an activity is a place of the book
pub place_of_book : (book : BookSeen) (a : ℕ) (x : Place) → a < activities book → IsPlaceBefore a x → IsPlaceOf book x
place_of_book book a Carry lt before = tt
place_of_book book a (After x) lt before = omega (arith, lt, before)

module _ (in_turn : RoutesAreFlownInTurn) where
  end_lies_before : (k n : ℕ) (who : List ℕ) → n ≡ length who → IsPlaceBefore n (end_of_route k who)
  end_lies_before k n who e =
      subst (λ (r : List ℕ). IsPlaceBefore n (place_after Carry r)) (sym (in_turn k who)) (end_before k 0 n Carry who tt (omega (arith, e)))

  -- of a trial at a, where a is an activity
  module _ (book : BookSeen) (a : ℕ) (trial : Trial) (h : IsTrial book a trial) where
    pub assigned : a ≤ activities book → length (take a trial.fliers.items) ≡ a
    assigned le = let short : a ≤ length trial.fliers.items = omega (arith, h.whole, le) in length-take-le a trial.fliers.items short

    pub place_is_before : (k : ℕ) → k < aircraft book → a ≤ activities book → IsPlaceBefore a (get_or trial.places.items k Carry)
    place_is_before k lt le = rw (h.standing k lt) (end_lies_before k a (take a trial.fliers.items) (omega (arith, assigned le)))

    room : a < activities book → a * width_of book + width_of book ≤ length trial.values.items
    room lt = let below = row_below (width_of book) a (activities book) lt in omega (arith, below, h.one_row_each)

    pub values_are_small : IsBook book → (k : ℕ) → k < aircraft book → a ≤ activities book → All IsCounterValue (values_at book trial.values.items k (get_or trial.places.items k Carry))
    values_are_small sound k lt le = at (get_or trial.places.items k Carry) (place_is_before k lt le)
      where
        fits : a * width_of book ≤ length trial.values.items
        fits = elim (le_cases a (activities book) le) [
          | inl less ↦ let r = room less in omega (arith, r)
          | inr same ↦ rw same (omega (arith, h.one_row_each))
        ]
          where
            le_cases : (m n : ℕ) → m ≤ n → (m < n) ⊎ (m ≡ n)
            le_cases m n e = grind arith

        at : (x : Place) → IsPlaceBefore a x → All IsCounterValue (values_at book trial.values.items k x)
        at Carry before = All-weaker (IsWithin (pos 0) VALUE_LIMIT) IsCounterValue (λ z w. record { least = w.least; most = omega (arith, ints, w.most) }) (carry_of book k) (sound.tails k no_tail lt).carry
        at (After x) before =
            let end = row_below (width_of book) x a before in
            rw (← row_of_front (width_of book) x (a * width_of book) trial.values.items end fits)
            (All-take IsCounterValue (width_of book) (drop (x * width_of book) (take (a * width_of book) trial.values.items)) (All-drop IsCounterValue (x * width_of book) (take (a * width_of book) trial.values.items) h.small))

    -- it goes on from where its aircraft is
    pub goes_on_from : (k : ℕ) (x : Place) → k < aircraft book → a < activities book → x ≡ get_or trial.places.items k Carry → IsLink book k x a
        → WithinLimits book.rules.counters (step book k x a (values_at book trial.values.items k x)) → GoesOn book (take a trial.fliers.items) k
    goes_on_from k x lt in_book at link limits =
        let n = assigned (omega arith) in
        let there : x ≡ end_of_route k (take a trial.fliers.items) = at ∙ h.standing k lt in
        let here : step book k x a (values_at book trial.values.items k x) ≡ step book k (end_of_route k (take a trial.fliers.items)) a (counters_after book k (route_by (take a trial.fliers.items) k)) =
        ap (λ (y : Place). step book k y a (values_at book trial.values.items k y)) there ∙ ap (step book k (end_of_route k (take a trial.fliers.items)) a) (h.counted k lt) in
        record {
          link = subst (λ (b : ℕ). IsLink book k (end_of_route k (take a trial.fliers.items)) b) (sym n) (subst (λ (y : Place). IsLink book k y a) there link);
          limits = subst (λ (b : ℕ). WithinLimits book.rules.counters (step book k (end_of_route k (take a trial.fliers.items)) b (counters_after book k (route_by (take a trial.fliers.items) k)))) (sym n)
              (subst (WithinLimits book.rules.counters) here limits);
        }

    pub goes_on_back : (k : ℕ) (x : Place) → k < aircraft book → a < activities book → x ≡ get_or trial.places.items k Carry → GoesOn book (take a trial.fliers.items) k → IsLink book k x a
        × WithinLimits book.rules.counters (step book k x a (values_at book trial.values.items k x))
    goes_on_back k x lt in_book at goes =
        let n = assigned (omega arith) in
        let there : x ≡ end_of_route k (take a trial.fliers.items) = at ∙ h.standing k lt in
        let here : step book k x a (values_at book trial.values.items k x) ≡ step book k (end_of_route k (take a trial.fliers.items)) a (counters_after book k (route_by (take a trial.fliers.items) k)) =
        ap (λ (y : Place). step book k y a (values_at book trial.values.items k y)) there ∙ ap (step book k (end_of_route k (take a trial.fliers.items)) a) (h.counted k lt) in (
          subst (λ (y : Place). IsLink book k y a) (sym there) (subst (λ (b : ℕ). IsLink book k (end_of_route k (take a trial.fliers.items)) b) n goes.link),
          subst (WithinLimits book.rules.counters) (sym here)
              (subst (λ (b : ℕ). WithinLimits book.rules.counters (step book k (end_of_route k (take a trial.fliers.items)) b (counters_after book k (route_by (take a trial.fliers.items) k)))) n goes.limits),
        )

  -- a row that is written at a leaves the rows before it
  pub agrees_before : (book : BookSeen) (a : ℕ) (trial : Trial) → IsTrial book a trial → a < activities book → (row values : List ℤ) → length row ≡ width_of book
      → values ≡ with_row (width_of book) trial.values.items a row → take (a * width_of book) values ≡ take (a * width_of book) trial.values.items
  agrees_before book a trial h in_book row values wide e =
      ap (take (a * width_of book)) e ∙ with_row-front (width_of book) a trial.values.items row wide (room book a trial h in_book)

  -- going on: activity a flown by aircraft k, its row written
  module _ (book : BookSeen) (a k : ℕ) (old new : Trial) (row : List ℤ) (h : IsTrial book a old) (in_book : a < activities book) (lt : k < aircraft book)
      (fliers : new.fliers.items ≡ slice_set old.fliers.items a k) (places : new.places.items ≡ slice_set old.places.items k (After a))
      (values : new.values.items ≡ with_row (width_of book) old.values.items a row) (wide : length row ≡ width_of book) where
    p : List ℕ
    p = take a old.fliers.items

    one_more : take (a + 1) new.fliers.items ≡ take a old.fliers.items ++ k ∷ []
    one_more =
        let here : a < length old.fliers.items = omega (arith, h.whole, in_book) in
        ap (take (a + 1)) fliers ∙ rw add-one (take-suc-set old.fliers.items a k here)

    pub advanced_fliers : take (a + 1) new.fliers.items ≡ take a old.fliers.items ++ k ∷ []
    advanced_fliers = one_more

    kept_row : (x : ℕ) → x < a → row_of (width_of book) new.values.items x ≡ row_of (width_of book) old.values.items x
    kept_row x before =
        let end = row_below (width_of book) x a before in
        let space = room book a old h in_book in
        let same : take (a * width_of book) (with_row (width_of book) old.values.items a row) ≡ take (a * width_of book) old.values.items = with_row-front (width_of book) a old.values.items row wide space in
        let long : length (with_row (width_of book) old.values.items a row) ≡ length old.values.items = length-with_row (width_of book) a old.values.items row wide space in
        ap (λ (vs : List ℤ). row_of (width_of book) vs x) values
        ∙ sym (row_of_front (width_of book) x (a * width_of book) (with_row (width_of book) old.values.items a row) end (omega (arith, long, space)))
        ∙ ap (λ (vs : List ℤ). row_of (width_of book) vs x) same
        ∙ row_of_front (width_of book) x (a * width_of book) old.values.items end (omega (arith, space))

    kept_values : (j : ℕ) (x : Place) → IsPlaceBefore a x → values_at book new.values.items j x ≡ values_at book old.values.items j x
    kept_values j Carry before = refl
    kept_values j (After x) before = kept_row x before

    new_row : row_of (width_of book) new.values.items a ≡ row
    new_row =
        let space = room book a old h in_book in
        ap (λ (vs : List ℤ). row_of (width_of book) vs a) values ∙ with_row-row (width_of book) a old.values.items row wide space

    module _ (goes : GoesOn book (take a old.fliers.items) k)
        (is : row ≡ step book k (get_or old.places.items k Carry) a (values_at book old.values.items k (get_or old.places.items k Carry))) (small : All IsCounterValue row) where
      n : length (take a old.fliers.items) ≡ a
      n = assigned book a old h (omega arith)

      standing_more : (j : ℕ) → j < aircraft book → get_or new.places.items j Carry ≡ end_of_route j (take a old.fliers.items ++ k ∷ [])
      standing_more j below = elim (cases_Bool (nat_eq k j)) [
        | inl t ↦
            let same : k ≡ j = eqb-true k j t in
            let there : k < length old.places.items = omega (arith, h.one_place_each, lt) in
            let after : end_of_route k (take a old.fliers.items ++ k ∷ []) ≡ After a = ap (place_after Carry) (route_flown-same in_turn k (take a old.fliers.items)) ∙ place_push book k Carry (route_by (take a old.fliers.items) k) (length (take a old.fliers.items)) ∙ ap After n in
            subst (λ (i : ℕ). get_or new.places.items i Carry ≡ end_of_route i (take a old.fliers.items ++ k ∷ [])) same
            (ap (λ (ps : List Place). get_or ps k Carry) places ∙ get_or-set_same old.places.items k (After a) Carry there ∙ sym after)
        | inr f ↦
            let ne : k ≢ j = λ e. both_ways (nat_eq k j) f (eq-eqb k j e) in
            let other : j ≢ k = λ e. ne (sym e) in
            ap (λ (ps : List Place). get_or ps j Carry) places ∙ get_or-set_other old.places.items k j (After a) Carry other ∙ h.standing j below
            ∙ sym (ap (place_after Carry) (route_flown-other in_turn k j (take a old.fliers.items) ne))
      ]

      counted_more : (j : ℕ) → j < aircraft book → values_at book new.values.items j (end_of_route j (take a old.fliers.items ++ k ∷ [])) ≡ counters_after book j (route_by (take a old.fliers.items ++ k ∷ []) j)
      counted_more j below = elim (cases_Bool (nat_eq k j)) [
        | inl t ↦
            let same : k ≡ j = eqb-true k j t in
            let after : end_of_route k (take a old.fliers.items ++ k ∷ []) ≡ After a = ap (place_after Carry) (route_flown-same in_turn k (take a old.fliers.items)) ∙ place_push book k Carry (route_by (take a old.fliers.items) k) (length (take a old.fliers.items)) ∙ ap After n in
            let stepped : row ≡ step book k (end_of_route k (take a old.fliers.items)) a (counters_after book k (route_by (take a old.fliers.items) k)) =
            is ∙ ap (λ (x : Place). step book k x a (values_at book old.values.items k x)) (h.standing k lt) ∙ ap (step book k (end_of_route k (take a old.fliers.items)) a) (h.counted k lt) in
            let counters : counters_after book k (route_by (take a old.fliers.items ++ k ∷ []) k) ≡ step book k (end_of_route k (take a old.fliers.items)) (length (take a old.fliers.items)) (counters_after book k (route_by (take a old.fliers.items) k)) =
            ap (counters_after book k) (route_flown-same in_turn k (take a old.fliers.items)) ∙ counters_push book k Carry (carry_of book k) (route_by (take a old.fliers.items) k) (length (take a old.fliers.items)) in
            subst (λ (i : ℕ). values_at book new.values.items i (end_of_route i (take a old.fliers.items ++ k ∷ [])) ≡ counters_after book i (route_by (take a old.fliers.items ++ k ∷ []) i)) same
            (ap (values_at book new.values.items k) after ∙ new_row ∙ stepped
            ∙ sym (counters ∙ ap (λ (b : ℕ). step book k (end_of_route k (take a old.fliers.items)) b (counters_after book k (route_by (take a old.fliers.items) k))) n))
        | inr f ↦
            let ne : k ≢ j = λ e. both_ways (nat_eq k j) f (eq-eqb k j e) in
            let route : route_by (take a old.fliers.items ++ k ∷ []) j ≡ route_by (take a old.fliers.items) j = route_flown-other in_turn k j (take a old.fliers.items) ne in
            let before : IsPlaceBefore a (end_of_route j (take a old.fliers.items)) = end_lies_before j a (take a old.fliers.items) (omega (arith, n)) in
            ap (λ (r : List ℕ). values_at book new.values.items j (place_after Carry r)) route ∙ kept_values j (end_of_route j (take a old.fliers.items)) before ∙ h.counted j below ∙ sym (ap (counters_after book j) route)
      ]

      pub advanced : IsTrial book (a + 1) new
      advanced =
          let space = room book a old h in_book in
          let long : length (with_row (width_of book) old.values.items a row) ≡ length old.values.items = length-with_row (width_of book) a old.values.items row wide space in
          let same : take (a * width_of book) (with_row (width_of book) old.values.items a row) ≡ take (a * width_of book) old.values.items = with_row-front (width_of book) a old.values.items row wide space in
          record {
            whole = rw fliers (omega (arith, length-set old.fliers.items a k, h.whole));
            one_place_each = rw places (omega (arith, length-set old.places.items k (After a), h.one_place_each));
            one_row_each = rw values (long ∙ h.one_row_each);
            legal = rw one_more (legal_more in_turn book (take a old.fliers.items) k lt (omega (arith, n, in_book)) h.legal goes);
            standing = λ j below. rw one_more (standing_more j below);
            counted = λ j below. rw one_more (counted_more j below);
            small =
                let next : (a + 1) * width_of book ≡ a * width_of book + width_of book = omega arith in
                let rows : take ((a + 1) * width_of book) new.values.items ≡ take (a * width_of book) old.values.items ++ row =
                ap (take ((a + 1) * width_of book)) values ∙ ap (λ (m : ℕ). take m (with_row (width_of book) old.values.items a row)) next ∙ with_row-through (width_of book) a old.values.items row wide space in
                rw rows (All-append IsCounterValue (take (a * width_of book) old.values.items) row h.small small);
          }

  -- what going on leaves
  pub advances : (book : BookSeen) (a k : ℕ) (old mid new : Trial) (advance : Advance) → IsTrial book a old → a < activities book → k < aircraft book → GoesOn book (take a old.fliers.items) k
      → mid.fliers.items ≡ old.fliers.items → mid.places.items ≡ old.places.items → HasRow book a k (get_or old.places.items k Carry) old mid
      → new.fliers.items ≡ slice_set mid.fliers.items a k → new.places.items ≡ slice_set mid.places.items k (After a) → new.values.items ≡ mid.values.items
      → advance.from ≡ get_or mid.places.items k Carry → advance.cost ≡ activity_cost book k a + connection_cost book k advance.from a → advance.cost ≤ LEG_COST_LIMIT
      → Advances book a k old new advance
  advances book a k old mid new advance h in_book lt goes same_fliers same_places row fliers places values from cost most =
      let put_flier : new.fliers.items ≡ slice_set old.fliers.items a k = fliers ∙ ap (λ (l : List ℕ). slice_set l a k) same_fliers in
      let put_place : new.places.items ≡ slice_set old.places.items k (After a) = places ∙ ap (λ (l : List Place). slice_set l k (After a)) same_places in
      let put_row : new.values.items ≡ with_row (width_of book) old.values.items a (values_after book a k (get_or old.places.items k Carry) old.values.items) = values ∙ row.values in
      let at : advance.from ≡ get_or old.places.items k Carry = from ∙ ap (λ (l : List Place). get_or l k Carry) same_places in
      let end : advance.from ≡ end_of_route k (take a old.fliers.items) = at ∙ h.standing k lt in
      let n : length (take a old.fliers.items) ≡ a = assigned book a old h (omega arith) in
      let more : take (a + 1) new.fliers.items ≡ take a old.fliers.items ++ k ∷ [] = advanced_fliers book a k old new (values_after book a k (get_or old.places.items k Carry) old.values.items) h in_book lt put_flier put_place put_row row.wide in
      record {
        goes = goes;
        trial = advanced book a k old new (values_after book a k (get_or old.places.items k Carry) old.values.items) h in_book lt put_flier put_place put_row row.wide goes refl row.small;
        fliers = more;
        front = sym (take-take a (a + 1) new.fliers.items (omega arith)) ∙ ap (take a) more ∙ front_of a (take a old.fliers.items) k n;
        values = ap (take (a * width_of book)) put_row ∙ with_row-front (width_of book) a old.values.items _ row.wide (room book a old h in_book);
        places = put_place;
        from = at;
        cost = cost ∙ ap (λ (x : Place). activity_cost book k a + connection_cost book k x a) end
            ∙ ap (λ (b : ℕ). activity_cost book k b + connection_cost book k (end_of_route k (take a old.fliers.items)) b) (sym n);
        most = most;
      }
    where
      front_of : (b : ℕ) (xs : List ℕ) (j : ℕ) → length xs ≡ b → take b (xs ++ j ∷ []) ≡ xs
      front_of b xs j e = subst (λ (m : ℕ). take m (xs ++ j ∷ []) ≡ xs) e (take-append_seam xs (j ∷ []))

  -- coming back: what agrees below a is again a trial at a
  pub returned : (book : BookSeen) (a : ℕ) (old new : Trial) → a ≤ activities book → IsTrial book a old → AgreesBelow book a old new → length new.fliers.items ≡ activities book
      → length new.values.items ≡ activities book * width_of book → IsTrial book a new
  returned book a old new le h agrees whole rows = record {
    whole = whole;
    one_place_each = rw agrees.places h.one_place_each;
    one_row_each = rows;
    legal = rw agrees.fliers h.legal;
    standing = λ k lt. rw (agrees.places, agrees.fliers) (h.standing k lt);
    counted = λ k lt. rw agrees.fliers (same k (end_of_route k (take a old.fliers.items)) (end_lies_before k a (take a old.fliers.items) (omega (arith, assigned book a old h le))) ∙ h.counted k lt);
    small = rw agrees.values h.small;
  }
    where
      fits : a * width_of book ≤ activities book * width_of book
      fits = mul-le-mul_right (width_of book) le

      same : (k : ℕ) (x : Place) → IsPlaceBefore a x → values_at book new.values.items k x ≡ values_at book old.values.items k x
      same k Carry before = refl
      same k (After x) before =
          let end = row_below (width_of book) x a before in
          sym (row_of_front (width_of book) x (a * width_of book) new.values.items end (omega (arith, fits, rows)))
          ∙ ap (λ (vs : List ℤ). row_of (width_of book) vs x) agrees.values
          ∙ row_of_front (width_of book) x (a * width_of book) old.values.items end (omega (arith, fits, h.one_row_each))

  -- less of a front that is the same is the same
  front_less : {A : Type 0} (m l : ℕ) (xs ys : List A) → m ≤ l → take l xs ≡ take l ys → take m xs ≡ take m ys
  front_less m l xs ys le same = sym (take-take m l xs le) ∙ ap (take m) same ∙ take-take m l ys le

  -- going on and coming back to where the aircraft was leaves what is below a
  pub back_from : (book : BookSeen) (a k : ℕ) (old mid late new : Trial) → AgreesBelow book (a + 1) mid late
      → take a mid.fliers.items ≡ take a old.fliers.items → take (a * width_of book) mid.values.items ≡ take (a * width_of book) old.values.items
      → mid.places.items ≡ slice_set old.places.items k (After a) → new.places.items ≡ slice_set late.places.items k (get_or old.places.items k Carry)
      → new.fliers.items ≡ late.fliers.items → new.values.items ≡ late.values.items → AgreesBelow book a old new
  back_from book a k old mid late new agrees fliers values put back same_fliers same_values = record {
    fliers = ap (take a) same_fliers ∙ front_less a (a + 1) late.fliers.items mid.fliers.items (omega arith) agrees.fliers ∙ fliers;
    places = back ∙ ap (λ (ps : List Place). slice_set ps k (get_or old.places.items k Carry)) (agrees.places ∙ put) ∙ set_back old.places.items k (After a) Carry;
    values = ap (take (a * width_of book)) same_values ∙ front_less (a * width_of book) ((a + 1) * width_of book) late.values.items mid.values.items (omega (arith, more)) agrees.values ∙ values;
  }
    where
      more : (a + 1) * width_of book ≡ a * width_of book + width_of book
      more = omega arith

      set_back : (ps : List Place) (i : ℕ) (x d : Place) → slice_set (slice_set ps i x) i (get_or ps i d) ≡ ps
      set_back ps i x d = set-set ps i x (get_or ps i d) ∙ set-get_or ps i d

  -- nothing that begins with an aircraft that cannot go on is better
  pub tried_nothing : (book : BookSeen) (best : Best) (who : List ℕ) (k : ℕ) → k < aircraft book → ¬ GoesOn book who k → HasTried book best (who ++ k ∷ [])
  tried_nothing book best who k lt stuck rest legal = absurd (stuck (completed in_turn book who k rest lt (rw append_assoc at legal)))

  -- where each aircraft was tried next, all that goes on from there was tried
  pub tried_each : (book : BookSeen) (best : Best) (who : List ℕ) → length who < activities book → ((k : ℕ) → k < aircraft book → HasTried book best (who ++ k ∷ [])) → HasTried book best who
  tried_each book best who short each [] legal = absurd (omega (arith, legal.whole, short, length-append {A = ℕ} who []))
  tried_each book best who short each (k ∷ rest) legal =
      let here : length who < length (who ++ k ∷ rest) = omega (arith, length-append {A = ℕ} who (k ∷ rest)) in
      let lt : k < aircraft book = rw (get_or-append_seam who k rest 0) at (legal.legal.fliers (length who) 0 here) in
      rw append_assoc at (each k lt rest (rw append_assoc legal))

  -- what it costs to have gone on
  pub going_costs : (book : BookSeen) (a k : ℕ) (old new : Trial) (advance : Advance) (cost : ℕ) → k < aircraft book → Advances book a k old new advance
      → cost ≡ assignment_cost book (take a old.fliers.items) → cost + advance.cost ≡ assignment_cost book (take (a + 1) new.fliers.items)
  going_costs book a k old new advance cost lt adv same =
      ap₂ (λ (m l : ℕ). m + l) same adv.cost ∙ sym (cost_more in_turn book (take a old.fliers.items) k lt) ∙ sym (ap (assignment_cost book) adv.fliers)

  -- a trial at an activity, from which each aircraft was tried
  pub tried_from : (book : BookSeen) (a : ℕ) (trial : Trial) (best : Best) → IsTrial book a trial → a < activities book
      → ((k : ℕ) → k < aircraft book → HasTried book best (take a trial.fliers.items ++ k ∷ [])) → HasTried book best (take a trial.fliers.items)
  tried_from book a trial best h lt each = tried_each book best (take a trial.fliers.items) (let n = assigned book a trial h (omega arith) in omega (arith, n, lt)) each

  -- going on costs no less
  costs_no_less : (book : BookSeen) (rest who : List ℕ) → IsLegalAssignment book (who ++ rest) → assignment_cost book who ≤ assignment_cost book (who ++ rest)
  costs_no_less book [] who legal = rw append-nil (omega arith)
  costs_no_less book (k ∷ rest) who legal =
      let same : (who ++ k ∷ []) ++ rest ≡ who ++ k ∷ rest = append_assoc who (k ∷ []) rest in
      let here : length who < length (who ++ k ∷ rest) = omega (arith, length-append {A = ℕ} who (k ∷ rest)) in
      let lt : k < aircraft book = rw (get_or-append_seam who k rest 0) at (legal.legal.fliers (length who) 0 here) in
      let more = cost_more in_turn book who k lt in
      let later = costs_no_less book rest (who ++ k ∷ []) (subst (IsLegalAssignment book) (sym same) legal) in
      let end : assignment_cost book ((who ++ k ∷ []) ++ rest) ≡ assignment_cost book (who ++ k ∷ rest) = ap (assignment_cost book) same in
      omega (arith, more, later, end)

  -- nothing that begins with what already costs as much as the best is better
  pub tried_dear : (book : BookSeen) (best : Best) (who : List ℕ) (cost : ℕ) → cost ≡ assignment_cost book who → best.found ≡ true → best.cost ≤ cost → HasTried book best who
  tried_dear book best who cost same found dear rest legal =
      let less = costs_no_less book rest who legal in
      (found, omega (arith, same, dear, less))
