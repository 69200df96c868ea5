-- The lesser of two floors takes at each counter the smaller value. So it is at or below both, and has as many values,
-- by induction over them; that needs both to have as many, which all floors of a book have. Where only one is a floor
-- it is the lesser one itself. What is smaller does not depend on an order, so the lesser of several floors may be taken
-- in any.
use Rattle.std.specs.Prelude.{⊤}
use Rattle.std.specs.Int.{int_min}
use Rattle.std.proofs.Common.{◌≡◌, ◌∙◌, ℕ, zero, suc, ℤ, ◌<◌, arith, List, [], ◌∷◌, ◌++◌, length, refl, ap, get_or, subst, Option, Some, None}
use Rattle.std.proofs.lemmas.Int.{ints, clamps}
use Rattle.tail_book.specs.CounterOrder.{EachAtMost}
use Rattle.tail_book.specs.inside.Order.{EachAtMostItself}
use Rattle.branch_marks.specs.Floors.{lesser, lesser_floor}

lesser_first : (values others : List ℤ) → length values ≡ length others → EachAtMost (lesser values others) values
lesser_first [] others e = tt
lesser_first (v ∷ values) [] e = absurd (omega (arith, e))
lesser_first (v ∷ values) (w ∷ others) e = (omega (arith, ints, clamps), lesser_first values others (omega (arith, e)))

lesser_second : (values others : List ℤ) → length values ≡ length others → EachAtMost (lesser values others) others
lesser_second [] [] e = tt
lesser_second [] (w ∷ others) e = absurd (omega (arith, e))
lesser_second (v ∷ values) [] e = absurd (omega (arith, e))
lesser_second (v ∷ values) (w ∷ others) e = (omega (arith, ints, clamps), lesser_second values others (omega (arith, e)))

lesser_length : (values others : List ℤ) → length values ≡ length others → length (lesser values others) ≡ length values
lesser_length [] others e = refl
lesser_length (v ∷ values) [] e = absurd (omega (arith, e))
lesser_length (v ∷ values) (w ∷ others) e = let h = lesser_length values others (omega (arith, e)) in omega (arith, h)

lesser_grouped : (us vs ws : List ℤ) → lesser (lesser us vs) ws ≡ lesser us (lesser vs ws)
lesser_grouped [] vs ws = refl
lesser_grouped (u ∷ us) [] ws = refl
lesser_grouped (u ∷ us) (v ∷ vs) [] = refl
lesser_grouped (u ∷ us) (v ∷ vs) (w ∷ ws) =
    let here : int_min (int_min u v) w ≡ int_min u (int_min v w) = omega (arith, ints, clamps) in
    ap (λ (z : ℤ). z ∷ lesser (lesser us vs) ws) here ∙ ap (λ (rest : List ℤ). int_min u (int_min v w) ∷ rest) (lesser_grouped us vs ws)

lesser_turned : (us vs : List ℤ) → lesser us vs ≡ lesser vs us
lesser_turned [] [] = refl
lesser_turned [] (v ∷ vs) = refl
lesser_turned (u ∷ us) [] = refl
lesser_turned (u ∷ us) (v ∷ vs) =
    let here : int_min u v ≡ int_min v u = omega (arith, ints, clamps) in
    ap (λ (z : ℤ). z ∷ lesser us vs) here ∙ ap (λ (rest : List ℤ). int_min v u ∷ rest) (lesser_turned us vs)

pub grouped : (one two three : Option (List ℤ)) → lesser_floor (lesser_floor one two) three ≡ lesser_floor one (lesser_floor two three)
grouped None two three = refl
grouped (Some us) None three = refl
grouped (Some us) (Some vs) None = refl
grouped (Some us) (Some vs) (Some ws) = ap (λ (values : List ℤ). Some values) (lesser_grouped us vs ws)

pub turned : (one other : Option (List ℤ)) → lesser_floor one other ≡ lesser_floor other one
turned None None = refl
turned None (Some vs) = refl
turned (Some us) None = refl
turned (Some us) (Some vs) = ap (λ (values : List ℤ). Some values) (lesser_turned us vs)

-- the floor, if there is one, has n values
abbrev pub IsFull : ℕ → Option (List ℤ) → Type 0
IsFull n None = ⊤
IsFull n (Some values) = length values ≡ n

abbrev pub AreFull : ℕ → List (Option (List ℤ)) → Type 0
AreFull n [] = ⊤
AreFull n (floor ∷ floors) = IsFull n floor × AreFull n floors

pub full_with_one_more : (n : ℕ) (floors : List (Option (List ℤ))) (floor : Option (List ℤ)) → AreFull n floors → IsFull n floor → AreFull n (floors ++ floor ∷ [])
full_with_one_more n [] floor h one = (one, tt)
full_with_one_more n (other ∷ floors) floor h one = (h.0, full_with_one_more n floors floor h.1 one)

pub lesser_full : (n : ℕ) (one other : Option (List ℤ)) → IsFull n one → IsFull n other → IsFull n (lesser_floor one other)
lesser_full n None other h k = k
lesser_full n (Some values) None h k = h
lesser_full n (Some values) (Some others) h k = let e = lesser_length values others (omega (arith, h, k)) in omega (arith, e, h)

-- there is a floor that is at or below these values
abbrev pub IsLowFor : Option (List ℤ) → List ℤ → Type 0
IsLowFor floor values = (low : List ℤ) × (floor ≡ Some low) × EachAtMost low values

module _ (itself : EachAtMostItself) (n : ℕ) where
  pub low_first : (one other : Option (List ℤ)) (values : List ℤ) → IsFull n one → IsFull n other → one ≡ Some values → IsLowFor (lesser_floor one other) values
  low_first None other values h k e = absurd (cc)
  low_first (Some ones) None values h k e = (values, e, itself values)
  low_first (Some ones) (Some others) values h k e =
      let same : ones ≡ values = cc in
      (lesser ones others, refl, subst (λ (v : List ℤ). EachAtMost (lesser ones others) v) same (lesser_first ones others (omega (arith, h, k))))

  pub low_second : (one other : Option (List ℤ)) (values : List ℤ) → IsFull n one → IsFull n other → other ≡ Some values → IsLowFor (lesser_floor one other) values
  low_second None other values h k e = (values, e, itself values)
  low_second (Some ones) None values h k e = absurd (cc)
  low_second (Some ones) (Some others) values h k e =
      let same : others ≡ values = cc in
      (lesser ones others, refl, subst (λ (v : List ℤ). EachAtMost (lesser ones others) v) same (lesser_second ones others (omega (arith, h, k))))

-- a list has no floor past its end, and what is added stands at its end
pub floor_within : (floors : List (Option (List ℤ))) (x : ℕ) (values : List ℤ) → get_or floors x None ≡ Some values → x < length floors
floor_within [] x values e = absurd (cc)
floor_within (floor ∷ floors) zero values e = omega arith
floor_within (floor ∷ floors) (suc x) values e = let h = floor_within floors x values e in omega (arith, h)

pub floor_last : (floors : List (Option (List ℤ))) (floor : Option (List ℤ)) (n : ℕ) → length floors ≡ n → get_or (floors ++ floor ∷ []) n None ≡ floor
floor_last [] floor zero e = refl
floor_last [] floor (suc n) e = absurd (omega (arith, e))
floor_last (other ∷ floors) floor zero e = absurd (omega (arith, e))
floor_last (other ∷ floors) floor (suc n) e = floor_last floors floor n (omega (arith, e))
