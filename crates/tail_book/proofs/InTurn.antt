-- The route of aircraft k is the list of activities whose flier is k. A pass over the fliers finds it, by induction on the
-- fliers that are left: each adds its activity or nothing. So it is for the plan, by the aircraft that are left.
use Rattle.std.proofs.Common.{◌≡◌, ◌∙◌, ℕ, suc, ◌+◌, ◌-◌, ◌<◌, inl, inr, Bool, true, false, cond, arith, List, [], ◌∷◌, ◌++◌, length, get_or, drop, refl, ap, sym, append_assoc, if◌then◌else◌}
use Rattle.std.specs.Prelude.{nat_eq}
use Rattle.std.specs.List.{filter, range_with_len}
use Rattle.std.proofs.Math.Seq.{get_or-append_seam}
use Rattle.std.proofs.lemmas.Bool.{cases_eq, eq-eqb, ne_eqb}
use Rattle.std.proofs.lemmas.List.{drop_more, length_push}
use Rattle.tail_book.specs.Fliers.{route_by}
use Rattle.tail_book.specs.inside.FlownInTurn.{route_flown_from, routes_from, RoutesAreFlownInTurn}

turned : (k j : ℕ) → nat_eq k j ≡ nat_eq j k
turned k j = elim (cases_eq k j) [
  | inl e ↦ eq-eqb k j e ∙ sym (eq-eqb j k (sym e))
  | inr ne ↦ ne_eqb k j ne ∙ sym (ne_eqb j k (λ e. ne (sym e)))
]

-- what is left of the fliers gives what is left of the route
one_by_one : (k : ℕ) (front who : List ℕ) → filter (λ a. nat_eq k (get_or (front ++ who) a 0)) (range_with_len (length front) (length who)) ≡ route_flown_from k (length front) who
one_by_one k front [] = refl
one_by_one k front (j ∷ who) =
    let here : nat_eq k (get_or (front ++ j ∷ who) (length front) 0) ≡ nat_eq j k = ap (nat_eq k) (get_or-append_seam front j who 0) ∙ turned k j in
    let whole : (front ++ j ∷ []) ++ who ≡ front ++ j ∷ who = append_assoc front (j ∷ []) who in
    let more : length (front ++ j ∷ []) ≡ length front + 1 = length_push front j in
    let later = one_by_one k (front ++ j ∷ []) who in
    rw here (chosen (nat_eq j k) (rw (whole, more) at later))
  where
    chosen : (b : Bool) → filter (λ a. nat_eq k (get_or (front ++ j ∷ who) a 0)) (range_with_len (length front + 1) (length who)) ≡ route_flown_from k (length front + 1) who
        → cond b (length front ∷ filter (λ a. nat_eq k (get_or (front ++ j ∷ who) a 0)) (range_with_len (length front + 1) (length who)))
        (filter (λ a. nat_eq k (get_or (front ++ j ∷ who) a 0)) (range_with_len (length front + 1) (length who)))
        ≡ (if b then length front ∷ route_flown_from k (length front + 1) who else route_flown_from k (length front + 1) who)
    chosen true e = ap (λ (t : List ℕ). length front ∷ t) e
    chosen false e = e

pub in_turn : RoutesAreFlownInTurn
in_turn k who = one_by_one k [] who

-- a turn of the loop over the fliers
module _ (k a : ℕ) (fliers done : List ℕ) (j : ℕ) (lt : a < length fliers) (here : j ≡ get_or fliers a 0) where
  next : drop a fliers ≡ j ∷ drop (a + 1) fliers
  next = drop_more fliers a 0 lt ∙ ap (λ (i : ℕ). i ∷ drop (a + 1) fliers) (sym here)

pub route_turn : (k count : ℕ) (fliers : List ℕ) (all done : List (List ℕ)) (route : List ℕ) → k < count → route ≡ route_by fliers k
    → all ≡ done ++ routes_from k (count - k) fliers → all ≡ (done ++ route ∷ []) ++ routes_from (k + 1) (count - (k + 1)) fliers
route_turn k count fliers all done route lt is h =
    let one : count - k ≡ suc (count - (k + 1)) = omega arith in
    h ∙ rw (one, is) (sym (append_assoc done (route_by fliers k ∷ []) (routes_from (k + 1) (count - (k + 1)) fliers)))
