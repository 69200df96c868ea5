-- Tallies: one activity more, and one route more. The tally at an activity goes from never to once and from there to
-- more often, just as its count goes up, by a law, and at all others both stay. So by induction along each route, and
-- then along the routes, the tally tells the counts.
use Rattle.std.proofs.Common.{◌≡◌, ◌∙◌, ℕ, ◌<◌, ◌+◌, inl, inr, arith, List, [], length, sym, ap, subst, set, take, length-set, get_or}
use Rattle.std.proofs.lemmas.Bool.{cases_eq, eq-eqb, ne_eqb}
use Rattle.std.proofs.lemmas.List.{get_or-set_same, get_or-set_other, take_more}
use Rattle.std.proofs.lemmas.List.Sums.{count_by_more_yes, count_by_more_no}
use Rattle.std.specs.Prelude.{nat_eq}
use Rattle.tail_book.specs.declared.flown.Flown.{Flown}
use Rattle.tail_book.specs.declared.flown.Flown.TheVariants.{Never}
use Rattle.tail_book.specs.inside.Flown.{flown_of_count, flown_one_more, FlownWithOneMore, TimesWithOneMoreRoute}
use Rattle.tail_book.specs.Plan.{times_flown}
use Rattle.dive_heuristic.specs.inside.Flown.{IsTally, times_with, TalliesRoute}

-- a count of one more, on either side of a sum
one_more : FlownWithOneMore → (times here there : ℕ) → there ≡ here + 1 → flown_one_more (flown_of_count (times + here)) ≡ flown_of_count (times + there)
one_more more times here there e =
    sym (more (times + here)) ∙ ap flown_of_count (regroup times here there e)
  where
    regroup : (times here there : ℕ) → there ≡ here + 1 → times + here + 1 ≡ times + there
    regroup times here there e = omega (arith, e)

-- an activity more of the route is counted
module _ (more : FlownWithOneMore) (old tally : List Flown) (route : List ℕ) (i b : ℕ) (v : Flown) (lt : i < length route) (at : get_or route i 0 ≡ b)
    (within : b < length tally) (is : v ≡ flown_one_more (get_or tally b Never)) (notes : TalliesRoute old tally (take i route)) where
  counted : (times : ℕ → ℕ) → IsTally times old → (a : ℕ) → a < length tally
      → get_or (set tally b v) a Never ≡ flown_of_count (times_with times (take (i + 1) route) a)
  counted times start a la = elim (cases_eq a b) [
    | inl same ↦ (let here = count_by_more_yes (nat_eq a) route i 0 lt (eq-eqb a (get_or route i 0) (same ∙ sym at)) in
        ap (λ (z : ℕ). get_or (set tally b v) z Never) same ∙ get_or-set_same tally b v Never within ∙ is
        ∙ ap flown_one_more (ap (λ (z : ℕ). get_or tally z Never) (sym same) ∙ notes.each times start a la)
        ∙ one_more more (times a) _ _ here)
    | inr other ↦ (let here = count_by_more_no (nat_eq a) route i 0 lt (ne_eqb a (get_or route i 0) (λ e. other (e ∙ at))) in
        get_or-set_other tally b a v Never other ∙ notes.each times start a la
        ∙ ap (λ (c : ℕ). flown_of_count (times a + c)) (sym here))
  ]

  pub note_more : TalliesRoute old (set tally b v) (take (i + 1) route)
  note_more = record {
    count = length-set tally b v ∙ notes.count;
    each = λ times start a la. counted times start a (subst (λ (n : ℕ). a < n) (length-set tally b v) la);
  }

-- a route more of the routes is counted
pub tally_more : TimesWithOneMoreRoute → (old new : List Flown) (routes : List (List ℕ)) (k : ℕ) → k < length routes
    → TalliesRoute old new (get_or routes k []) → IsTally (times_flown (take k routes)) old → IsTally (times_flown (take (k + 1) routes)) new
tally_more more old new routes k lt notes tally a la =
    notes.each (times_flown (take k routes)) tally a la
    ∙ ap flown_of_count (sym (ap (λ (front : List (List ℕ)). times_flown front a) (take_more routes k [] lt)
    ∙ more (take k routes) (get_or routes k []) a))
