-- Completions: of the rests that begin with an activity the least is what the link adds and the least behind that activity, and
-- with one activity more to begin with the least is the lesser of the two. A connection costs nothing or more, so where what an
-- activity adds and the least behind it are no less than the least so far, no rest that begins with it is lighter.
use Rattle.std.proofs.Common.{◌≡◌, ℕ, ℤ, ◌+ℤ◌, ◌-ℤ◌, ◌≤ℤ◌, ◌+◌, ◌*◌, ◌<◌, arith, inl, inr, ◌⊎◌, List, [], ◌∷◌, Option, None, Some, sym, ◌∙◌, ap, subst}
use Rattle.std.specs.Prelude.{pos, slice_index_or, int_lt}
use Rattle.std.specs.Int.{int_min}
use Rattle.std.proofs.lemmas.Bool.{cases_lt}
use Rattle.std.proofs.lemmas.Int.{ints, clamps}
use Rattle.tail_book.specs.Seen.{BookSeen}
use Rattle.tail_book.specs.TableSeen.{CostTableSeen}
use Rattle.tail_book.specs.declared.place.Place.{Place}
use Rattle.tail_book.specs.declared.place.Place.TheVariants.{After}
use Rattle.tail_book.specs.CostTable.{IsCostTable, IsTableFor, cost_unit, activity_cost_in, connection_cost_in}
use Rattle.tail_book.specs.inside.Sound.{IsBook}
use Rattle.tail_book.proofs.Picked.{picked}
use Rattle.branch_marks.specs.declared.fact.Fact.{Fact}
use Rattle.branch_marks.specs.Marks.{IsUsable, FitsFrom}
use Rattle.branch_marks.specs.Settled.{AreDuals}
use Rattle.branch_marks.specs.Weights.{arc_weight, dual, weight_from}
use Rattle.pricing.specs.inside.WeightRange.{IsSmall}
use Rattle.route_search.specs.declared.completion.Way.{Way}
use Rattle.route_search.specs.inside.Completion.{BeginsAmong, IsAttained, IsBehind, IsLeastAmong, IsCompletion, IsNoLess, IsWay, IsWayOrNone, lesser_weight, least_of}
use Rattle.route_search.specs.inside.Laws.{FittingRestsAreSmall}
use Rattle.route_search.specs.inside.Task.{IsAdded}

more_on_left : (arc low rest : ℤ) → low ≤ℤ rest → (arc +ℤ low) ≤ℤ (arc +ℤ rest)
more_on_left arc low rest le = omega (arith, ints, le)

least_low : (w one other : ℤ) → one ≤ℤ w → int_min one other ≤ℤ w
least_low w one other le = omega (arith, ints, clamps, le)

least_other : (w one other : ℤ) → other ≤ℤ w → int_min one other ≤ℤ w
least_other w one other le = omega (arith, ints, clamps, le)

connections_add : (activity connection : ℕ) (d : ℤ) → (pos (cost_unit * activity) -ℤ d) ≤ℤ (pos (cost_unit * (activity + connection)) -ℤ d)
connections_add activity connection d = omega (arith, ints)

both_no_less : (added arc rest behind : ℤ) → added ≤ℤ arc → rest ≤ℤ behind → (added +ℤ rest) ≤ℤ (arc +ℤ behind)
both_no_less added arc rest behind le more = omega (arith, ints, le, more)

no_less_yet : (low sum all : ℤ) → low ≤ℤ sum → sum ≤ℤ all → low ≤ℤ all
no_less_yet low sum all le more = omega (arith, ints, le, more)

module _ (table : CostTableSeen) (book : BookSeen) (marks : List Fact) (k : ℕ) (duals : List ℤ) where
  -- what an activity adds is at most what it adds over any link
  added_at_most : (x : Place) (b : ℕ) (added : ℤ) → IsAdded table k duals b added → added ≤ℤ arc_weight table book k duals x b
  added_at_most x b added is = subst (λ (z : ℤ). z ≤ℤ arc_weight table book k duals x b) (sym is.value)
      (connections_add (activity_cost_in table k b) (connection_cost_in table book k x b) (dual duals b))

  -- so it is, with the least behind it, at most what a rest weighs that begins with it
  pub least_through : (x : Place) (b : ℕ) (added low : ℤ) → IsAdded table k duals b added → IsBehind table book marks k duals b (Some low)
      → IsUsable book marks k x b → (rest : List ℕ) → FitsFrom book marks k (After b) rest
      → (added +ℤ low) ≤ℤ (arc_weight table book k duals x b +ℤ weight_from table book k duals (After b) rest)
  least_through x b added low is behind usable rest fits =
      both_no_less added (arc_weight table book k duals x b) low (weight_from table book k duals (After b) rest)
      (added_at_most x b added is) ((behind usable.after).0 rest fits)

  -- a rest behind b is one from x on that begins with b
  attained_through : (x : Place) (b : ℕ) (low : ℤ) → IsUsable book marks k x b → IsAttained table book marks k duals (After b) low
      → IsAttained table book marks k duals x (arc_weight table book k duals x b +ℤ low)
  attained_through x b low usable attained = record {
    rest = b ∷ attained.rest;
    fits = (usable, attained.fits);
    weighs = ap (λ (w : ℤ). arc_weight table book k duals x b +ℤ w) attained.weighs;
  }

  pub through_is_small : FittingRestsAreSmall → IsBook book → IsCostTable table → IsTableFor book table → AreDuals table book duals
      → (x : Place) (b : ℕ) (low : ℤ) → IsUsable book marks k x b → IsCompletion table book marks k duals (After b) (Some low)
      → IsSmall (arc_weight table book k duals x b +ℤ low)
  through_is_small small sound sound_table for_book in_box x b low usable completion =
      let attained = attained_through x b low usable completion.1 in
      subst IsSmall attained.weighs (small table book marks k duals x attained.rest sound sound_table for_book in_box attained.fits)

  pub is_way : (x : Place) (b : ℕ) (low arc least : ℤ) → IsUsable book marks k x b → IsCompletion table book marks k duals (After b) (Some low)
      → arc ≡ arc_weight table book k duals x b → least ≡ arc +ℤ low → IsWay table book marks k duals x b (record { arc = arc; least = least })
  is_way x b low arc least usable completion arc_is least_is =
      let is : least ≡ arc_weight table book k duals x b +ℤ low = least_is ∙ ap (λ (w : ℤ). w +ℤ low) arc_is in
      record {
        usable = usable;
        arc = arc_is;
        least = λ rest fits. subst (λ (w : ℤ). w ≤ℤ (arc_weight table book k duals x b +ℤ weight_from table book k duals (After b) rest)) (sym is)
            (more_on_left (arc_weight table book k duals x b) low (weight_from table book k duals (After b) rest) (completion.0 rest fits));
        attained = subst (IsAttained table book marks k duals x) (sym is) (attained_through x b low usable completion.1);
      }

  lesser_attained : (x : Place) (one other : ℤ) → IsAttained table book marks k duals x one → IsAttained table book marks k duals x other
      → IsAttained table book marks k duals x (int_min one other)
  lesser_attained x one other first next = elim (picked (int_lt other one) one other) [
    | inl is ↦ subst (IsAttained table book marks k duals x) (sym is) first
    | inr is ↦ subst (IsAttained table book marks k duals x) (sym is) next
  ]

  -- the rest begins with one of the activities before place i + 1: with one before place i, or with that at i
  begins_so : (firsts : List ℕ) (i b : ℕ) → ((q : ℕ) × (q < i + 1) × (slice_index_or firsts q 0 ≡ b))
      → (((q : ℕ) × (q < i) × (slice_index_or firsts q 0 ≡ b)) ⊎ (slice_index_or firsts i 0 ≡ b))
  begins_so firsts i b (q, lt, is) = elim (cases_lt q i) [
    | inl less ↦ inl (q, less, is)
    | inr more ↦ let at : i ≡ q = omega (arith, lt, more) in inr (ap (λ (m : ℕ). slice_index_or firsts m 0) at ∙ is)
  ]

  -- what is known of rests that begin with one of the first i, and of those that begin with the next
  with_next : (P : List ℕ → Type 0) (firsts : List ℕ) (i : ℕ) → ((rest : List ℕ) → BeginsAmong firsts i rest → P rest)
      → ((rest : List ℕ) → P (slice_index_or firsts i 0 ∷ rest)) → (rest : List ℕ) → BeginsAmong firsts (i + 1) rest → P rest
  with_next P firsts i among here [] begins = among [] tt
  with_next P firsts i among here (b ∷ rest) begins = elim (begins_so firsts i b begins) [
    | inl before ↦ among (b ∷ rest) before
    | inr is ↦ subst (λ (a : ℕ). P (a ∷ rest)) is (here rest)
  ]

  pub among_one_more : (x : Place) (firsts : List ℕ) (i : ℕ) (low : Option ℤ) (way : Option Way) → IsLeastAmong table book marks k duals x firsts i low
      → IsWayOrNone table book marks k duals x (slice_index_or firsts i 0) way → IsLeastAmong table book marks k duals x firsts (i + 1) (lesser_weight low (least_of way))
  among_one_more x firsts i None None among here = with_next (λ (rest : List ℕ). ¬ FitsFrom book marks k x rest) firsts i among here
  among_one_more x firsts i None (Some way) among here = (
    with_next (λ (rest : List ℕ). FitsFrom book marks k x rest → way.least ≤ℤ weight_from table book k duals x rest) firsts i
        (λ rest begins fits. absurd (among rest begins fits)) (λ rest fits. here.least rest fits.1),
    here.attained,
  )
  among_one_more x firsts i (Some low) None among here = (
    with_next (λ (rest : List ℕ). FitsFrom book marks k x rest → low ≤ℤ weight_from table book k duals x rest) firsts i
        among.0 (λ rest fits. absurd (here rest fits)),
    among.1,
  )
  among_one_more x firsts i (Some low) (Some way) among here = (
    with_next (λ (rest : List ℕ). FitsFrom book marks k x rest → int_min low way.least ≤ℤ weight_from table book k duals x rest) firsts i
        (λ rest begins fits. least_low (weight_from table book k duals x rest) low way.least (among.0 rest begins fits))
        (λ rest fits. least_other (weight_from table book k duals x (slice_index_or firsts i 0 ∷ rest)) low way.least (here.least rest fits.1)),
    lesser_attained x low way.least among.1 here.attained,
  )

  -- with one activity more to begin with it stays the least, where that one is no lighter
  pub among_no_less : (x : Place) (firsts : List ℕ) (i b : ℕ) (added : ℤ) (rest least : Option ℤ) → IsAdded table k duals b added
      → IsBehind table book marks k duals b rest → IsNoLess added rest least → slice_index_or firsts i 0 ≡ b
      → IsLeastAmong table book marks k duals x firsts i least → IsLeastAmong table book marks k duals x firsts (i + 1) least
  among_no_less x firsts i b added None least is behind no_less at among = absurd no_less
  among_no_less x firsts i b added (Some rest) None is behind no_less at among = absurd no_less
  among_no_less x firsts i b added (Some rest) (Some low) is behind no_less at among = (
    with_next (λ (tail : List ℕ). FitsFrom book marks k x tail → low ≤ℤ weight_from table book k duals x tail) firsts i among.0
        (λ tail. subst (λ (a : ℕ). FitsFrom book marks k x (a ∷ tail) → low ≤ℤ weight_from table book k duals x (a ∷ tail)) (sym at)
        (λ fits. no_less_yet low (added +ℤ rest) (weight_from table book k duals x (b ∷ tail)) no_less
        (least_through x b added rest is behind fits.0 tail fits.1))),
    among.1,
  )

  all_begin : (x : Place) (firsts : List ℕ) (i : ℕ) → ((b : ℕ) → IsUsable book marks k x b → (q : ℕ) × (q < i) × (slice_index_or firsts q 0 ≡ b))
      → (rest : List ℕ) → FitsFrom book marks k x rest → BeginsAmong firsts i rest
  all_begin x firsts i each [] fits = tt
  all_begin x firsts i each (b ∷ rest) fits = each b fits.0

  pub among_all : (x : Place) (firsts : List ℕ) (i : ℕ) (low : Option ℤ)
      → ((b : ℕ) → IsUsable book marks k x b → (q : ℕ) × (q < i) × (slice_index_or firsts q 0 ≡ b))
      → IsLeastAmong table book marks k duals x firsts i low → IsCompletion table book marks k duals x low
  among_all x firsts i None each among = λ rest fits. among rest (all_begin x firsts i each rest fits) fits
  among_all x firsts i (Some low) each among = (λ rest fits. among.0 rest (all_begin x firsts i each rest fits) fits, among.1)
