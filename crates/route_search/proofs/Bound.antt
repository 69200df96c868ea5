-- What buckets bound that are done as far as a limit: along a legal route that fits and weighs no more, a row covers the route's
-- label at each activity, since whatever was left out is past the limit. So at its end an end of the store is no heavier.
use Rattle.std.proofs.Common.{◌≡◌, ℕ, ℤ, pos, ◌+ℤ◌, ◌≤ℤ◌, ◌<ℤ◌, ◌<◌, ◌⊎◌, inl, inr, arith, refl, List, [], ◌∷◌, Option, None, Some, sym, ◌∙◌, ap, subst}
use Rattle.std.proofs.lemmas.Int.{ints}
use Rattle.tail_book.specs.Seen.{BookSeen}
use Rattle.tail_book.specs.TableSeen.{CostTableSeen}
use Rattle.tail_book.specs.declared.place.Place.{Place}
use Rattle.tail_book.specs.declared.place.Place.TheVariants.{Carry, After}
use Rattle.tail_book.specs.Lookup.{activities, aircraft, carry_of}
use Rattle.tail_book.specs.Counters.{step}
use Rattle.tail_book.specs.Route.{IsLegalFrom, IsLegalRoute}
use Rattle.tail_book.specs.CounterOrder.{EachAtMost}
use Rattle.tail_book.specs.inside.Order.{EachAtMostItself, EachAtMostChains, StepsKeepOrder, LowerStaysWithin}
use Rattle.tail_book.specs.inside.Sound.{IsBook}
use Rattle.branch_marks.specs.declared.fact.Fact.{Fact}
use Rattle.branch_marks.specs.inside.Fitting.{FitsIsUsableToItsEnd}
use Rattle.branch_marks.specs.Marks.{Fits, FitsFrom, MayEnd}
use Rattle.branch_marks.specs.Weights.{arc_weight, weight, weight_from, WeightIsAlong, IsLeastWeight, IsRouteOfWeight}
use Rattle.label_store.specs.Seen.{StoreSeen}
use Rattle.label_store.specs.Buckets.{row_at}
use Rattle.pricing.specs.declared.end.RouteEnd.{RouteEnd}
use Rattle.pricing.specs.Rows.{weight_of, counters_of, route_to}
use Rattle.pricing.specs.inside.Ends.{IsAtMost}
use Rattle.pricing.specs.inside.Laws.{KeptRowsAreTrue}
use Rattle.pricing.specs.inside.WeightRange.{IsSmall}
use Rattle.pricing.specs.inside.Truth.{first_row, AreTrue}
use Rattle.pricing.proofs.Families.{row_at_most}
use Rattle.route_search.specs.declared.end.Ends.{Ends}
use Rattle.route_search.specs.LeastWithin.{IsFoundWithin}
use Rattle.route_search.specs.declared.least_within.LeastWithin.{LeastWithin}
use Rattle.route_search.specs.declared.least_within.LeastWithin.TheVariants.{Best, NoneWithin}
use Rattle.route_search.specs.inside.Ends.{IsEndLimit, AreEnds}
use Rattle.route_search.specs.inside.Laws.{BestOrNoneWithin, FittingRestsAreSmall, IsClamped, ClampedCutsFindTheSame}
use Rattle.route_search.specs.inside.Reach.{GoesOnWithin, AreDone}

at_most_more : (best : Option RouteEnd) (most more : ℤ) → most ≤ℤ more → IsAtMost best most → IsAtMost best more
at_most_more None most more le at_most = at_most
at_most_more (Some end) most more le at_most = omega (arith, ints, le, at_most)

nothing_more : (near so_far : ℤ) → near ≤ℤ so_far → near ≤ℤ (so_far +ℤ pos 0)
nothing_more near so_far le = omega (arith, ints, le)

within_yet : (near so_far limit : ℤ) → near ≤ℤ so_far → (so_far +ℤ pos 0) ≤ℤ limit → near ≤ℤ limit
within_yet near so_far limit le most = omega (arith, ints, le, most)

one_arc : (row near so_far arc : ℤ) → near ≤ℤ so_far → row ≤ℤ (near +ℤ arc) → row ≤ℤ (so_far +ℤ arc)
one_arc row near so_far arc le most = omega (arith, ints, le, most)

grouped : (so_far arc rest limit : ℤ) → (so_far +ℤ (arc +ℤ rest)) ≤ℤ limit → ((so_far +ℤ arc) +ℤ rest) ≤ℤ limit
grouped so_far arc rest limit le = omega (arith, ints, le)

ungrouped : (so_far arc rest : ℤ) → ((so_far +ℤ arc) +ℤ rest) ≤ℤ (so_far +ℤ (arc +ℤ rest))
ungrouped so_far arc rest = omega (arith, ints)

not_past : (near so_far arc rest limit : ℤ) → near ≤ℤ so_far → (so_far +ℤ (arc +ℤ rest)) ≤ℤ limit → limit <ℤ ((near +ℤ arc) +ℤ rest) → ⊥
not_past near so_far arc rest limit le most past = absurd (omega (arith, ints, le, most, past))

from_zero : (w limit : ℤ) → w ≤ℤ limit → (pos 0 +ℤ w) ≤ℤ limit
from_zero w limit le = omega (arith, ints, le)

to_zero : (w : ℤ) → (pos 0 +ℤ w) ≤ℤ w
to_zero w = omega (arith, ints)

at_itself : (w : ℤ) → w ≤ℤ w
at_itself w = omega (arith, ints)

in_order : (w limit : ℤ) → (w ≤ℤ limit) ⊎ (limit <ℤ w)
in_order w limit = grind (arith, ints)

beyond : (cut w : ℤ) → cut <ℤ w → (cut +ℤ pos 1) ≤ℤ w
beyond cut w lt = omega (arith, ints, lt)

lower_yet : (value limit w : ℤ) → value ≤ℤ limit → limit <ℤ w → value ≤ℤ w
lower_yet value limit w le lt = omega (arith, ints, le, lt)

not_beyond : (value limit : ℤ) → value ≤ℤ limit → (limit +ℤ pos 1) ≤ℤ value → ⊥
not_beyond value limit le lt = absurd (omega (arith, ints, le, lt))

chain : (value limit cut : ℤ) → value ≤ℤ limit → limit ≤ℤ cut → value ≤ℤ cut
chain value limit cut le most = omega (arith, ints, le, most)

module _ (itself : EachAtMostItself) (chains : EachAtMostChains) (order : StepsKeepOrder) (within : LowerStaysWithin) (along_weight : WeightIsAlong)
    (table : CostTableSeen) (book : BookSeen) (marks : List Fact) (k : ℕ) (duals : List ℤ) (store : StoreSeen) (cut : ℤ) (ends : Ends)
    (done : AreDone table book marks k duals ends.limit store (activities book)) (all : AreEnds book marks k store cut (activities book) ends) where
  -- from a place on, with a row from which it goes on, at most the weight and counters of the route there
  along : (x : Place) (near : List ℤ) (so_far : ℤ) (others : List ℤ) (rest : List ℕ)
      → weight_of near ≤ℤ so_far → EachAtMost (counters_of near) others → GoesOnWithin table book marks k duals ends.limit store x near
      → (MayEnd marks k x → weight_of near ≤ℤ ends.limit → IsAtMost ends.best (weight_of near))
      → IsLegalFrom book k x others rest → FitsFrom book marks k x rest → (so_far +ℤ weight_from table book k duals x rest) ≤ℤ ends.limit
      → IsAtMost ends.best (so_far +ℤ weight_from table book k duals x rest)
  along x near so_far others [] light lower goes may legal fits most =
      at_most_more ends.best (weight_of near) (so_far +ℤ pos 0) (nothing_more (weight_of near) so_far light)
      (may fits (within_yet (weight_of near) so_far ends.limit light most))
  along x near so_far others (b ∷ rest) light lower goes may legal fits most =
      let arc = arc_weight table book k duals x b in
      let after = weight_from table book k duals (After b) rest in
      let lowered = order book k x b (counters_of near) others lower in
      let steps = within book.rules.counters (step book k x b (counters_of near)) (step book k x b others) lowered legal.2 in
      elim (goes b fits.0 steps) [
        | inl covered ↦ (let (j, covers_it) = covered in
            let has = covers_it.0 in
            let covers = covers_it.1 in
            let row = row_at store.rows j in
            let light_row = row_at_most row (weight_of near +ℤ arc) (step book k x b (counters_of near)) covers in
            at_most_more ends.best ((so_far +ℤ arc) +ℤ after) (so_far +ℤ (arc +ℤ after)) (ungrouped so_far arc after)
            (along (After b) row (so_far +ℤ arc) (step book k x b others) rest
            (one_arc (weight_of row) (weight_of near) so_far arc light light_row.0)
            (chains (counters_of row) (step book k x b (counters_of near)) (step book k x b others) light_row.1 lowered)
            (done.next b legal.0 j has) (λ may_end le. all.next b legal.0 may_end j has le) legal.3 fits.1
            (grouped so_far arc after ends.limit most)))
        | inr past ↦ absurd (not_past (weight_of near) so_far arc after ends.limit light most (past rest fits.1))
      ]

  bounded : (route : List ℕ) → IsLegalRoute book k route → Fits book marks k route → weight table book k duals route ≤ℤ ends.limit
      → IsAtMost ends.best (weight table book k duals route)
  bounded route legal fits most =
      let w = weight_from table book k duals Carry route in
      let is = along_weight table book k duals route in
      subst (IsAtMost ends.best) (sym is) (at_most_more ends.best (pos 0 +ℤ w) w (to_zero w)
      (along Carry (first_row book k) (pos 0) (carry_of book k) route (at_itself (pos 0)) (itself (carry_of book k)) done.first all.first legal fits
      (from_zero w ends.limit (subst (λ (v : ℤ). v ≤ℤ ends.limit) is most))))

  none_within : IsEndLimit cut None ends.limit → ((w : ℤ) → IsAtMost ends.best w → ⊥) → (route : List ℕ) → IsLegalRoute book k route → Fits book marks k route
      → (cut +ℤ pos 1) ≤ℤ weight table book k duals route
  none_within limit none route legal fits =
      let w = weight table book k duals route in
      elim (in_order w ends.limit) [
        | inl le ↦ absurd (none w (bounded route legal fits le))
        | inr lt ↦ beyond cut w (subst (λ (v : ℤ). v <ℤ w) limit lt)
      ]

  least_within : (end : RouteEnd) → ((w : ℤ) → IsAtMost ends.best w → end.value ≤ℤ w) → end.value ≤ℤ ends.limit → (route : List ℕ) → IsLegalRoute book k route
      → Fits book marks k route → end.value ≤ℤ weight table book k duals route
  least_within end most limit route legal fits =
      let w = weight table book k duals route in
      elim (in_order w ends.limit) [
        | inl le ↦ most w (bounded route legal fits le)
        | inr lt ↦ lower_yet end.value ends.limit w limit lt
      ]

  attains : KeptRowsAreTrue → FitsIsUsableToItsEnd → IsBook book → k < aircraft book → AreTrue table book marks k duals store → (end : RouteEnd) → ends.best ≡ Some end
      → IsRouteOfWeight table book marks k duals end.value (route_to store end.row)
  attains kept fits sound_book hk truths end is =
      let one = subst (λ (best : Option RouteEnd). AreEnds book marks k store cut (activities book) (record { best = best; limit = ends.limit })) is all in
      let truth = kept table book marks k duals store sound_book hk truths end.row one.one.kept in
      record {
        legal = truth.legal;
        fits = (fits book marks k Carry (route_to store end.row)).1 (truth.usable, subst (λ (x : Place). MayEnd marks k x) (sym truth.place) one.one.may);
        weighs = sym (ap weight_of truth.values) ∙ one.one.weighs;
      }

  exact_for : KeptRowsAreTrue → FitsIsUsableToItsEnd → IsBook book → k < aircraft book → AreTrue table book marks k duals store → (best : Option RouteEnd) → ends.best ≡ best
      → BestOrNoneWithin table book marks k duals store cut best
  exact_for kept fits sound_book hk truths None is = none_within (subst (λ (best : Option RouteEnd). IsEndLimit cut best ends.limit) is all.limit)
      (λ w at_most. subst (λ (best : Option RouteEnd). IsAtMost best w) is at_most)
  exact_for kept fits sound_book hk truths (Some end) is =
      let limit = subst (λ (best : Option RouteEnd). IsEndLimit cut best ends.limit) is all.limit in
      let one = attains kept fits sound_book hk truths end is in (
        record {
          least = least_within end (λ w at_most. subst (λ (best : Option RouteEnd). IsAtMost best w) is at_most) limit.0;
          attained = (route_to store end.row, one);
        },
        one,
        chain end.value ends.limit cut limit.0 limit.1,
      )

  pub exact : KeptRowsAreTrue → FitsIsUsableToItsEnd → IsBook book → k < aircraft book → AreTrue table book marks k duals store
      → BestOrNoneWithin table book marks k duals store cut ends.best
  exact kept fits sound_book hk truths = exact_for kept fits sound_book hk truths ends.best refl

-- a weight that lies within 2^61 of 0 is within a clamped cut exactly where it is within the cut
clamped_value : (value cut clamped : ℤ) → IsClamped cut clamped → IsSmall value → value ≤ℤ clamped → value ≤ℤ cut
clamped_value value cut clamped is small le = elim is.no_more [
  | inl under ↦ chain value clamped cut le under
  | inr end ↦ (let least = small.least in absurd (omega (arith, ints, least, le, end)))
]

clamped_beyond : (w cut clamped : ℤ) → IsClamped cut clamped → IsSmall w → (clamped +ℤ pos 1) ≤ℤ w → (cut +ℤ pos 1) ≤ℤ w
clamped_beyond w cut clamped is small le = elim is.no_less [
  | inl over ↦ omega (arith, ints, over, le)
  | inr end ↦ (let most = small.most in absurd (omega (arith, ints, most, le, end)))
]

pub same : FittingRestsAreSmall → WeightIsAlong → ClampedCutsFindTheSame
same small along table book marks k duals cut clamped (Best value route) sound sound_table for_book in_box is found = (
  found.0,
  found.1,
  clamped_value value cut clamped is
      (subst IsSmall found.1.weighs (subst IsSmall (sym (along table book k duals route))
      (small table book marks k duals Carry route sound sound_table for_book in_box found.1.fits))) found.2,
)
same small along table book marks k duals cut clamped NoneWithin sound sound_table for_book in_box is found = λ route legal fits.
    clamped_beyond (weight table book k duals route) cut clamped is
    (subst IsSmall (sym (along table book k duals route)) (small table book marks k duals Carry route sound sound_table for_book in_box fits))
    (found route legal fits)

-- where the least weight is within a nearer cut, what is found within that is what is found within the cut
pub as_far : (table : CostTableSeen) (book : BookSeen) (marks : List Fact) (k : ℕ) (duals : List ℤ) (value near cut : ℤ)
    → IsLeastWeight table book marks k duals value → value ≤ℤ near → near ≤ℤ cut → (found : LeastWithin)
    → IsFoundWithin table book marks k duals near found → IsFoundWithin table book marks k duals cut found
as_far table book marks k duals value near cut least le more (Best other route) found = (found.0, found.1, chain other near cut found.2 more)
as_far table book marks k duals value near cut least le more NoneWithin found =
    let (route, one) = least.attained in
    absurd (not_beyond value near le (subst (λ (w : ℤ). (near +ℤ pos 1) ≤ℤ w) one.weighs (found route one.legal one.fits)))
