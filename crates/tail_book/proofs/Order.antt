-- A step keeps the order of values, counter by counter: reset, cleared or counted on, none of which reads the value.
--
-- So lower values stay lower along a route, by induction on it. Limits bound from above alone, so what is legal with
-- some values is legal with lower ones.
use Rattle.std.proofs.Common.{◌≡◌, ℕ, ℤ, pos, ◌+◌, ◌+ℤ◌, ◌≤ℤ◌, Bool, true, false, cond, arith, List, [], ◌∷◌, length, refl}
use Rattle.std.proofs.lemmas.Int.{ints}
use Rattle.std.proofs.lemmas.Bool.Decides.{Decides-and}
use Rattle.std.specs.Bool.{Decides}
use Rattle.tail_book.specs.Seen.{CounterSeen, BookSeen}
use Rattle.tail_book.specs.declared.place.Place.{Place}
use Rattle.tail_book.specs.declared.place.Place.TheVariants.{After}
use Rattle.tail_book.specs.Numbers.{contains}
use Rattle.tail_book.specs.Lookup.{resets_of}
use Rattle.tail_book.specs.Counters.{step, step_from, is_cleared, amount, WithinLimits}
use Rattle.tail_book.specs.Route.{IsLegalFrom}
use Rattle.tail_book.specs.inside.Route.{counters_from}
use Rattle.tail_book.specs.CounterOrder.{EachAtMost, each_at_most}
use Rattle.tail_book.proofs.Deciding.{int_le_tested, always, never}

pub each_at_most_tested : (values others : List ℤ) → Decides (each_at_most values others) (EachAtMost values others)
each_at_most_tested [] [] = always
each_at_most_tested [] (other ∷ others) = never
each_at_most_tested (value ∷ values) [] = never
each_at_most_tested (value ∷ values) (other ∷ others) = Decides-and _ _ (int_le_tested value other) (each_at_most_tested values others)

pub at_most_itself : (values : List ℤ) → EachAtMost values values
at_most_itself [] = tt
at_most_itself (value ∷ values) = (omega (arith, ints), at_most_itself values)

pub at_most_chained : (values middle others : List ℤ) → EachAtMost values middle → EachAtMost middle others → EachAtMost values others
at_most_chained [] [] others h k = k
at_most_chained [] (m ∷ middle) others h k = absurd h
at_most_chained (v ∷ values) [] others h k = absurd h
at_most_chained (v ∷ values) (m ∷ middle) [] h k = absurd k
at_most_chained (v ∷ values) (m ∷ middle) (w ∷ others) h k = (omega (arith, ints, h.0, k.0), at_most_chained values middle others h.1 k.1)

chosen_more : (reset cleared : Bool) (v w a : ℤ) → v ≤ℤ w
    → cond reset (pos 0) (cond cleared (pos 0) v +ℤ a) ≤ℤ cond reset (pos 0) (cond cleared (pos 0) w +ℤ a)
chosen_more true cleared v w a h = omega (arith, ints)
chosen_more false true v w a h = omega (arith, ints)
chosen_more false false v w a h = omega (arith, ints, h)

step_from_more : (book : BookSeen) (k : ℕ) (x : Place) (b c : ℕ) (counters : List CounterSeen) (values others : List ℤ) → EachAtMost values others
    → EachAtMost (step_from book k x b c counters values) (step_from book k x b c counters others)
step_from_more book k x b c [] values others h = tt
step_from_more book k x b c (counter ∷ counters) [] [] h = tt
step_from_more book k x b c (counter ∷ counters) [] (w ∷ others) h = absurd h
step_from_more book k x b c (counter ∷ counters) (v ∷ values) [] h = absurd h
step_from_more book k x b c (counter ∷ counters) (v ∷ values) (w ∷ others) h =
    let cleared = is_cleared book k x b counter in (
      chosen_more (contains (resets_of book b) c) cleared v w (amount book k x b cleared counter.kind) h.0,
      step_from_more book k x b (c + 1) counters values others h.1,
    )

pub step_more : (book : BookSeen) (k : ℕ) (x : Place) (b : ℕ) (values others : List ℤ) → EachAtMost values others
    → EachAtMost (step book k x b values) (step book k x b others)
step_more book k x b values others h = step_from_more book k x b 0 book.rules.counters values others h

pub route_more : (book : BookSeen) (k : ℕ) (x : Place) (values others : List ℤ) (route : List ℕ) → EachAtMost values others
    → EachAtMost (counters_from book k x values route) (counters_from book k x others route)
route_more book k x values others [] h = h
route_more book k x values others (b ∷ rest) h = route_more book k (After b) _ _ rest (step_more book k x b values others h)

pub within_more : (counters : List CounterSeen) (values others : List ℤ) → EachAtMost values others → WithinLimits counters others → WithinLimits counters values
within_more [] [] others h k = tt
within_more [] (v ∷ values) [] h k = absurd h
within_more [] (v ∷ values) (w ∷ others) h k = absurd k
within_more (counter ∷ counters) [] [] h k = absurd k
within_more (counter ∷ counters) [] (w ∷ others) h k = absurd h
within_more (counter ∷ counters) (v ∷ values) [] h k = absurd h
within_more (counter ∷ counters) (v ∷ values) (w ∷ others) h k = (omega (arith, ints, h.0, k.0), within_more counters values others h.1 k.1)

pub legal_more : (book : BookSeen) (k : ℕ) (x : Place) (values others : List ℤ) (route : List ℕ) → EachAtMost values others
    → IsLegalFrom book k x others route → IsLegalFrom book k x values route
legal_more book k x values others [] h legal = tt
legal_more book k x values others (b ∷ rest) h legal =
    let after = step_more book k x b values others h in
    (legal.0, legal.1, within_more book.rules.counters _ _ after legal.2, legal_more book k (After b) _ _ rest after legal.3)

step_from_count : (book : BookSeen) (k : ℕ) (x : Place) (b c : ℕ) (counters : List CounterSeen) (values : List ℤ) → length values ≡ length counters
    → length (step_from book k x b c counters values) ≡ length counters
step_from_count book k x b c [] values e = refl
step_from_count book k x b c (counter ∷ counters) [] e = absurd (omega (arith, e))
step_from_count book k x b c (counter ∷ counters) (v ∷ values) e =
    let rest = step_from_count book k x b (c + 1) counters values (omega (arith, e)) in omega (arith, rest)

pub step_count : (book : BookSeen) (k : ℕ) (x : Place) (b : ℕ) (values : List ℤ) → length values ≡ length book.rules.counters
    → length (step book k x b values) ≡ length book.rules.counters
step_count book k x b values e = step_from_count book k x b 0 book.rules.counters values e

pub route_count : (book : BookSeen) (k : ℕ) (x : Place) (values : List ℤ) (route : List ℕ) → length values ≡ length book.rules.counters
    → length (counters_from book k x values route) ≡ length book.rules.counters
route_count book k x values [] e = e
route_count book k x values (b ∷ rest) e = route_count book k (After b) _ rest (step_count book k x b values e)
