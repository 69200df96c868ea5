-- The counters along a legal route are never negative, and within what a line spells. A stop clears one, or it keeps its value;
-- then b adds its minutes, a landing, or the minutes of the calendar since the aircraft was free, which is before b starts.
use Rattle.std.proofs.Common.{ℕ, ℤ, pos, ◌+◌, ◌^◌, ◌<◌, ◌+ℤ◌, ◌-ℤ◌, ◌≤ℤ◌, arith, true, false, Bool, List, [], ◌∷◌}
use Rattle.std.proofs.lemmas.Int.{ints}
use Rattle.std.proofs.lemmas.List.Elements.{All-nil, All-cons, All-head, All-tail}
use Rattle.std.specs.Prelude.{All, if◌then◌else◌}
use Rattle.tail_book.specs.Seen.{BookSeen, CounterSeen}
use Rattle.tail_book.specs.declared.place.Place.{Place}
use Rattle.tail_book.specs.declared.place.Place.TheVariants.{Carry, After}
use Rattle.tail_book.specs.declared.rules.CounterKind.{CounterKind}
use Rattle.tail_book.specs.declared.rules.CounterKind.TheVariants.{Minutes, Landings, Days}
use Rattle.tail_book.specs.Lookup.{activities, aircraft, carry_of, is_flight, start_of, end_of, resets_of, no_activity, no_tail}
use Rattle.tail_book.specs.Link.{free_from}
use Rattle.tail_book.specs.Numbers.{contains}
use Rattle.tail_book.specs.Counters.{is_cleared, amount, step_one, step_from, step, WithinLimits}
use Rattle.tail_book.specs.Route.{IsLegalFrom, IsLegalRoute}
use Rattle.tail_book.specs.inside.Route.{counters_from, counters_after}
use Rattle.tail_book.specs.inside.Sound.{IsBook, IsLimit, IsCounter}
use Rattle.turn_rules.specs.inside.FreeBefore.{LinksLeaveTime}
use Rattle.branch_marks.specs.Events.{IsLineCounter}

abbrev IsLow : ℤ → Type 0
IsLow z = pos 0 ≤ℤ z

if_low : (t : Bool) (z : ℤ) → IsLow z → IsLow (if t then z else pos 0)
if_low true z low = low
if_low false z low = omega (arith, ints)

sum_low : (reset cleared : Bool) (value more : ℤ) → IsLow value → IsLow more → IsLow (if reset then pos 0 else ((if cleared then pos 0 else value) +ℤ more))
sum_low true cleared value more low adds = omega (arith, ints)
sum_low false true value more low adds = omega (arith, ints, adds)
sum_low false false value more low adds = omega (arith, ints, low, adds)

limit_most : (kind : CounterKind) (limit : ℤ) → IsLimit kind limit → limit ≤ℤ pos (2 ^ 61)
limit_most Minutes limit is = let most = is.most in omega (arith, ints, most)
limit_most Landings limit is = let most = is.most in omega (arith, ints, most)
limit_most Days limit is = let most = is.2.most in let same = is.1 in omega (arith, ints, most, same)

module _ (book : BookSeen) (k : ℕ) (x : Place) (b : ℕ) (lasts : (start_of book b +ℤ pos 1) ≤ℤ end_of book b) (free : IsLow (start_of book b -ℤ free_from book k x)) where
  added_low : (cleared : Bool) (kind : CounterKind) → IsLow (amount book k x b cleared kind)
  added_low cleared Minutes = if_low (is_flight book b) (end_of book b -ℤ start_of book b) (omega (arith, ints, lasts))
  added_low cleared Landings = if_low (is_flight book b) (pos 1) (omega (arith, ints))
  added_low true Days = omega (arith, ints, lasts)
  added_low false Days = omega (arith, ints, lasts, free)

  one_low : (c : ℕ) (counter : CounterSeen) (value : ℤ) → IsLow value → IsLow (step_one book k x b c counter value)
  one_low c counter value low =
      let cleared = is_cleared book k x b counter in
      sum_low (contains (resets_of book b) c) cleared value (amount book k x b cleared counter.kind) low (added_low cleared counter.kind)

  all_low : (c : ℕ) (counters : List CounterSeen) (values : List ℤ) → All IsLow values → All IsLow (step_from book k x b c counters values)
  all_low c [] values low = All-nil IsLow
  all_low c (counter ∷ counters) [] low = All-nil IsLow
  all_low c (counter ∷ counters) (value ∷ values) low =
      All-cons IsLow (step_one book k x b c counter value) (step_from book k x b (c + 1) counters values)
      (one_low c counter value (All-head IsLow value values low)) (all_low (c + 1) counters values (All-tail IsLow value values low))

module _ (book : BookSeen) (sound : IsBook book) (time : LinksLeaveTime) where
  spelled : (counters : List CounterSeen) (values : List ℤ) → All (IsCounter book.rules) counters → WithinLimits counters values → All IsLow values → All IsLineCounter values
  spelled [] [] are within low = All-nil IsLineCounter
  spelled [] (value ∷ values) are within low = absurd within
  spelled (counter ∷ counters) [] are within low = absurd within
  spelled (counter ∷ counters) (value ∷ values) are within low =
      let most = limit_most counter.kind counter.limit (All-head (IsCounter book.rules) counter counters are).limit in
      let below : value ≤ℤ counter.limit = within.0 in
      All-cons IsLineCounter value values (record { least = All-head IsLow value values low; most = omega (arith, ints, below, most) })
      (spelled counters values (All-tail (IsCounter book.rules) counter counters are) within.1 (All-tail IsLow value values low))

  not_negative : (values : List ℤ) → All IsLineCounter values → All IsLow values
  not_negative values are = λ i d less. (are i d less).least

  along : (k : ℕ) (x : Place) (values : List ℤ) (route : List ℕ) → All IsLineCounter values → IsLegalFrom book k x values route
      → All IsLineCounter (counters_from book k x values route)
  along k x values [] are legal = are
  along k x values (b ∷ rest) are legal =
      let lasts = (sound.activities b no_activity legal.0).lasts in
      let free = time book sound k x b legal.1 in
      let low = all_low book k x b lasts free 0 book.rules.counters values (not_negative values are) in
      let next = spelled book.rules.counters (step book k x b values) sound.rules.counters legal.2 low in
      along k (After b) (step book k x b values) rest next legal.3

  pub counters_spelled : (k : ℕ) (route : List ℕ) → k < aircraft book → IsLegalRoute book k route → All IsLineCounter (counters_after book k route)
  counters_spelled k route less legal =
      let carry : All IsLineCounter (carry_of book k) =
      λ i d short. let is = (sound.tails k no_tail less).carry i d short in record { least = is.least; most = (let most = is.most in omega (arith, ints, most)) } in
      along k Carry (carry_of book k) route carry legal
