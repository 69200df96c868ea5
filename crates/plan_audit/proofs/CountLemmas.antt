-- The counters of a leg, one after the other: what was passed is stepped, and what is left is stepped from its number
-- on. A leg brings a counter no farther than the minutes of the calendar, so fewer than 2^64 legs leave it within 128
-- bits.
use Rattle.std.proofs.Common.{◌≡◌, ℕ, ◌+◌, ◌<◌, ℤ, pos, arith, List, [], ◌∷◌, ◌++◌, length, get_or, set, take, drop, sym, refl, ◌∙◌, ap, ap₂, append_assoc}
use Rattle.std.proofs.lemmas.List.{drop_more, take_more_set}
use Rattle.tail_book.specs.Seen.{CounterSeen, BookSeen}
use Rattle.tail_book.specs.Lookup.{aircraft, carry_of, no_tail}
use Rattle.tail_book.specs.inside.Sound.{IsBook}
use Rattle.tail_book.specs.declared.place.Place.{Place}
use Rattle.tail_book.specs.declared.place.Place.TheVariants.{Carry, After}
use Rattle.tail_book.specs.Counters.{step_one, step_from}
use Rattle.std.proofs.lemmas.Int.{ints}
use Rattle.std.specs.Prelude.{◌≤◌, ◌^◌, FitsSigned}
use mir.Syntax.{w128}
use Rattle.plan_audit.specs.inside.PastLimits.{value_before, IsWithinLegs}
use Rattle.plan_audit.specs.Rules.{values_before}

-- a counter before the leg, among all of them
pub read_before : (book : BookSeen) (k : ℕ) (x : Place) (c : ℕ) (values : List ℤ)
    → get_or (values_before book k x values) c (pos 0) ≡ value_before book k x c (get_or values c (pos 0))
read_before book k Carry c values = refl
read_before book k (After a) c values = refl

pub length_before : (book : BookSeen) (k : ℕ) (x : Place) (values : List ℤ) (n : ℕ) → length (carry_of book k) ≡ n → length values ≡ n → length (values_before book k x values) ≡ n
length_before book k Carry values n carry same = carry
length_before book k (After a) values n carry same = same

module _ (book : BookSeen) (k : ℕ) (x : Place) (b : ℕ) where
  -- one counter more is stepped
  pub step_from-more : (counters : List CounterSeen) (old values all : List ℤ) (c : ℕ) (counter : CounterSeen) (next : ℤ)
      → c < length counters → c < length old → c < length values → counter ≡ get_or counters c counter
      → next ≡ step_one book k x b c counter (get_or old c (pos 0))
      → all ≡ take c values ++ step_from book k x b c (drop c counters) (drop c old)
      → all ≡ take (c + 1) (set values c next) ++ step_from book k x b (c + 1) (drop (c + 1) counters) (drop (c + 1) old)
  step_from-more counters old values all c counter next in_counters in_old in_values is_counter is_next so_far =
      let rest = step_from book k x b (c + 1) (drop (c + 1) counters) (drop (c + 1) old) in
      let read : drop c counters ≡ counter ∷ drop (c + 1) counters = drop_more counters c counter in_counters ∙ ap (λ y. y ∷ drop (c + 1) counters) (sym is_counter) in
      so_far
      ∙ ap (λ r. take c values ++ r) (ap₂ (step_from book k x b c) read (drop_more old c (pos 0) in_old))
      ∙ ap (λ v. take c values ++ v ∷ rest) (sym is_next)
      ∙ sym (append_assoc (take c values) (next ∷ []) rest)
      ∙ ap (λ t. t ++ rest) (sym (take_more_set values c next in_values))

-- what so many legs can bring fits into 128 bits
pub fits : (legs : ℕ) (value : ℤ) → legs ≤ 2 ^ 64 + 1 → IsWithinLegs legs value → FitsSigned w128 value
fits legs value few h = omega (arith, ints, h.least, h.most)

-- an aircraft comes in with a value for each counter
pub carry_width : (book : BookSeen) (k : ℕ) → IsBook book → k < aircraft book → length (carry_of book k) ≡ length book.rules.counters
carry_width book k sound within = (sound.tails k no_tail within).one_carry_each
