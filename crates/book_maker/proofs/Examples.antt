-- What the definitions say of small lists, computed by them.
--
-- The rows show that a number is a name's first place, that of two faults the earlier entry or item decides, and that a
-- counter which no item names begins at 0.
use Rattle.std.proofs.Common.{◌≡◌, ℕ, ℤ, pos, List, [], ◌∷◌, Result, Ok, Err, Some, refl}
use Rattle.std.specs.Prelude.{codes}
use Rattle.tail_text.specs.Reading.{refusal_at}
use Rattle.tail_text.specs.declared.refusal.Refusal.{Refusal}
use Rattle.tail_text.specs.declared.refusal.Table.TheVariants.{Fleet}
use Rattle.fleet_rules.specs.declared.tail.RawCarry.{RawCarry}
use Rattle.book_maker.specs.LookedUp.{looked_up_from, looked_up_in}
use Rattle.book_maker.specs.NameNumbers.{distinct_from, distinct_names, number_in, numbers_in}
use Rattle.book_maker.specs.CarryFound.{carry_from, carry_in}

abbrev airports : List (List ℕ)
airports = codes "OSL" ∷ codes "ARN" ∷ codes "BGO" ∷ []

-- a name's number is its place, and an unknown one is refused
numbers : (number_in airports (codes "BGO") ≡ Ok 2) × (number_in airports (codes "CPH") ≡ Err 12)
    × (numbers_in airports (codes "ARN" ∷ codes "OSL" ∷ codes "ARN" ∷ []) ≡ Ok (1 ∷ 0 ∷ 1 ∷ []))
numbers = (refl, refl, refl)

-- a name that comes again keeps its first number
distinct : distinct_names (codes "OSL" ∷ codes "ARN" ∷ codes "OSL" ∷ codes "BGO" ∷ []) ≡ airports
unfolding distinct_from
distinct = refl

-- entries of a fleet that are their own names, and each use an airport
abbrev found : List (List ℕ) → Result (List ℕ) Refusal
found names = looked_up_in Fleet 2 (λ x. Some x) (number_in airports) names

-- the own name comes before the one that is used, and an earlier entry before a later one
entries : (found (codes "ARN" ∷ codes "OSL" ∷ []) ≡ Ok (1 ∷ 0 ∷ [])) × (found (codes "ARN" ∷ codes "CPH" ∷ codes "ARN" ∷ []) ≡ Err (refusal_at 12 Fleet 3))
    × (found (codes "ARN" ∷ codes "ARN" ∷ codes "CPH" ∷ []) ≡ Err (refusal_at 11 Fleet 3))
unfolding looked_up_from
entries = (refl, refl, refl)

abbrev counters : List (List ℕ)
counters = codes "fh" ∷ codes "chk" ∷ []

abbrev item : List ℕ → ℤ → RawCarry
item counter value = record { counter = counter; value = value }

-- a counter that no item names begins at 0; an unknown one comes before a repeated one
carry : (carry_in counters (item (codes "chk") (pos 1000) ∷ []) ≡ Ok (pos 0 ∷ pos 1000 ∷ []))
    × (carry_in counters (item (codes "chk") (pos 1) ∷ item (codes "chk") (pos 2) ∷ []) ≡ Err 11)
    × (carry_in counters (item (codes "ldg") (pos 1) ∷ item (codes "chk") (pos 2) ∷ item (codes "chk") (pos 3) ∷ []) ≡ Err 12)
unfolding carry_from
carry = (refl, refl, refl)
