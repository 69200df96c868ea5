-- Setting flags. What is said of flags is said of those that are not set: one that is not set now was not set before,
-- and is none of the numbers that were set. So it chains, by induction over the numbers, and to set more flags than
-- needed is never wrong. The same for a row from which a floor is taken: it is gone at its number, and all others are
-- as they were.
use Rattle.std.specs.Prelude.{◌≢◌}
use Rattle.std.proofs.Common.{◌≡◌, ◌∙◌, ℕ, ◌<◌, ◌≤◌, Bool, false, arith, List, length, get_or, refl, ap, subst, None}
use Rattle.std.proofs.Math.ListN.{set}
use Rattle.std.proofs.lemmas.Bool.{false_from_ne_true}
use Rattle.std.proofs.lemmas.List.{get_or-set_other, length-set}
use Rattle.std.proofs.lemmas.Grind.{get_or-set_at}
use Rattle.tail_book.specs.Numbers.{contains}
use Rattle.connection_net.specs.inside.Laws.{RowsAreTheirPlaces}
use Rattle.floor_rows.specs.inside.FloorRow.{FloorRowSeen, floor_in, IsSetAt}
use Rattle.propagator.specs.inside.Touching.{is_set, AreSetToo}

-- the first n of the numbers are set
abbrev pub AreSetBelow : List ℕ → ℕ → List Bool → List Bool → Type 0
AreSetBelow numbers n old new = (i : ℕ) → is_set new i ≡ false → (is_set old i ≡ false) × ((j : ℕ) → j < n → get_or numbers j 0 ≢ i)

pub all_set : RowsAreTheirPlaces → (numbers : List ℕ) (n : ℕ) (old new : List Bool) → length numbers ≤ n → AreSetBelow numbers n old new → AreSetToo numbers old new
all_set places numbers n old new le below i e =
    let (was, none) = below i e in
    (was, false_from_ne_true (contains numbers i) (λ t. let (j, lt, at) = places.stands numbers i t in none j (omega (arith, le, lt)) at))

pub set_by : (numbers others : List ℕ) (old new : List Bool) → numbers ≡ others → AreSetToo numbers old new → AreSetToo others old new
set_by numbers others old new e are = subst (λ (xs : List ℕ). AreSetToo xs old new) e are

-- a row from which a floor is taken away
pub cleared : (row next : FloorRowSeen) (b : ℕ) → b < length row.floors → next ≡ record row { floors = set row.floors b None } → IsSetAt b None row next
cleared row next b lt e = record {
  width = ap (λ (r : FloorRowSeen). r.width) e;
  count = ap (λ (r : FloorRowSeen). length r.floors) e ∙ length-set row.floors b None;
  here = ap (λ (r : FloorRowSeen). floor_in r b) e ∙ get_or-set_at row.floors b b None None refl lt;
  others = λ a ne. ap (λ (r : FloorRowSeen). floor_in r a) e ∙ get_or-set_other row.floors b a None None ne;
}
