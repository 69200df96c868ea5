-- Sweep after sweep: the sum is no less, and what is left up to its bound falls until nothing moves. A visit that moves
-- a dual gains a cost unit; one that moves none takes the mark of its activity away and sets no other. So a sweep that
-- moves none ends with no mark, and what is not marked is settled.
use Rattle.std.proofs.Common.{◌≡◌, ◌<◌, ◌+◌, ◌≤ℤ◌, ◌+ℤ◌, ◌-ℤ◌, ℕ, ℤ, pos, negsuc, arith, refl, ◌∙◌, ap, inl, inr, Bool, true, false, List, Option, Some}
use Rattle.std.proofs.lemmas.Int.{ints}
use Rattle.std.proofs.lemmas.Bool.{both_ways, cases_eq}
use Rattle.std.specs.Prelude.{if◌then◌else◌, IsSome, is_some}
use Rattle.tail_book.specs.Seen.{BookSeen}
use Rattle.tail_book.specs.TableSeen.{CostTableSeen}
use Rattle.tail_book.specs.CostTable.{cost_unit}
use Rattle.branch_marks.specs.Bound.{bound_of}
use Rattle.branch_marks.specs.Pool.{Pooled, sum_in}
use Rattle.restricted_master.specs.inside.Moving.{is_due, IsSettledAt, Sweeps, Visits}

bound_is : (z : ℤ) → pos 0 ≤ℤ z → pos (bound_of z) ≡ z
bound_is (pos n) le = refl
bound_is (negsuc n) le = absurd (omega (arith, ints, le))

-- a sweep that moves a dual leaves less up to the bound, and one that moves none is the last
pub room_falls : (bound before after : ℤ) (moved later : Bool) → moved ≡ true → before ≤ℤ bound → after ≤ℤ bound
    → (later ≡ true → (before +ℤ pos cost_unit) ≤ℤ after) → (later ≡ false → after ≡ before)
    → bound_of (bound -ℤ after) + (if later then 1 else 0) < bound_of (bound -ℤ before) + (if moved then 1 else 0)
room_falls bound before after false later now le after_le gains stays = absurd (both_ways false refl now)
room_falls bound before after true true now le after_le gains stays =
    let one = bound_is (bound -ℤ after) (omega (arith, ints, after_le)) in
    let two = bound_is (bound -ℤ before) (omega (arith, ints, le)) in
    let gain = gains refl in
    omega (arith, ints, one, two, gain)
room_falls bound before after true false now le after_le gains stays =
    let one = bound_is (bound -ℤ after) (omega (arith, ints, after_le)) in
    let two = bound_is (bound -ℤ before) (omega (arith, ints, le)) in
    let same = stays refl in
    omega (arith, ints, one, two, same)

module _ (table : CostTableSeen) (book : BookSeen) (pool : List Pooled) (count : ℕ) (old new : List ℤ) where
  pub sweeps_true : (b : Bool) → Sweeps table book pool count old new b → b ≡ true → (sum_in table book old pool +ℤ pos cost_unit) ≤ℤ sum_in table book new pool
  sweeps_true true s e = s
  sweeps_true false s e = absurd (both_ways false refl e)

  pub sweeps_false : (b : Bool) → Sweeps table book pool count old new b → b ≡ false → (new ≡ old) × ((a : ℕ) → a < count → IsSettledAt table book pool new a)
  sweeps_false true s e = absurd (both_ways true e refl)
  sweeps_false false s e = s

  pub sweeps_same_sum : (b : Bool) → Sweeps table book pool count old new b → b ≡ false → sum_in table book new pool ≡ sum_in table book old pool
  sweeps_same_sum b s e = ap (λ (us : List ℤ). sum_in table book us pool) (sweeps_false b s e).0

  pub sweeps_no_less : (b : Bool) → Sweeps table book pool count old new b → sum_in table book old pool ≤ℤ sum_in table book new pool
  sweeps_no_less true s = omega (arith, ints, s)
  sweeps_no_less false s = let same = ap (λ (us : List ℤ). sum_in table book us pool) s.0 in omega (arith, ints, same)

-- one visit more in a sweep
module _ (table : CostTableSeen) (book : BookSeen) (pool : List Pooled) (a : ℕ) (initial old new : List ℤ) (before after : List Bool) where
  pub still_more : (moved : Bool) → Visits table book pool a old new before after false → (moved ≡ false → (old ≡ initial) × ((b : ℕ) → b < a → is_due before b ≡ false))
      → moved ≡ false → (new ≡ initial) × ((b : ℕ) → b < a + 1 → is_due after b ≡ false)
  still_more moved visited still e =
      let (same, none) = still e in (
        visited.0 ∙ same,
        λ b lt. elim (cases_eq b a) [
          | inl h ↦ ap (is_due after) h ∙ visited.1
          | inr ne ↦ visited.2 b (none b (omega (arith, lt, ne)))
        ],
      )

  pub risen_same : (moved : Bool) → Visits table book pool a old new before after false
      → (moved ≡ true → (sum_in table book initial pool +ℤ pos cost_unit) ≤ℤ sum_in table book old pool)
      → moved ≡ true → (sum_in table book initial pool +ℤ pos cost_unit) ≤ℤ sum_in table book new pool
  risen_same moved visited risen e =
      let gain = risen e in let same = ap (λ (us : List ℤ). sum_in table book us pool) visited.0 in omega (arith, ints, gain, same)

  pub risen_more : (moved : Bool) → Visits table book pool a old new before after true
      → (moved ≡ true → (sum_in table book initial pool +ℤ pos cost_unit) ≤ℤ sum_in table book old pool)
      → (moved ≡ false → (old ≡ initial) × ((b : ℕ) → b < a → is_due before b ≡ false))
      → (sum_in table book initial pool +ℤ pos cost_unit) ≤ℤ sum_in table book new pool
  risen_more true visited risen still = let gain = risen refl in omega (arith, ints, gain, visited)
  risen_more false visited risen still =
      let same = ap (λ (us : List ℤ). sum_in table book us pool) (still refl).0 in omega (arith, ints, same, visited)

pub some_is : {X : Type 0} (o : Option X) (x : X) → o ≡ Some x → IsSome o
some_is o x e = ap is_some e
