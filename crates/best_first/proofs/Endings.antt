-- Where growth ends. At the limit as many nodes were counted as it allows. Where no slot is open there is nothing to show; and where the bound
-- of the place that comes first reaches the target, those of all that are open do, since none of them is less.
use Rattle.std.proofs.Common.{◌≡◌, ◌≤◌, ◌+◌, ℕ, ℤ, pos, negsuc, List, length, map, Option, Some, None, inl, inr, refl, arith}
use Rattle.std.specs.Prelude.{All, ◌<ℤ◌}
use Rattle.std.proofs.lemmas.Bool.{cases_order}
use Rattle.std.proofs.lemmas.Int.{ints}
use Rattle.std.proofs.lemmas.List.Elements.{All-from_get_or, All-map}
use Rattle.branch_marks.specs.Bound.{bound_of, Passes}
use Rattle.branch_tree.specs.declared.limit.Limit.{Limit}
use Rattle.branch_tree.specs.declared.limit.Limit.TheVariants.{Free, Nodes}
use Rattle.branch_tree.specs.SearchTree.{HasReached, IsWithin}
use Rattle.branch_tree.specs.inside.SearchParts.{Allows, HasStopped}
use Rattle.best_first.specs.declared.rank.Rank.{Rank}
use Rattle.best_first.specs.declared.slots.Kept.{Kept}
use Rattle.best_first.specs.declared.slots.Slot.{Slot}
use Rattle.best_first.specs.Rank.{IsBefore}
use Rattle.best_first.specs.Order.{IsPruned, Standing}
use Rattle.best_first.specs.inside.Slots.{IsFirstBelow, kept_count, slot_at, slot_standing}
use Rattle.best_first.proofs.NodesKept.{no_slot}

pub within_none : (limit : Limit) → IsWithin limit 0
within_none Free = tt
within_none (Nodes most) = omega arith

pub within_more : (limit : Limit) (n : ℕ) → Allows limit n → IsWithin limit (n + 1)
within_more Free n allows = tt
within_more (Nodes most) n allows = omega (arith, allows)

pub stopped_at : (limit : Limit) (n : ℕ) → HasStopped limit n → IsWithin limit n → HasReached limit n
stopped_at Free n stopped within = absurd stopped
stopped_at (Nodes most) n stopped within = omega (arith, stopped, within)

not_less : (a b : ℕ) → ¬ (pos b <ℤ pos a) → a ≤ b
not_less a b not = elim (cases_order a b) [
  | inl same ↦ omega (arith, same)
  | inr o ↦ elim o [ inl less ↦ omega (arith, less) | inr over ↦ absurd (not (omega (arith, ints, over))) ]
]

bound_up : (low high : ℤ) → ¬ (high <ℤ low) → bound_of low ≤ bound_of high
bound_up (pos a) (pos b) not = not_less a b not
bound_up (pos a) (negsuc b) not = absurd (not (omega (arith, ints)))
bound_up (negsuc a) (pos b) not = omega arith
bound_up (negsuc a) (negsuc b) not = omega arith

pub passes_up : (low high target : ℕ) → low ≤ high → Passes low target → Passes high target
passes_up low high target less passes = omega (arith, less, passes)

full_pruned : (target : ℕ) (rank : Rank) (kept : Option Kept) → ¬ (kept ≡ None) → IsPruned target rank (kept_count kept)
full_pruned target rank None full = absurd (full refl)
full_pruned target rank (Some kept) full = tt

open_pruned : (target : ℕ) (first rank : Rank) (kept : Option Kept) → Passes (bound_of first.bound) target → (kept ≡ None → ¬ IsBefore rank first)
    → IsPruned target rank (kept_count kept)
open_pruned target first rank None passes not =
    passes_up (bound_of first.bound) (bound_of rank.bound) target (bound_up first.bound rank.bound (λ less. not refl (inl less))) passes
open_pruned target first rank (Some kept) passes not = tt

module _ (slots : List Slot) (target : ℕ) where
  abbrev P : Standing → Type 0
  P one = IsPruned target one.rank one.counted

  pub all_full : IsFirstBelow slots (length slots) None → All (λ (one : Standing). IsPruned target one.rank one.counted) (map slot_standing slots)
  all_full none =
      All-map P slot_standing slots
      (All-from_get_or (λ (s : Slot). P (slot_standing s)) slots no_slot
      (λ q less. full_pruned target (slot_at slots q).rank (slot_at slots q).kept (none q less)))

  pub all_above : (p : ℕ) → IsFirstBelow slots (length slots) (Some p) → Passes (bound_of (slot_at slots p).rank.bound) target
      → All (λ (one : Standing). IsPruned target one.rank one.counted) (map slot_standing slots)
  all_above p first passes =
      All-map P slot_standing slots
      (All-from_get_or (λ (s : Slot). P (slot_standing s)) slots no_slot
      (λ q less. open_pruned target (slot_at slots p).rank (slot_at slots q).rank (slot_at slots q).kept passes (first.2 q less)))
