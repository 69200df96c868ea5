-- What opening both branches of a split does to the slots and their facts. For src/visit.rt.
use Rattle.std.specs.Prelude.{◌≡◌, ◌≤◌, ℕ, ℤ, true, false, List, [], ◌∷◌, ◌++◌, length, None}
use Rattle.tail_book.specs.TableSeen.{DualsSeen}
use Rattle.branch_marks.specs.declared.fact.Pair.{Pair}
use Rattle.branch_marks.specs.Branches.{first_branch, second_branch}
use Rattle.best_first.specs.declared.links.Link.{Link}
use Rattle.best_first.specs.declared.slots.Slot.{Slot}
use Rattle.best_first.specs.inside.Links.{AreLinks, facts_at}

-- both branches were put behind the slot, under this rank and these duals, and their facts behind those up to the last
pub record OpensBranches (old new : List Link) (slots after : List Slot) (p last : ℕ) (duals : DualsSeen) (pair : Pair) (bound : ℤ) (since : ℕ) : Type 0 where
  pub more : List Link
  pub same : new ≡ old ++ more
  pub links : AreLinks new
  pub first : ℕ
  pub second : ℕ
  pub first_within : first ≤ length new
  pub second_within : second ≤ length new
  pub first_is : facts_at new first ≡ facts_at old last ++ first_branch pair ∷ []
  pub second_is : facts_at new second ≡ facts_at old last ++ second_branch pair ∷ []
  pub opened : (before : List Slot) (here : Slot) (behind : List Slot) → slots ≡ before ++ here ∷ behind → length before ≡ p
      → after ≡ before ++ here ∷ record { rank = record { bound = bound; since = since; second = false }; end = first; duals = duals; kept = None }
      ∷ record { rank = record { bound = bound; since = since; second = true }; end = second; duals = duals; kept = None } ∷ behind
