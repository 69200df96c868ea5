-- An end that was kept, told again. What a kept end says is all that is asked of the same end of a counted node; what shows a stuck
-- aircraft or a bound comes from pricing again, and for a log that tells nothing from the laws that it exists.
use Rattle.std.proofs.Common.{◌<◌, ◌≤◌, ℕ, ℤ, List, [], ◌∷◌, refl, sym, subst, arith}
use Rattle.std.proofs.lemmas.List.Elements.{All-contains_itself}
use Rattle.tail_book.specs.Seen.{BookSeen}
use Rattle.tail_book.specs.TableSeen.{CostTableSeen}
use Rattle.tail_book.specs.Lookup.{activities, aircraft}
use Rattle.tail_book.specs.inside.Sound.{IsBook}
use Rattle.branch_marks.specs.declared.event.Event.{Event}
use Rattle.branch_marks.specs.declared.event.Event.TheVariants as event
use Rattle.branch_marks.specs.declared.fact.Fact.{Fact}
use Rattle.branch_marks.specs.declared.fact.Pair.{Pair}
use Rattle.branch_marks.specs.declared.fact.Pair.TheVariants.{Fly, Link}
use Rattle.branch_marks.specs.Branches.{IsPairOf}
use Rattle.branch_marks.specs.Events.{IsLinePair}
use Rattle.branch_marks.specs.Bound.{AreLeastWeights, bound_of, lagrangian, Passes}
use Rattle.branch_marks.specs.DeadEnds.{IsHole, IsStuck}
use Rattle.branch_marks.specs.LogShown.{LogShown}
use Rattle.branch_marks.specs.Settled.{AreDuals}
use Rattle.branch_marks.specs.TreeLog.{Notes, NotesFront, TellsNothing}
use Rattle.branch_marks.specs.inside.MoreFacts.{SumsNeverFall}
use Rattle.branch_marks.specs.inside.WholeFamilies.{LowBoundsAreShown, StuckIsShown}
use Rattle.node_leaves.specs.Node as tree
use Rattle.node_leaves.specs.NodeEvents.{ending_events}
use Rattle.node_leaves.specs.inside.Leaf.{IsBoundNoted, IsCutAtLeaf, IsStuckNoted, Whole}
use Rattle.best_first.specs.declared.slots.KeptEnd.{KeptEnd}
use Rattle.best_first.specs.declared.slots.KeptEnd.TheVariants.{Hole, Stuck, Bounded, Split}
use Rattle.best_first.specs.inside.Slots.{IsKeptEnd}
use Rattle.best_first.specs.inside.Tellings.{IsEndTold}
use Rattle.best_first.proofs.Endings.{passes_up}

-- a log that tells nothing was told whatever is due
pub notes_nothing : (log : LogShown) (due : List Event) → TellsNothing log → Notes log log due
notes_nothing log due nothing = λ told runs was. absurd (nothing told was)

-- a line spells a pair of the book
pub line_pair : (book : BookSeen) → activities book ≤ 4096 → aircraft book ≤ 4096 → (pair : Pair) → IsPairOf book pair → IsLinePair pair
line_pair book few_activities few_aircraft (Fly k a) is = (omega (arith, is.0, few_aircraft), omega (arith, is.1, few_activities))
line_pair book few_activities few_aircraft (Link a b) is = (omega (arith, is.0, few_activities), omega (arith, is.1, few_activities))

module _ (table : CostTableSeen) (book : BookSeen) (marks : List Fact) (duals : List ℤ) (target : ℕ) (old new : LogShown) where
  pub hole_told : (a : ℕ) → IsHole book marks a → Notes old new (event.Hole a ∷ []) → IsEndTold table book marks duals target (Hole a) old new
  hole_told a hole told = record { ending = tree.Hole a; shown = hole; right = tt; bounds = tt; opens = λ since. refl; told = told }

  pub stuck_told : (k : ℕ) → IsStuckNoted table book marks k old new → IsEndTold table book marks duals target (Stuck k) old new
  stuck_told k noted = record { ending = tree.Stuck k noted.0; shown = noted.1; right = tt; bounds = tt; opens = λ since. refl; told = noted.2 }

  -- a bound whose duals were priced again, and an aircraft was stuck
  pub stuck_bounded : (k : ℕ) → IsStuckNoted table book marks k old new → IsEndTold table book marks duals target Bounded old new
  stuck_bounded k noted = record { ending = tree.Stuck k noted.0; shown = noted.1; right = tt; bounds = tt; opens = λ since. refl; told = noted.2 }

  -- its sum has not fallen
  pub bounded_told : SumsNeverFall → (values : List ℤ) → AreLeastWeights table book marks duals values → IsKeptEnd table book marks duals target Bounded
      → IsBoundNoted table book marks duals values old new → IsEndTold table book marks duals target Bounded old new
  bounded_told sums values least kept noted = record {
    ending = tree.Bounded duals noted.covers;
    shown = noted.shown;
    right = (
      subst (λ (vs : List ℤ). AreLeastWeights table book marks duals vs) (sym noted.least) least,
      subst (λ (vs : List ℤ). Passes (bound_of (lagrangian duals vs)) target) (sym noted.least)
          (passes_up (bound_of kept.0) (bound_of (lagrangian duals values)) target
          (sums table book marks marks (All-contains_itself marks) duals kept.0 (lagrangian duals values) kept.1 (values, least, refl)).bound kept.2),
    );
    bounds = tt;
    opens = λ since. refl;
    told = noted.told;
  }

  pub split_told : (pair : Pair) (bound : ℤ) → IsKeptEnd table book marks duals target (Split pair bound) → Notes old new (event.Split pair ∷ [])
      → IsEndTold table book marks duals target (Split pair bound) old new
  split_told pair bound kept told = record {
    ending = tree.Split pair duals kept.2.0 kept.2.1;
    shown = kept.0;
    right = kept.2.2;
    bounds = kept.1;
    opens = λ since. refl;
    told = told;
  }

  -- an end of one event was not told, or is torn
  pub hole_cut : (a : ℕ) → IsHole book marks a → NotesFront old new (event.Hole a ∷ []) → IsCutAtLeaf table book marks old new
  hole_cut a hole front = record { part = Whole (tree.Hole a); shown = hole; front = front }

  pub split_cut : (pair : Pair) (bound : ℤ) → IsKeptEnd table book marks duals target (Split pair bound) → NotesFront old new (event.Split pair ∷ [])
      → IsCutAtLeaf table book marks old new
  split_cut pair bound kept front = record { part = Whole (tree.Split pair duals kept.2.0 kept.2.1); shown = kept.0; front = front }

-- for a log that tells nothing nothing is priced
module _ (low_shown : LowBoundsAreShown) (stuck_shown : StuckIsShown) (table : CostTableSeen) (book : BookSeen) (sound : IsBook book) (marks : List Fact)
    (duals : List ℤ) (in_box : AreDuals table book duals) (target : ℕ) (log : LogShown) (nothing : TellsNothing log) where
  untold_stuck : (k : ℕ) → k < aircraft book → IsStuck book marks k → IsStuckNoted table book marks k log log
  untold_stuck k less stuck =
      let shown = stuck_shown table book sound marks k less stuck in (shown.0, shown.1, notes_nothing log (ending_events (tree.Stuck k shown.0)) nothing)

  untold_bounded : (values : List ℤ) → AreLeastWeights table book marks duals values → IsBoundNoted table book marks duals values log log
  untold_bounded values least =
      let shown = low_shown table book sound marks duals values in_box (record { one_each = least.one_each; each = λ k less. (least.each k less).least }) in
      record { covers = shown.0; shown = shown.1; least = shown.2; told = notes_nothing log (ending_events (tree.Bounded duals shown.0)) nothing }

  pub untold_end : SumsNeverFall → (end : KeptEnd) → IsKeptEnd table book marks duals target end → IsEndTold table book marks duals target end log log
  untold_end sums (Hole a) kept = hole_told table book marks duals target log log a kept (notes_nothing log (event.Hole a ∷ []) nothing)
  untold_end sums (Stuck k) kept = stuck_told table book marks duals target log log k (untold_stuck k kept.0 kept.1)
  untold_end sums Bounded kept = bounded_told table book marks duals target log log sums kept.1.0 kept.1.1 kept (untold_bounded kept.1.0 kept.1.1)
  untold_end sums (Split pair bound) kept =
      split_told table book marks duals target log log pair bound kept (notes_nothing log (event.Split pair ∷ []) nothing)
