-- A slot of the list stands at a place, of whose facts none comes twice and all are of the book; and the root alone is a list of slots.
use Rattle.std.proofs.Common.{◌≡◌, ◌∙◌, ◌<◌, ◌+◌, ℕ, ℤ, zero, suc, pos, false, List, [], ◌∷◌, ◌++◌, length, map, take, drop, None, refl, sym, ap, subst, arith}
use Rattle.std.specs.Prelude.{All}
use Rattle.std.proofs.lemmas.List.Elements.{All-nil, All-cons}
use Rattle.tail_book.specs.Seen.{BookSeen}
use Rattle.tail_book.specs.TableSeen.{CostTableSeen}
use Rattle.branch_marks.specs.declared.fact.Fact.{Fact}
use Rattle.branch_marks.specs.Facts.{IsFactOf}
use Rattle.branch_marks.specs.ProofTree.{zero_duals}
use Rattle.branch_marks.specs.Following.{FollowInTurn, IsShut}
use Rattle.branch_marks.specs.LogShown.{LogShown}
use Rattle.branch_marks.specs.Settled.{AreDuals}
use Rattle.branch_marks.specs.inside.Once.{AreOnce}
use Rattle.node_leaves.specs.Place.{Open}
use Rattle.node_leaves.specs.Target.{IsTarget}
use Rattle.branch_tree.specs.declared.step.Step.{Step}
use Rattle.branch_tree.specs.Step.{IsVisit}
use Rattle.node_leaves.specs.inside.Leaf.{ZerosAreDuals}
use Rattle.best_first.specs.declared.links.Link.{Link}
use Rattle.best_first.specs.declared.slots.Slot.{Slot}
use Rattle.best_first.specs.inside.Links.{facts_at}
use Rattle.best_first.specs.Rank.{IsBefore}
use Rattle.best_first.specs.Order.{Standing, IsTakenAmong, numbers_of}
use Rattle.best_first.specs.BestTree.{owed_root, Laid}
use Rattle.best_first.specs.inside.Slots.{IsPast, IsSlot, IsSlotAt, AreCountedSo, AreSlots, slot_at, slot_standing}
use Rattle.best_first.specs.inside.BestParts.{IsNext, IsShutAt}
use Rattle.best_first.proofs.FactChains.{facts_none}
use Rattle.best_first.proofs.Layers.{laid_cons, laid_cut, laid_first, laid_none}
use Rattle.best_first.proofs.NodesKept.{held_none, no_slot}
use Rattle.best_first.proofs.Orders.{before_none}
use Rattle.best_first.proofs.SlotEdits.{cut_at}

module _ (table : CostTableSeen) (book : BookSeen) (links : List Link) where
  pub slot_of : (slots : List Slot) (n target : ℕ) → AreSlots table book links slots n target → (p : ℕ) → p < length slots
      → IsSlot table book links (slot_at slots p)
  slot_of slots n target are p less =
      let Stands = IsSlotAt table book links in
      let before = take p slots in let here = slot_at slots p in let behind = drop (p + 1) slots in
      let parts = subst (λ (s : List Slot). Laid (IsSlotAt table book links) (owed_root book ∷ []) s []) (cut_at slots p no_slot less) are.laid in
      let cut = laid_cut Stands (owed_root book ∷ []) before (here ∷ behind) [] parts in
      let first = laid_first Stands cut.0 here behind [] cut.2 in
      (first.here, first.opened, first.stands)

  pub slot_once : (slot : Slot) → IsSlot table book links slot → AreOnce (facts_at links slot.end)
  slot_once slot is = subst AreOnce (sym is.2.marks) is.2.fair.once

  pub slot_of_book : (slot : Slot) → IsSlot table book links slot → All (IsFactOf book) (facts_at links slot.end)
  slot_of_book slot is = subst (λ (m : List Fact). All (IsFactOf book) m) (sym is.2.marks) is.2.fair.of_book

  -- where it is open, its duals are in the box
  pub slot_duals : (slot : Slot) → IsSlot table book links slot → slot.kept ≡ None → AreDuals table book slot.duals.values
  slot_duals slot is none =
      let held = held_none table book links is.0.place slot.duals.values slot.kept is.1 none is.2.held in
      subst (λ (u : List ℤ). AreDuals table book u) (sym held.0) is.2.fair.duals

-- the node of a step as it is kept
pub shut_of : (table : CostTableSeen) (book : BookSeen) (here : Open) (marks : List Fact) (duals : List ℤ) (target : ℕ) (old new : LogShown) (answer : Step)
    → IsVisit table book here marks duals target old new answer → (before : List Fact) → here.marks ≡ before → IsShutAt table book before marks target
shut_of table book here marks duals target old new answer visit before is =
    let node = visit.node in
    record {
      steps = node.steps;
      closed = visit.closed ∙ ap (λ (m : List Fact). m ++ node.steps) is;
      follow = subst (λ (m : List Fact). FollowInTurn book m node.steps) is visit.counted.shown.steps;
      shut = subst (λ (m : List Fact). IsShut book m) (sym visit.closed) visit.counted.shut;
      is_target = subst (λ (t : ℕ). IsTarget table book t) visit.goal visit.counted.target;
    }

module _ (zeros : ZerosAreDuals) (table : CostTableSeen) (book : BookSeen) (target : ℕ) where
  abbrev pub root_slot : Slot
  root_slot = record {
    rank = record { bound = pos 0; since = 0; second = false };
    end = 0;
    duals = record { values = zero_duals book };
    kept = None;
  }

  root_stands : IsSlotAt table book [] (owed_root book) root_slot []
  root_stands = record {
    fair = record {
      once = tt;
      of_book = All-nil (IsFactOf book);
      duals = zeros table book;
      floor = λ sum is. omega arith;
    };
    rank = refl;
    within = omega arith;
    marks = facts_none [];
    held = (refl, refl);
  }

  root_counted : AreCountedSo 0 target (map slot_standing (root_slot ∷ []))
  unfolding numbers_of
  root_counted =
      let T = λ (one : Standing). IsTakenAmong (slot_standing root_slot ∷ []) one.rank one.counted in
      let Q = λ (one : Standing). IsPast 0 target one.rank one.counted in
      record {
        ordered = All-cons T (slot_standing root_slot) [] tt (All-nil T);
        past = All-cons Q (slot_standing root_slot) [] (omega arith) (All-nil Q);
        count = refl;
        each = λ i less. absurd (omega (arith, less));
      }

  pub root_slots : AreSlots table book [] (root_slot ∷ []) 0 target
  root_slots = record {
    chained = λ i less. absurd (omega (arith, less));
    laid = laid_cons (IsSlotAt table book []) (owed_root book) [] root_slot [] [] [] root_stands (laid_none (IsSlotAt table book []) []);
    counted = root_counted;
  }

  root_first : (q : ℕ) → q < 1 → (slot_at (root_slot ∷ []) q).kept ≡ None → ¬ IsBefore (slot_at (root_slot ∷ []) q).rank root_slot.rank
  root_first zero less none = before_none root_slot.rank
  root_first (suc q) less none = absurd (omega (arith, less))

  pub root_next : IsNext (root_slot ∷ []) 0 target 0
  root_next = record { first = (omega arith, refl, root_first); room = λ some. absurd (omega (arith, some)) }
