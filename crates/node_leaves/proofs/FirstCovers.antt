-- Covers are told one aircraft after the other. Those before aircraft k, each shown for the aircraft of its place, and
-- one more that is shown for k are those before k + 1; when k is the number of aircraft they show a bound. A stop
-- within the cover of k leaves those before it with that cover, if it is shown, or without it, if nothing of it was
-- told: both are first covers.
use Rattle.std.proofs.Common.{◌≡◌, ◌∙◌, ℕ, ℤ, pos, ◌+◌, ◌<◌, ◌≤◌, arith, List, [], ◌∷◌, ◌++◌, length, length-append, take, get_or, refl, sym, ap, subst, append-nil}
use Rattle.std.proofs.lemmas.List.{take_more, map-append}
use Rattle.std.proofs.lemmas.List.Elements.{All-cons, All-head, All-nil}
use Rattle.std.specs.Prelude.{All}
use Rattle.tail_book.specs.Seen.{BookSeen}
use Rattle.tail_book.specs.TableSeen.{CostTableSeen}
use Rattle.tail_book.specs.Lookup.{aircraft}
use Rattle.branch_marks.specs.declared.event.Event.{Event}
use Rattle.branch_marks.specs.declared.fact.Fact.{Fact}
use Rattle.branch_marks.specs.LogShown.{LogShown}
use Rattle.branch_marks.specs.ProofTree.{Cover, IsShownCover}
use Rattle.branch_marks.specs.Settled.{AreDuals}
use Rattle.branch_marks.specs.TreeLog.{Notes, NotesFront, IsLater}
use Rattle.node_leaves.specs.Node.{AreFirstCovers}
use Rattle.branch_marks.specs.TreeEvents.{cover_event, cover_events}
use Rattle.node_leaves.specs.inside.Leaf.{AreCoversBefore, AreCoversOf, IsCutAtCover, IsCutAtCovers}
use Rattle.node_leaves.proofs.Cuts.{notes_none, notes_then, front_then}
use Rattle.node_leaves.proofs.Lists.{cover_one, no_covers, covers_at}
use Rattle.node_leaves.proofs.Values.{one_more}

module _ (table : CostTableSeen) (book : BookSeen) (marks : List Fact) (duals : List ℤ) where
  first_more : (covers : List Cover) (k : ℕ) (cover : Cover) → length covers ≡ k → k < aircraft book → AreFirstCovers table book marks duals covers
      → IsShownCover table book marks k duals cover → AreFirstCovers table book marks duals (covers ++ cover ∷ [])
  first_more covers k cover count less first shown =
      let long = length-append covers (cover ∷ []) in
      let each = one_more (record { value = pos 0; family = [] }) (λ (j : ℕ) (c : Cover). IsShownCover table book marks j duals c)
      covers (covers ++ cover ∷ []) k cover count refl (λ j lt. first.each j (omega (arith, lt, count))) shown in
      record { few = omega (arith, long, count, less); each = λ j lt. each j (omega (arith, lt, long, count)) }

  first_with : (covers begun : List Cover) (k : ℕ) → length covers ≡ k → k < aircraft book → AreFirstCovers table book marks duals covers
      → length begun ≤ 1 → All (IsShownCover table book marks k duals) begun → AreFirstCovers table book marks duals (covers ++ begun)
  first_with covers [] k count less first few shown = subst (λ (cs : List Cover). AreFirstCovers table book marks duals cs) (sym (append-nil covers)) first
  first_with covers (cover ∷ []) k count less first few shown =
      first_more covers k cover count less first (All-head (IsShownCover table book marks k duals) cover [] shown)
  first_with covers (cover ∷ other ∷ begun) k count less first few shown = absurd (omega (arith, few))

  -- a front of one cover, which is shown
  pub cut_at_one : (k : ℕ) (cover : Cover) (old new : LogShown) → IsShownCover table book marks k duals cover
      → NotesFront old new (cover_event k cover) → IsCutAtCover table book marks k duals old new
  cut_at_one k cover old new shown front =
      let is = IsShownCover table book marks k duals in
      record {
        begun = cover ∷ [];
        few = omega arith;
        shown = All-cons is cover [] shown (All-nil is);
        front = subst (λ (es : List Event). NotesFront old new es) (sym (cover_one k cover)) front;
      }

  module _ (values : List ℤ) (all : length values ≡ aircraft book) where
    pub covers_none : (log : LogShown) → AreCoversBefore table book marks duals values 0 log log
    covers_none log = record {
      covers = [];
      count = refl;
      shown = record { few = omega arith; each = λ j less. absurd (omega (arith, less)) };
      least = refl;
      told = subst (λ (es : List Event). Notes log log es) (sym (no_covers 0)) (notes_none log);
    }

    pub covers_more : (k : ℕ) (value : ℤ) (cover : Cover) (old between new : LogShown) → k < length values → value ≡ get_or values k (pos 0) → cover.value ≡ value
        → IsLater between new → AreCoversBefore table book marks duals values k old between → IsShownCover table book marks k duals cover
        → Notes between new (cover_event k cover) → AreCoversBefore table book marks duals values (k + 1) old new
    covers_more k value cover old between new less at same later before shown told =
        let covers = before.covers in
        let two = notes_then old between new (cover_events 0 covers) (cover_events k (cover ∷ [])) later before.told
        (subst (λ (es : List Event). Notes between new es) (sym (cover_one k cover)) told) in
        record {
          covers = covers ++ cover ∷ [];
          count = omega (arith, length-append covers (cover ∷ []), before.count);
          shown = first_more covers k cover before.count (omega (arith, less, all)) before.shown shown;
          least = map-append (λ (c : Cover). c.value) covers (cover ∷ []) ∙ ap (λ (vs : List ℤ). vs ++ cover.value ∷ []) before.least
              ∙ ap (λ (v : ℤ). take k values ++ v ∷ []) (same ∙ at) ∙ sym (take_more values k (pos 0) less);
          told = subst (λ (es : List Event). Notes old new es) (covers_at k covers (cover ∷ []) before.count) two;
        }

    pub covers_all : (k : ℕ) (old new : LogShown) → k ≡ length values → AreDuals table book duals → take k values ≡ values
        → AreCoversBefore table book marks duals values k old new → AreCoversOf table book marks duals values old new
    covers_all k old new end in_box whole before = record {
      covers = before.covers;
      shown = record {
        in_box = in_box;
        one_each = omega (arith, before.count, end, all);
        each = λ j less. before.shown.each j (omega (arith, less, before.count, end, all));
      };
      least = before.least ∙ whole;
      told = before.told;
    }

    pub covers_cut : (k : ℕ) (old between new : LogShown) → k < length values → IsLater between new → AreCoversBefore table book marks duals values k old between
        → IsCutAtCover table book marks k duals between new → IsCutAtCovers table book marks duals old new
    covers_cut k old between new less later before cut =
        let two = front_then old between new (cover_events 0 before.covers) (cover_events k cut.begun) later before.told cut.front in
        record {
          covers = before.covers ++ cut.begun;
          shown = first_with before.covers cut.begun k before.count (omega (arith, less, all)) before.shown cut.few cut.shown;
          front = subst (λ (es : List Event). NotesFront old new es) (covers_at k before.covers cut.begun before.count) two;
        }
