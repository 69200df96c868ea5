-- Lists of events grow part by part: what was due before and one part more, a step, a dual, a bucket of labels or a
-- cover, is what is due then. By the list that is gone over, since its events are those of a map or of a fold. The one
-- thing to check is a number: events of duals and covers carry their own, so behind a cut they go on at the number that
-- the first part ended with. A dual that is 0 has no event, and is a part all the same.
use Rattle.std.proofs.Common.{ℕ, suc, ℤ, ◌≡◌, ◌∙◌, ◌+◌, ◌<◌, List, [], ◌∷◌, ◌++◌, length, map, refl, sym, ap, append_assoc, append-nil, arith, take, drop, get_or, length-take-le, take-append-drop}
use Rattle.std.proofs.lemmas.List.{take_more, map-append}
use Rattle.std.proofs.lemmas.List.Folds.{concat-append}
use Rattle.std.specs.Prelude.{All}
use Rattle.std.specs.List.{concat}
use Rattle.branch_marks.specs.declared.event.Event.{Event}
use Rattle.branch_marks.specs.Events.{IsNotable}
use Rattle.branch_marks.specs.Labels.{Label}
use Rattle.branch_marks.specs.ProofTree.{Cover}
use Rattle.branch_marks.specs.TreeEvents.{label_events, dual_event, dual_events, cover_event, cover_events}
use Rattle.node_leaves.specs.inside.EventLists.{Lists}

-- a list is what stands before place i, there, and behind it
pub whole_at : {X : Type 0} → (xs : List X) (i : ℕ) (x : X) → i < length xs → x ≡ get_or xs i x → (take i xs ++ x ∷ []) ++ drop (i + 1) xs ≡ xs
whole_at {X} xs i x less is =
    ap (λ (y : X). (take i xs ++ y ∷ []) ++ drop (i + 1) xs) is
    ∙ ap (λ (ys : List X). ys ++ drop (i + 1) xs) (sym (take_more xs i x less)) ∙ take-append-drop (i + 1) xs

pub lists_none : (list : List Event) → All IsNotable list → Lists list list []
lists_none list notable = record { events = sym (append-nil list); notable = notable }

pub lists_then : (old between new one two due : List Event) → one ++ two ≡ due → Lists old between one → Lists between new two → Lists old new due
lists_then old between new one two due is first second = record {
  events = second.events ∙ ap (λ (es : List Event). es ++ two) first.events ∙ append_assoc old one two ∙ ap (λ (es : List Event). old ++ es) is;
  notable = second.notable;
}

pub duals_then : (a : ℕ) (one two : List ℤ) → dual_events a (one ++ two) ≡ dual_events a one ++ dual_events (a + length one) two
duals_then a [] two = let same : a ≡ a + 0 = omega arith in ap (λ (b : ℕ). dual_events b two) same
duals_then a (d ∷ one) two =
    let same : a + 1 + length one ≡ a + suc (length one) = omega arith in
    ap (λ (es : List Event). dual_event a d ++ es) (duals_then (a + 1) one two ∙ ap (λ (b : ℕ). dual_events (a + 1) one ++ dual_events b two) same)
    ∙ sym (append_assoc (dual_event a d) (dual_events (a + 1) one) (dual_events (a + suc (length one)) two))

dual_last : (a : ℕ) (dual : ℤ) → dual_events a (dual ∷ []) ≡ dual_event a dual
dual_last a dual = append-nil (dual_event a dual)

pub no_duals : (a : ℕ) → dual_events a [] ≡ []
no_duals a = refl

pub duals_more : (duals : List ℤ) (i : ℕ) (d : ℤ) → i < length duals
    → dual_events 0 (take i duals) ++ dual_event i (get_or duals i d) ≡ dual_events 0 (take (i + 1) duals)
duals_more duals i d less =
    let here : length (take i duals) ≡ i = length-take-le i duals (omega (arith, less)) in
    let at : 0 + length (take i duals) ≡ i = omega (arith, here) in
    sym (
    ap (λ (ds : List ℤ). dual_events 0 ds) (take_more duals i d less) ∙ duals_then 0 (take i duals) (get_or duals i d ∷ [])
    ∙ ap (λ (b : ℕ). dual_events 0 (take i duals) ++ dual_events b (get_or duals i d ∷ [])) at
    ∙ ap (λ (es : List Event). dual_events 0 (take i duals) ++ es) (dual_last i (get_or duals i d))
    )

-- the labels of rows, one row more and one bucket more
module _ (label_at : ℕ → Label) where
  abbrev pub rows_labels : List ℕ → List Event
  rows_labels rows = label_events (map label_at rows)

  pub rows_then : (one two : List ℕ) → rows_labels one ++ rows_labels two ≡ rows_labels (one ++ two)
  rows_then one two = sym (ap label_events (map-append label_at one two) ∙ map-append (λ label. _) (map label_at one) (map label_at two))

  pub bucket_more : (buckets : List (List ℕ)) (a : ℕ) (d : List ℕ) → a < length buckets
      → rows_labels (concat (take a buckets)) ++ rows_labels (get_or buckets a d) ≡ rows_labels (concat (take (a + 1) buckets))
  bucket_more buckets a d less =
      rows_then (concat (take a buckets)) (get_or buckets a d)
      ∙ ap rows_labels (sym (ap concat (take_more buckets a d less) ∙ concat-append (take a buckets) (get_or buckets a d ∷ [])
      ∙ ap (λ (js : List ℕ). concat (take a buckets) ++ js) (append-nil (get_or buckets a d))))

pub cover_one : (k : ℕ) (cover : Cover) → cover_events k (cover ∷ []) ≡ cover_event k cover
cover_one k cover = append-nil (cover_event k cover)

pub no_covers : (k : ℕ) → cover_events k [] ≡ []
no_covers k = refl

pub covers_then : (k : ℕ) (one two : List Cover) → cover_events k (one ++ two) ≡ cover_events k one ++ cover_events (k + length one) two
covers_then k [] two = let same : k ≡ k + 0 = omega arith in ap (λ (b : ℕ). cover_events b two) same
covers_then k (c ∷ one) two =
    let same : k + 1 + length one ≡ k + suc (length one) = omega arith in
    ap (λ (es : List Event). cover_event k c ++ es) (covers_then (k + 1) one two ∙ ap (λ (b : ℕ). cover_events (k + 1) one ++ cover_events b two) same)
    ∙ sym (append_assoc (cover_event k c) (cover_events (k + 1) one) (cover_events (k + suc (length one)) two))

-- covers from aircraft k on, behind those of the aircraft before it
pub covers_at : (k : ℕ) (one two : List Cover) → length one ≡ k → cover_events 0 one ++ cover_events k two ≡ cover_events 0 (one ++ two)
covers_at k one two is =
    let at : k ≡ 0 + length one = omega (arith, is) in
    ap (λ (b : ℕ). cover_events 0 one ++ cover_events b two) at ∙ sym (covers_then 0 one two)
