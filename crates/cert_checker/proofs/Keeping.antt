-- What is kept stays of the book, line after line. The case to look at is a label: its activity is no less than that of
-- the last one, so the family stays in order with it at the end. A leaf that begins has no labels, of which all of this
-- holds.
use Rattle.std.specs.Prelude.{◌==◌, ◌&&◌, nat_le, nat_lt, not, ◌-ℤ◌, ◌+ℤ◌}
use Rattle.std.proofs.Common.{◌≡◌, ◌∙◌, ℕ, ℤ, pos, ◌+◌, ◌<◌, ◌≤◌, ◌*◌, ◌^◌, Bool, true, List, [], ◌∷◌, ◌++◌, Option, None, Some, inl, inr, length, sym, ap, subst, arith}
use Rattle.std.proofs.Math.Seq.{get_or-append_seam}
use Rattle.std.proofs.lemmas.Bool.{and_parts, cases_order, eqb-true, leb-true, ltb-true}
use Rattle.std.proofs.lemmas.Int.{ints}
use Rattle.std.proofs.lemmas.List.{get_or_append_left, length_push}
use Rattle.std.proofs.lemmas.List.Elements.{All-nil, All-push}
use Rattle.tail_book.specs.Lookup.{aircraft}
use Rattle.tail_book.specs.Seen.{BookSeen}
use Rattle.tail_book.specs.Ranges.{IsWithin}
use Rattle.branch_marks.specs.Labels.{Label}
use Rattle.branch_marks.specs.ProofTree.{zero_duals}
use Rattle.branch_marks.specs.declared.fact.Fact.{Fact}
use Rattle.branch_marks.specs.MarkTests.{is_alive}
use Rattle.cert_checker.specs.declared.kept_floors.KeptRows.{KeptRows}
use Rattle.cert_checker.specs.declared.state.Judging.{Judging}
use Rattle.cert_checker.specs.declared.state.OpenLeaf.{OpenLeaf as KeptLeaf}
use Rattle.cert_checker.specs.declared.state.Part.{Part}
use Rattle.cert_checker.specs.declared.state.Part.TheVariants.{Start, InTree, InBound, InLean, InPlan, Claimed}
use Rattle.cert_checker.specs.inside.KeptFloors.{AreAllUnder}
use Rattle.cert_checker.specs.inside.Kept.{IsJudging, IsLeafIn, IsLeafOf, IsPartIn}
use Rattle.open_branches.specs.declared.branches.Branches.{Branches}
use Rattle.cert_checker.specs.inside.Buckets.{IsFamilyOf, IsLabelOf, at_in, no_label}
use Rattle.open_branches.specs.Branches.{AreBranchesOf}

-- whether a node is owed says nothing of its marks
pub owes_alone : (book : BookSeen) (branches : Branches) (owes : Bool) → AreBranchesOf book branches → AreBranchesOf book (record branches { owes = owes })
owes_alone book branches owes is = record { marks = is.marks; behind = is.behind }

pub in_tree_part : (book : BookSeen) (judging : Judging) → judging.part ≡ InTree → IsPartIn book judging judging.part
in_tree_part book judging e = subst (λ (part : Part). IsPartIn book judging part) (sym e) tt

pub no_leaf : (book : BookSeen) (judging : Judging) → judging.leaf ≡ None → IsLeafIn book judging judging.leaf
no_leaf book judging e = subst (λ (leaf : Option KeptLeaf). IsLeafIn book judging leaf) (sym e) tt

-- a leaf without labels
pub no_labels : (book : BookSeen) (marks : List Fact) (k : ℕ) → IsFamilyOf book marks k []
no_labels book marks k = record {
  each = All-nil (IsLabelOf book);
  order = λ i j le lt. absurd (omega (arith, lt));
  alive = All-nil (λ label. is_alive book marks k label.at ≡ true);
}

pub begun_leaf : (book : BookSeen) (marks : List Fact) (duals : List ℤ) (leaf : KeptLeaf) → leaf.k < aircraft book → (leaf.value ≡ None → duals ≡ zero_duals book)
    → IsLeafOf book marks duals [] leaf
begun_leaf book marks duals leaf of zero = record {
  aircraft = of;
  family = no_labels book marks leaf.k;
  last = All-nil (λ label. label.at ≤ leaf.next);
  zero = zero;
}

-- one label more, of an activity from the last one on
module _ (book : BookSeen) (marks : List Fact) (duals : List ℤ) (family : List Label) (leaf : KeptLeaf) (label : Label) (is : IsLeafOf book marks duals family leaf)
    (late : leaf.next ≤ label.at) where
  abbrev more : List Label
  more = family ++ label ∷ []

  before : (i : ℕ) → i < length family → at_in more i ≡ at_in family i
  before i lt = ap (λ (l : Label). l.at) (get_or_append_left family (label ∷ []) no_label i lt)

  last : at_in more (length family) ≡ label.at
  last = ap (λ (l : Label). l.at) (get_or-append_seam family label [] no_label)

  in_order : (i j : ℕ) → i ≤ j → j < length more → at_in more i ≤ at_in more j
  in_order i j le lt = elim (cases_order j (length family)) [
    | inl here ↦ elim (cases_order i (length family)) [
      | inl same ↦ rw (here, same) (omega arith)
      | inr o ↦ elim o [
        | inl less ↦ rw (before i less, here, last) (let low = is.last i no_label less in omega (arith, low, late))
        | inr over ↦ absurd (omega (arith, le, here, over))
      ]
    ]
    | inr o ↦ elim o [
      | inl less ↦ rw (before i (omega (arith, le, less)), before j less) (is.family.order i j le less)
      | inr over ↦ (let long = length_push family label in absurd (omega (arith, lt, over, long)))
    ]
  ]

  pub label_more : (after : KeptLeaf) → after.line ≡ leaf.line → after.k ≡ leaf.k → after.value ≡ leaf.value → after.next ≡ label.at → IsLabelOf book label
      → is_alive book marks leaf.k label.at ≡ true → IsLeafOf book marks duals more after
  label_more after line k value next of alive = record {
    aircraft = rw k is.aircraft;
    family = rw k (record {
      each = All-push (IsLabelOf book) family label is.family.each of;
      order = in_order;
      alive = All-push (λ l. is_alive book marks leaf.k l.at ≡ true) family label is.family.alive alive;
    });
    last = rw next (All-push (λ l. l.at ≤ label.at) family label (λ i d lt. let low = is.last i d lt in omega (arith, low, late)) (omega arith));
    zero = rw value is.zero;
  }

-- at a node other branches may be kept, with the floors under their marks
pub at_node_still : (book : BookSeen) (mid : Judging) (branches : Branches) (floors : KeptRows) → IsJudging book mid → mid.part ≡ InTree → mid.leaf ≡ None
    → AreBranchesOf book branches → AreAllUnder book branches.marks.facts floors.rows.items → IsJudging book (record mid { branches = branches; floors = floors })
at_node_still book mid branches floors is part leaf of under = record {
  branches = of;
  part = in_tree_part book (record mid { branches = branches; floors = floors }) part;
  duals = is.duals;
  covers = is.covers;
  values = is.values;
  fliers = is.fliers;
  leaf = no_leaf book (record mid { branches = branches; floors = floors }) leaf;
  starts = is.starts;
  floors = under;
  width = is.width;
  pricer = is.pricer;
}

-- what the tests of places say
pub dual_place : (covers next a n : ℕ) → (covers == 0 && (nat_le next a && nat_lt a n)) ≡ true → (covers ≡ 0) × (a < n)
dual_place covers next a n e =
    let first = and_parts _ _ e in
    let second = and_parts _ _ first.1 in
    (eqb-true covers 0 first.0, ltb-true a n second.1)

pub lean_dual_place : (next a n : ℕ) → (nat_le next a && nat_lt a n) ≡ true → a < n
lean_dual_place next a n e = ltb-true a n (and_parts _ _ e).1

pub cover_place : (k covers m : ℕ) → (k == covers && nat_lt k m) ≡ true → (k ≡ covers) × (k < m)
cover_place k covers m e = let both = and_parts _ _ e in (eqb-true k covers both.0, ltb-true k m both.1)

pub label_place : (next at n long width : ℕ) → (nat_le next at && (nat_lt at n && long == width)) ≡ true → (next ≤ at) × (at < n) × (long ≡ width)
label_place next at n long width e =
    let first = and_parts _ _ e in
    let second = and_parts _ _ first.1 in
    (leb-true next at first.0, ltb-true at n second.0, eqb-true long width second.1)

-- the values of covers, with one value more
pub more_values : (k covers : ℕ) (values value sum : ℤ) → k ≡ covers → IsWithin (pos 0 -ℤ pos (covers * 2 ^ 63)) (pos (covers * 2 ^ 63)) values
    → IsWithin (pos 0 -ℤ pos (2 ^ 63)) (pos (2 ^ 63)) value → sum ≡ values +ℤ value → IsWithin (pos 0 -ℤ pos ((k + 1) * 2 ^ 63)) (pos ((k + 1) * 2 ^ 63)) sum
more_values k covers values value sum at before here is =
    let low = before.least in let high = before.most in let least = here.least in let most = here.most in
    record { least = omega (arith, ints, at, low, least, is); most = omega (arith, ints, at, high, most, is) }

-- a leaf that takes a label stands where it stood
pub label_part : (book : BookSeen) (old new : Judging) (leaf : KeptLeaf) → IsPartIn book old old.part → old.leaf ≡ Some leaf → new.part ≡ old.part → new.branches ≡ old.branches → new.covers ≡ old.covers
    → IsPartIn book new new.part
label_part book old new leaf is some part branches covers = subst (λ (p : Part). IsPartIn book new p) (sym part) (by_part old.part is)
  where
    by_part : (p : Part) → IsPartIn book old p → IsPartIn book new p
    by_part Start (facts, owed, none) = (let clash = sym some ∙ none in absurd (cc clash))
    by_part InTree held = tt
    by_part InBound (owes, none) = (
      ap (λ (b : Branches). b.owes) branches ∙ owes ∙ ap (λ (n : ℕ). not (n == aircraft book)) (sym covers),
      λ z. let clash = sym some ∙ none (sym covers ∙ z) in absurd (cc clash),
    )
    by_part InLean (duals, none) = (let clash = sym some ∙ none in absurd (cc clash))
    by_part InPlan held = tt
    by_part (Claimed claim) held = tt
