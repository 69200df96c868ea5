-- The clocks of a stretch. A change between the ends of what is cut ends a stretch, and one that is not between them can't
-- come within a stretch; so as the moments of changes rise, none comes within one. Where no change comes between two
-- moments, each comes by both or by neither, and the offset is the same.
use Rattle.std.proofs.Common.{◌≡◌, ◌∙◌, ◌⊎◌, inl, inr, ℕ, ℤ, suc, true, false, List, [], ◌∷◌, refl, sym, arith}
use Rattle.std.specs.Prelude.{All, AllPairs, ◌&&◌, ◌<ℤ◌, ◌≤ℤ◌, int_lt}
use Rattle.std.proofs.lemmas.Bool.{cases_Bool}
use Rattle.std.proofs.lemmas.Int.{ints}
use Rattle.std.proofs.lemmas.List.Elements.{All-cons, All-nil, All-tail}
use Rattle.tail_book.specs.Seen.{BookSeen}
use Rattle.tail_book.specs.Lookup.{airport_of, offset_after, offset_at, port_offset}
use Rattle.tail_book.specs.Numbers.{int_le}
use Rattle.tail_book.specs.declared.rules.Change.{Change}
use Rattle.plan_picture.specs.Layout.{end_shown, first_moment}
use Rattle.plan_picture.specs.Stretches.{stretch_from, stretches_from}
use Rattle.plan_picture.specs.declared.stretches.Stretch.{Stretch}
use Rattle.plan_picture.specs.inside.Laws.{StretchesKeepClocks}

-- a change that comes by the first moment, or not before the end
abbrev IsOutside : ℤ → ℤ → Change → Type 0
IsOutside from to change = (change.at ≤ℤ from) ⊎ (to ≤ℤ change.at)

same_test : (at from to t : ℤ) → (at ≤ℤ from) ⊎ (to ≤ℤ at) → from ≤ℤ t → t <ℤ to → int_le at t ≡ int_le at from
same_test at from to t (inl by) behind before = grind (arith, ints)
same_test at from to t (inr later) behind before = grind (arith, ints)

-- changes outside of a stretch are the same at each of its moments
same_offset : (changes : List Change) (offset from to t : ℤ) → All (IsOutside from to) changes → from ≤ℤ t → t <ℤ to
    → offset_after offset changes t ≡ offset_after offset changes from
same_offset [] offset from to t outside behind before = refl
same_offset (change ∷ later) offset from to t outside behind before =
    rw (same_test change.at from to t (outside 0 change (omega arith)) behind before)
    (same_offset later _ from to t (All-tail (IsOutside from to) change later outside) behind before)

-- a stretch within what is cut, by the clocks of its first moment, with none of these changes in it
record IsPiece (book : BookSeen) (port : ℕ) (from to : ℤ) (changes : List Change) (stretch : Stretch) : Type 0 where
  behind : from ≤ℤ stretch.from
  before : stretch.to ≤ℤ to
  clocks : stretch.offset ≡ offset_at book port stretch.from
  outside : All (IsOutside stretch.from stretch.to) changes

-- a cut lies between the ends
cut_within : (from at to : ℤ) → (int_lt from at && int_lt at to) ≡ true → (from <ℤ at) × (at <ℤ to)
cut_within from at to cut = (grind (arith, ints, cut), grind (arith, ints, cut))

no_cut : (from at to : ℤ) → (int_lt from at && int_lt at to) ≡ false → (at ≤ℤ from) ⊎ (to ≤ℤ at)
no_cut from at to none = grind (arith, ints, none)

-- behind a cut
piece_behind : (book : BookSeen) (port : ℕ) (from to : ℤ) (change : Change) (later : List Change) (stretch : Stretch) → from <ℤ change.at
    → IsPiece book port change.at to later stretch → IsPiece book port from to (change ∷ later) stretch
piece_behind book port from to change later stretch less piece = record {
  behind = omega (arith, ints, less, piece.behind);
  before = piece.before;
  clocks = piece.clocks;
  outside = All-cons (IsOutside stretch.from stretch.to) change later (inl piece.behind) piece.outside;
}

-- with a change more that cuts nothing
piece_uncut : (book : BookSeen) (port : ℕ) (from to : ℤ) (change : Change) (later : List Change) (stretch : Stretch) → IsOutside from to change
    → IsPiece book port from to later stretch → IsPiece book port from to (change ∷ later) stretch
piece_uncut book port from to change later stretch outside piece = record {
  behind = piece.behind;
  before = piece.before;
  clocks = piece.clocks;
  outside = All-cons (IsOutside stretch.from stretch.to) change later still piece.outside;
}
  where
    still : IsOutside stretch.from stretch.to change
    still = elim outside [
      | inl by ↦ inl (omega (arith, ints, by, piece.behind))
      | inr behind ↦ inr (omega (arith, ints, behind, piece.before))
    ]

pieces : (book : BookSeen) (port : ℕ) (from to : ℤ) (changes : List Change) → AllPairs (λ (a b : Change). a.at <ℤ b.at) changes
    → All (IsPiece book port from to changes) (stretches_from book port from to changes)
pieces book port from to [] rising =
    All-cons (IsPiece book port from to []) (stretch_from book port from to) []
    (record { behind = omega (arith, ints); before = omega (arith, ints); clocks = refl; outside = All-nil (IsOutside from to) })
    (All-nil (IsPiece book port from to []))
pieces book port from to (change ∷ later) rising =
    let rest : AllPairs (λ (a b : Change). a.at <ℤ b.at) later = λ i j d less inside. rising (suc i) (suc j) d (omega (arith, less)) (omega (arith, inside)) in
    elim (cases_Bool (int_lt from change.at && int_lt change.at to)) [
      | inl cut ↦
          let within = cut_within from change.at to cut in
          let none_later : All (IsOutside from change.at) later = λ i d inside. inr (omega (arith, ints, rising 0 (suc i) d (omega arith) (omega (arith, inside)))) in
          let here : IsPiece book port from to (change ∷ later) (stretch_from book port from change.at) = record {
            behind = omega (arith, ints);
            before = omega (arith, ints, within.1);
            clocks = refl;
            outside = All-cons (IsOutside from change.at) change later (inr (omega (arith, ints))) none_later;
          } in
          let behind : All (IsPiece book port from to (change ∷ later)) (stretches_from book port change.at to later) =
          λ i d inside. piece_behind book port from to change later _ within.0 (pieces book port change.at to later rest i d inside) in
          rw cut (All-cons (IsPiece book port from to (change ∷ later)) (stretch_from book port from change.at) (stretches_from book port change.at to later) here behind)
      | inr none ↦
          let same : All (IsPiece book port from to (change ∷ later)) (stretches_from book port from to later) =
          λ i d inside. piece_uncut book port from to change later _ (no_cut from change.at to none) (pieces book port from to later rest i d inside) in
          rw none same
    ]

-- all that is shown is cut at all changes
pub clocks_kept : StretchesKeepClocks
clocks_kept book port rising i d inside t behind before =
    let piece = pieces book port (first_moment book) (end_shown book) (airport_of book port).changes rising i d inside in
    same_offset (airport_of book port).changes (port_offset book port) _ _ t piece.outside behind before ∙ sym piece.clocks
