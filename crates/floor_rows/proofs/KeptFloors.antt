-- Rows of so many values each, one behind the other: the floor of an activity stands behind those of all smaller numbers.
-- To write a row is to set one floor, by induction on its number: the first row, or one among the rest behind the first.
use Rattle.std.specs.Int.{int_min}
use Rattle.std.specs.Prelude.{All, replicate, slice_range, if◌then◌else◌}
use Rattle.std.proofs.Common.{◌≡◌, ◌∙◌, ℕ, zero, suc, ℤ, pos, ◌+◌, ◌*◌, ◌<◌, ◌≤◌, Bool, true, false, arith, List, [], ◌∷◌, ◌++◌, length, take, drop, get_or, refl, sym, ap, subst, Option, None, Some}
use Rattle.std.proofs.Math.ListN.{set}
use Rattle.std.proofs.Math.Nat.{mul-le-mul_right}
use Rattle.std.proofs.Math.Seq.{take-append_seam, drop-append_seam}
use Rattle.std.proofs.lemmas.List.{take-append-le, drop-append-le, drop-drop, drop-take, take-take, length-append, length-replicate, length-take-le, length-drop, length-set}
use Rattle.std.proofs.lemmas.List.Elements.{All-set, All-get_or, All-nil, All-cons, All-head, All-tail}
use Rattle.std.proofs.lemmas.Int.{ints, clamps}
use Rattle.std.proofs.lemmas.Bool.{cond-true, cond-false}
use Rattle.branch_marks.specs.Floors.{lesser, lesser_floor}
use Rattle.tail_book.specs.Ranges.{IsWithin}
use Rattle.maint_counters.specs.inside.Counts.{AreCounts}
use Rattle.floor_rows.specs.inside.FloorRow.{kept_floors, IsKept, IsFloorRow}

pub kept_length : (w : ℕ) (flags : List Bool) (values : List ℤ) → length (kept_floors w flags values) ≡ length flags
kept_length w [] values = refl
kept_length w (flag ∷ flags) values = let h = kept_length w flags (drop w values) in omega (arith, h)

-- the floor of a number is read from its row
pub kept_get : (w i from : ℕ) (flags : List Bool) (values : List ℤ) → i < length flags → from ≡ i * w
    → get_or (kept_floors w flags values) i None ≡ (if get_or flags i false then Some (take w (drop from values)) else None)
kept_get w i from [] values lt e = absurd (omega (arith, lt))
kept_get w zero from (flag ∷ flags) values lt e =
    let none : from ≡ 0 = grind (arith, e) in
    ap (λ (n : ℕ). if flag then Some (take w (drop n values)) else None) (sym none)
kept_get w (suc i) from (flag ∷ flags) values lt e =
    let more : from ≡ w + i * w = grind (arith, e) in
    kept_get w i (i * w) flags (drop w values) (omega (arith, lt)) refl
    ∙ ap (λ (rest : List ℤ). if get_or flags i false then Some (take w rest) else None) (drop-drop (i * w) w values ∙ ap (λ (n : ℕ). drop n values) (sym more))

-- a floor is taken away by its flag
pub kept_clear : (w i : ℕ) (flags : List Bool) (values : List ℤ) → kept_floors w (set flags i false) values ≡ set (kept_floors w flags values) i None
kept_clear w i [] values = refl
kept_clear w zero (flag ∷ flags) values = refl
kept_clear w (suc i) (flag ∷ flags) values =
    ap (λ (rest : List (Option (List ℤ))). (if flag then Some (take w values) else None) ∷ rest) (kept_clear w i flags (drop w values))

-- the first row is not touched where a later one is written, and the rest is written behind it
first_row : (w f : ℕ) (values row rest : List ℤ) → w + f ≤ length values → take w ((take (w + f) values ++ row) ++ rest) ≡ take w values
first_row w f values row rest le =
    let all = length-take-le (w + f) values le in
    let more = length-append (take (w + f) values) row in
    take-append-le w (take (w + f) values ++ row) rest (omega (arith, all, more))
    ∙ (take-append-le w (take (w + f) values) row (omega (arith, all)) ∙ take-take w (w + f) values (omega arith))

later_rows : (w f : ℕ) (values row rest : List ℤ) → w + f ≤ length values
    → drop w ((take (w + f) values ++ row) ++ rest) ≡ (take f (drop w values) ++ row) ++ rest
later_rows w f values row rest le =
    let all = length-take-le (w + f) values le in
    let more = length-append (take (w + f) values) row in
    drop-append-le w (take (w + f) values ++ row) rest (omega (arith, all, more))
    ∙ ap (λ (front : List ℤ). front ++ rest)
    (drop-append-le w (take (w + f) values) row (omega (arith, all)) ∙ ap (λ (front : List ℤ). front ++ row) (drop-take w f values))

-- to write a row is to set a floor
pub kept_write : (w i from end : ℕ) (flags : List Bool) (values row : List ℤ) → i < length flags → from ≡ i * w → end ≡ from + w → length row ≡ w → end ≤ length values
    → kept_floors w (set flags i true) ((take from values ++ row) ++ drop end values) ≡ set (kept_floors w flags values) i (Some row)
kept_write w i from end [] values row lt e f size le = absurd (omega (arith, lt))
kept_write w zero from end (flag ∷ flags) values row lt e f size le =
    let none : from ≡ 0 = grind (arith, e) in
    let whole : end ≡ length row = omega (arith, none, f, size) in
    subst (λ (n : ℕ). kept_floors w (true ∷ flags) ((take n values ++ row) ++ drop end values) ≡ Some row ∷ kept_floors w flags (drop w values)) (sym none)
    (subst (λ (n : ℕ). kept_floors w (true ∷ flags) (row ++ drop n values) ≡ Some row ∷ kept_floors w flags (drop w values)) (sym whole)
    (subst (λ (n : ℕ). kept_floors n (true ∷ flags) (row ++ drop (length row) values) ≡ Some row ∷ kept_floors n flags (drop n values)) size
    (ap (λ (first : List ℤ). Some first ∷ kept_floors (length row) flags (drop (length row) (row ++ drop (length row) values))) (take-append_seam row (drop (length row) values))
    ∙ ap (λ (later : List ℤ). Some row ∷ kept_floors (length row) flags later) (drop-append_seam row (drop (length row) values)))))
kept_write w (suc i) from end (flag ∷ flags) values row lt e f size le =
    let more : from ≡ w + i * w = grind (arith, e) in
    let all : (w + i * w) + w ≤ length values = omega (arith, le, f, more) in
    let behind = length-drop w values in
    subst (λ (n : ℕ). kept_floors w (flag ∷ set flags i true) ((take n values ++ row) ++ drop end values)
    ≡ (if flag then Some (take w values) else None) ∷ set (kept_floors w flags (drop w values)) i (Some row)) (sym more)
    (ap (λ (first : List ℤ). (if flag then Some first else None) ∷ kept_floors w (set flags i true) (drop w ((take (w + i * w) values ++ row) ++ drop end values)))
    (first_row w (i * w) values row (drop end values) (omega (arith, all)))
    ∙ (ap (λ (later : List ℤ). (if flag then Some (take w values) else None) ∷ kept_floors w (set flags i true) later)
    (later_rows w (i * w) values row (drop end values) (omega (arith, all))
    ∙ ap (λ (rest : List ℤ). (take (i * w) (drop w values) ++ row) ++ rest)
    (ap (λ (n : ℕ). drop n values) (omega (arith, f, more)) ∙ sym (drop-drop (i * w + w) w values)))
    ∙ ap (λ (rest : List (Option (List ℤ))). (if flag then Some (take w values) else None) ∷ rest)
    (kept_write w i (i * w) (i * w + w) flags (drop w values) row (omega (arith, lt)) refl refl size (omega (arith, behind, all)))))

-- the lesser of two rows of counts is a row of counts
within_lesser : (v o : ℤ) → IsWithin (pos 0) (pos 14_400_000) v → IsWithin (pos 0) (pos 14_400_000) o → IsWithin (pos 0) (pos 14_400_000) (int_min v o)
within_lesser v o h k = record { least = omega (arith, ints, clamps); most = omega (arith, ints, clamps) }

pub lesser_counts : (values others : List ℤ) → AreCounts values → AreCounts others → AreCounts (lesser values others)
lesser_counts [] others h k = All-nil (IsWithin (pos 0) (pos 14_400_000))
lesser_counts (v ∷ values) [] h k = All-nil (IsWithin (pos 0) (pos 14_400_000))
lesser_counts (v ∷ values) (o ∷ others) h k =
    let P : ℤ → Type 0 = λ z. IsWithin (pos 0) (pos 14_400_000) z in
    All-cons P (int_min v o) (lesser values others) (within_lesser v o (All-head P v values h) (All-head P o others k))
    (lesser_counts values others (All-tail P v values h) (All-tail P o others k))

pub lesser_size : (n : ℕ) (values others : List ℤ) → length values ≡ n → length others ≡ n → length (lesser values others) ≡ n
lesser_size n [] others h k = h
lesser_size n (v ∷ values) [] h k = absurd (omega (arith, h, k))
lesser_size zero (v ∷ values) (o ∷ others) h k = absurd (omega (arith, h))
lesser_size (suc n) (v ∷ values) (o ∷ others) h k = let e = lesser_size n values others (omega (arith, h)) (omega (arith, k)) in omega (arith, e)

module _ (w : ℕ) (flags : List Bool) (values : List ℤ) (is : IsFloorRow w flags values) (i : ℕ) (lt : i < length flags) where
  -- the row of a number lies within the values, and its place is small
  pub row_fits : i * w + w ≤ length values
  row_fits = let le = mul-le-mul_right {m = i + 1} {n = length flags} w (omega (arith, lt)) in
      let size = is.size in grind (arith, le, size)

  -- what stands there is as it should be
  row_kept : IsKept w (get_or (kept_floors w flags values) i None)
  row_kept = let all = kept_length w flags values in All-get_or (IsKept w) (kept_floors w flags values) i None (omega (arith, lt, all)) is.kept

  pub row_known : get_or flags i false ≡ true → get_or (kept_floors w flags values) i None ≡ Some (take w (drop (i * w) values))
  row_known known = kept_get w i (i * w) flags values lt refl ∙ cond-true (get_or flags i false) (Some (take w (drop (i * w) values))) None known

  pub row_unknown : get_or flags i false ≡ false → get_or (kept_floors w flags values) i None ≡ None
  row_unknown known = kept_get w i (i * w) flags values lt refl ∙ cond-false (get_or flags i false) (Some (take w (drop (i * w) values))) None known

  pub row_counts : get_or flags i false ≡ true → (length (take w (drop (i * w) values)) ≡ w) × AreCounts (take w (drop (i * w) values))
  row_counts known = subst (λ (floor : Option (List ℤ)). IsKept w floor) (row_known known) row_kept

  pub cleared_is : IsFloorRow w (set flags i false) values
  cleared_is = let flags_kept = length-set flags i false in let size = is.size in let few = is.few in record {
    size = is.size ∙ ap (λ (n : ℕ). n * w) (sym flags_kept);
    few = omega (arith, few, flags_kept);
    narrow = is.narrow;
    kept = subst (λ (floors : List (Option (List ℤ))). All (IsKept w) floors) (sym (kept_clear w i flags values)) (All-set (IsKept w) (kept_floors w flags values) i None tt is.kept);
  }

  module _ (row : List ℤ) (size : length row ≡ w) (counts : AreCounts row) where
    abbrev written : List ℤ
    written = (take (i * w) values ++ row) ++ drop (i * w + w) values

    pub written_floors : kept_floors w (set flags i true) written ≡ set (kept_floors w flags values) i (Some row)
    written_floors = kept_write w i (i * w) (i * w + w) flags values row lt refl refl size row_fits

    pub written_is : IsFloorRow w (set flags i true) written
    written_is =
        let flags_kept = length-set flags i true in
        let fits = row_fits in
        let front = length-take-le (i * w) values (omega (arith, fits)) in
        let back = length-drop (i * w + w) values in
        let both = length-append (take (i * w) values) row in
        let all = length-append (take (i * w) values ++ row) (drop (i * w + w) values) in
        let few = is.few in
        let whole : length written ≡ length values = omega (arith, fits, front, back, both, all, size) in
        record {
          size = whole ∙ (is.size ∙ ap (λ (n : ℕ). n * w) (sym flags_kept));
          few = omega (arith, few, flags_kept);
          narrow = is.narrow;
          kept = subst (λ (floors : List (Option (List ℤ))). All (IsKept w) floors) (sym written_floors)
              (All-set (IsKept w) (kept_floors w flags values) i (Some row) (size, counts) is.kept);
        }

  -- a row that is written where there was no floor is the floor, and one that lowers a floor makes the lesser of both
  module _ (row : List ℤ) (size : length row ≡ w) (counts : AreCounts row) where
    abbrev IsLowered : List ℤ → Type 0
    IsLowered after = IsFloorRow w (set flags i true) after
        × (kept_floors w (set flags i true) after ≡ set (kept_floors w flags values) i (lesser_floor (get_or (kept_floors w flags values) i None) (Some row)))

    pub first_written : get_or flags i false ≡ false → (after : List ℤ) → after ≡ (take (i * w) values ++ row) ++ drop (i * w + length row) values → IsLowered after
    first_written known after e =
        let same : after ≡ (take (i * w) values ++ row) ++ drop (i * w + w) values
        = e ∙ ap (λ (n : ℕ). (take (i * w) values ++ row) ++ drop (i * w + n) values) size in
        subst (λ (z : List ℤ). IsLowered z) (sym same) (
          written_is row size counts,
          written_floors row size counts
              ∙ ap (λ (floor : Option (List ℤ)). set (kept_floors w flags values) i (lesser_floor floor (Some row))) (sym (row_unknown known)),
        )

    pub lesser_written : get_or flags i false ≡ true → (after : List ℤ)
        → after ≡ (take (i * w) values ++ lesser (slice_range values (i * w) (i * w + length row)) row) ++ drop (i * w + length row) values → IsLowered after
    lesser_written known after e =
        let old = take w (drop (i * w) values) in
        let (old_size, old_counts) = row_counts known in
        let part : slice_range values (i * w) (i * w + length row) ≡ old = ap (λ (n : ℕ). take n (drop (i * w) values)) (omega (arith, size)) in
        let same : after ≡ (take (i * w) values ++ lesser old row) ++ drop (i * w + w) values
        = e ∙ ap (λ (z : List ℤ). (take (i * w) values ++ lesser z row) ++ drop (i * w + length row) values) part
        ∙ ap (λ (n : ℕ). (take (i * w) values ++ lesser old row) ++ drop (i * w + n) values) size in
        let new_size = lesser_size w old row old_size size in
        let new_counts = lesser_counts old row old_counts counts in
        subst (λ (z : List ℤ). IsLowered z) (sym same) (
          written_is (lesser old row) new_size new_counts,
          written_floors (lesser old row) new_size new_counts
              ∙ ap (λ (floor : Option (List ℤ)). set (kept_floors w flags values) i (lesser_floor floor (Some row))) (sym (row_known known)),
        )

-- where no flag is set there is no floor
no_floors_of : (w n : ℕ) (values : List ℤ) → kept_floors w (replicate n false) values ≡ replicate n None
no_floors_of w zero values = refl
no_floors_of w (suc n) values = ap (λ (rest : List (Option (List ℤ))). None ∷ rest) (no_floors_of w n (drop w values))

none_kept : (w n : ℕ) → All (IsKept w) (replicate n None)
none_kept w zero = All-nil (IsKept w)
none_kept w (suc n) = All-cons (IsKept w) None (replicate n None) tt (none_kept w n)

pub no_floors : (w n : ℕ) (flags : List Bool) (values : List ℤ) → flags ≡ replicate n false → kept_floors w flags values ≡ replicate n None
no_floors w n flags values e = ap (λ (z : List Bool). kept_floors w z values) e ∙ no_floors_of w n values

pub no_floors_are : (w n : ℕ) (flags : List Bool) (values : List ℤ) → w ≤ 6 → n ≤ 4096 → flags ≡ replicate n false → length values ≡ n * w → IsFloorRow w flags values
no_floors_are w n flags values narrow few e size =
    let many : length flags ≡ n = ap (λ (z : List Bool). length z) e ∙ length-replicate n false in
    record {
      size = size ∙ ap (λ (m : ℕ). m * w) (sym many);
      few = omega (arith, few, many);
      narrow = narrow;
      kept = subst (λ (floors : List (Option (List ℤ))). All (IsKept w) floors) (sym (no_floors w n flags values e)) (none_kept w n);
    }
