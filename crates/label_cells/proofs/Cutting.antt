-- Rows in one list of values: there are as many as were counted, row i begins at i times the width, the values of one
-- more row make one row more at the end, and the front of the values are the first rows. All by induction on their
-- number: the first row is cut from the front, and the others are the rows of what is behind it.
use Rattle.std.proofs.Common.{◌≡◌, ℕ, zero, suc, ℤ, ◌+◌, ◌*◌, ◌<◌, ◌≤◌, arith, refl, List, [], ◌∷◌, ◌++◌, length, take, drop, get_or, sym, ◌∙◌, ap, ap₂}
use Rattle.std.proofs.lemmas.List.{drop-drop, take-append-le, drop-append-le, take_all, length-drop, take-take, drop-take}
use Rattle.label_cells.specs.Cutting.{rows_in}

none : (width : ℕ) → 0 ≡ zero * width
none width = omega arith

next : (i width : ℕ) → width + i * width ≡ suc i * width
next i width = omega arith

suc_more : (count : ℕ) → suc count + 1 ≡ suc (count + 1)
suc_more count = omega arith

pub length-rows_in : (width count : ℕ) (values : List ℤ) → length (rows_in width count values) ≡ count
unfolding rows_in
length-rows_in width zero values = refl
length-rows_in width (suc count) values = ap suc (length-rows_in width count (drop width values))

-- a row begins at its number times the width
pub row_in : (width count : ℕ) (values : List ℤ) (i : ℕ) → i < count → get_or (rows_in width count values) i [] ≡ take width (drop (i * width) values)
unfolding rows_in
row_in width zero values i below = absurd (omega (arith, below))
row_in width (suc count) values zero below = ap (λ from. take width (drop from values)) (none width)
row_in width (suc count) values (suc i) below =
    row_in width count (drop width values) i (omega (arith, below)) ∙ ap (take width) (drop-drop (i * width) width values)
    ∙ ap (λ from. take width (drop from values)) (next i width)

-- values of one more row make one more row
pub rows_in-push : (width count : ℕ) (values row : List ℤ) → length values ≡ count * width → length row ≡ width
    → rows_in width (count + 1) (values ++ row) ≡ rows_in width count values ++ row ∷ []
unfolding rows_in
rows_in-push width zero [] row fill wide = ap (λ r. r ∷ []) (take_all width row (omega (arith, wide)))
rows_in-push width zero (v ∷ values) row fill wide = absurd (omega (arith, fill))
rows_in-push width (suc count) values row fill wide =
    let fits : width ≤ length values = omega (arith, fill) in
    let left : length (drop width values) ≡ count * width = length-drop width values ∙ omega (arith, fill) in
    ap (λ n. rows_in width n (values ++ row)) (suc_more count)
    ∙ ap₂ (λ r rs. r ∷ rs) (take-append-le width values row fits)
    (ap (rows_in width (count + 1)) (drop-append-le width values row fits) ∙ rows_in-push width count (drop width values) row left wide)

-- the front of the values has the first rows
pub rows_in-take : (width kept count : ℕ) (values : List ℤ) → kept ≤ count
    → rows_in width kept (take (kept * width) values) ≡ take kept (rows_in width count values)
unfolding rows_in
rows_in-take width zero count values fewer = refl
rows_in-take width (suc kept) zero values fewer = absurd (omega (arith, fewer))
rows_in-take width (suc kept) (suc count) values fewer =
    let within : width ≤ suc kept * width = omega arith in
    ap₂ (λ r rs. r ∷ rs) (take-take width (suc kept * width) values within)
    (ap (rows_in width kept) (ap (λ n. drop width (take n values)) (sym (next kept width)) ∙ drop-take width (kept * width) values)
    ∙ rows_in-take width kept count (drop width values) (omega (arith, fewer)))
