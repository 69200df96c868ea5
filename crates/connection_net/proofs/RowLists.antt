-- Rows cut from one list: row i is what stands from its start up to the next one. To add a row the list is cut at the
-- last end, the row is put behind, and its end becomes one start more. The rows before end there at the latest, so they
-- are cut from the part that stays; and the new row is all that comes behind that part.
use Rattle.std.proofs.Common.{◌≡◌, ◌∙◌, ℕ, ◌+◌, ◌-◌, ◌<◌, ◌≤◌, arith, ap, refl, sym, List, [], ◌∷◌, ◌++◌, length, take, drop, map}
use Rattle.std.specs.Prelude.{slice_index, slice_index_or}
use Rattle.std.specs.List.{range_with_len}
use Rattle.std.proofs.lemmas.List.{get_or_append_left, get_or-append-add, length-append, length-take-le, take-append-le, take-take, take_all, drop_at, drop-take}
use Rattle.std.proofs.lemmas.List.FromFn.{length-map-range_with_len, get_or-map-range_with_len, map-range_with_len_more, fill_by_all}
use Rattle.connection_net.specs.inside.Rows.{row_at, rows_of, last_end, AreStarts}

pub rows_length : (starts numbers : List ℕ) → length (rows_of starts numbers) ≡ length starts - 1
unfolding rows_of
rows_length starts numbers = length-map-range_with_len (row_at starts numbers) 0 (length starts - 1)

pub row_there : (starts numbers : List ℕ) (i : ℕ) → i < length (rows_of starts numbers) → slice_index_or (rows_of starts numbers) i [] ≡ row_at starts numbers i
unfolding rows_of
row_there starts numbers i lt = get_or-map-range_with_len (row_at starts numbers) 0 (length starts - 1) i i [] (omega (arith, lt, rows_length starts numbers)) (omega arith)

-- where two lists agree up to a place, so do their parts up to there
part_same : (xs ys : List ℕ) (from to : ℕ) → from ≤ to → take to xs ≡ take to ys → take (to - from) (drop from xs) ≡ take (to - from) (drop from ys)
part_same xs ys from to le same =
    let there : from + (to - from) ≡ to = omega arith in
    let agree : take (from + (to - from)) xs ≡ take (from + (to - from)) ys = rw there same in
    sym (drop-take from (to - from) xs) ∙ ap (drop from) agree ∙ drop-take from (to - from) ys

-- the part behind a front is what stands there
part_behind : (front row : List ℕ) (from : ℕ) → length front ≡ from → take (from + length row - from) (drop from (front ++ row)) ≡ row
part_behind front row from e =
    let long : from + length row - from ≡ length row = omega arith in
    rw (long, drop_at front row from e) (take_all (length row) row (omega arith))

-- rows before the last end are the same when a row follows
row_kept : (starts numbers row : List ℕ) (e i : ℕ) → AreStarts starts numbers → i + 1 < length starts
    → row_at (starts ++ e ∷ []) (take (last_end starts) numbers ++ row) i ≡ row_at starts numbers i
row_kept starts numbers row e i sound lt =
    let here = get_or_append_left starts (e ∷ []) 0 i (omega (arith, lt)) in
    let next = get_or_append_left starts (e ∷ []) 0 (i + 1) lt in
    let front = length-take-le (last_end starts) numbers sound.reach in
    let to = slice_index starts (i + 1) in
    let most = sound.most (i + 1) lt in
    rw (here, next)
    (part_same (take (last_end starts) numbers ++ row) numbers (slice_index starts i) to (sound.rise i lt)
    (take-append-le to (take (last_end starts) numbers) row (omega (arith, front, most)) ∙ take-take to (last_end starts) numbers most))

-- the new row is the one that follows
row_new : (starts numbers row : List ℕ) (m : ℕ) → AreStarts starts numbers → m + 1 ≡ length starts
    → row_at (starts ++ (last_end starts + length row) ∷ []) (take (last_end starts) numbers ++ row) m ≡ row
row_new starts numbers row m sound e =
    let end = last_end starts in
    let place : m ≡ length starts - 1 = omega (arith, e) in
    let here : slice_index (starts ++ (end + length row) ∷ []) m ≡ end = get_or_append_left starts _ 0 m (omega (arith, e)) ∙ ap (slice_index starts) place in
    let shown : m + 1 ≡ length starts + 0 = omega (arith, e) in
    let next : slice_index (starts ++ (end + length row) ∷ []) (m + 1) ≡ end + length row =
    ap (slice_index (starts ++ (end + length row) ∷ [])) shown ∙ get_or-append-add starts ((end + length row) ∷ []) 0 0 in
    rw (here, next) (part_behind (take end numbers) row end (length-take-le end numbers sound.reach))

-- a row more stands behind the others
pub rows_more : (starts numbers row : List ℕ) → AreStarts starts numbers
    → rows_of (starts ++ (last_end starts + length row) ∷ []) (take (last_end starts) numbers ++ row) ≡ rows_of starts numbers ++ row ∷ []
unfolding rows_of
rows_more starts numbers row sound =
    let m = length starts - 1 in
    let old = row_at starts numbers in
    let new = row_at (starts ++ (last_end starts + length row) ∷ []) (take (last_end starts) numbers ++ row) in
    let some = sound.some in
    let long : length (starts ++ (last_end starts + length row) ∷ []) - 1 ≡ m + 1 = omega (arith, length-append starts ((last_end starts + length row) ∷ []), some) in
    let kept : map old (range_with_len 0 m) ≡ map new (range_with_len 0 m) =
    fill_by_all new (map old (range_with_len 0 m)) m [] (length-map-range_with_len old 0 m)
    (λ k lt. get_or-map-range_with_len old 0 m k k [] lt (omega arith) ∙ sym (row_kept starts numbers row _ k sound (omega (arith, lt, some)))) in
    ap (λ n. map new (range_with_len 0 n)) long ∙ map-range_with_len_more new 0 m m (omega arith)
    ∙ ap (λ rows. rows ++ new m ∷ []) (sym kept) ∙ ap (λ last. map old (range_with_len 0 m) ++ last ∷ []) (row_new starts numbers row m sound (omega (arith, some)))

pub no_rows : rows_of (0 ∷ []) [] ≡ []
unfolding rows_of
no_rows = refl
