-- Chunks that are filled from the front. Each lemma goes by induction on the chunks: of the first one its values are read,
-- and 1,024 rows fewer stand in the others.
use Rattle.std.proofs.Common.{◌≡◌, ℕ, zero, suc, ℤ, ◌+◌, ◌*◌, ◌-◌, ◌<◌, ◌≤◌, min, arith, refl, List, [], ◌∷◌, ◌++◌, length, take, drop, get_or, set, replicate, sym, ◌∙◌, ap, ap₂, subst, ◌^◌}
use Rattle.std.proofs.lemmas.Nat.{mul-le}
use Rattle.std.proofs.lemmas.List.{take-append-le, drop-append-le, take_all, length-append, length-take-le, length-drop, length-set, length-replicate, append-nil, append_assoc, get_or_default}
use Rattle.std.proofs.lemmas.List.Elements.{All-nil, All-get_or, All-set, All-append, All-replicate}
use Rattle.std.proofs.Math.Seq.{drop-append-add, take-append-add}
use Rattle.label_cells.specs.Seen.{ChunkSeen}
use Rattle.label_cells.specs.Cutting.{rows_in}
use Rattle.label_cells.specs.inside.Chunks.{stacked, AreFilled, AreChunks, empty_chunk}
use Rattle.label_cells.proofs.Cutting.{rows_in-push, rows_in-take}

-- what stands for a chunk past the end
abbrev pub no_chunk : ChunkSeen
no_chunk = record { values = []; room = 0 }

few_rows : (n : ℕ) → n < 1024 → min n 1024 ≡ n
few_rows n few = omega (arith, few)

many_rows : (n : ℕ) → 1024 ≤ n → min n 1024 ≡ 1024
many_rows n many = omega (arith, many)

-- there is room for all rows
pub filled_room : (width count : ℕ) (chunks : List ChunkSeen) → AreFilled width count chunks → count ≤ length chunks * 1024
unfolding AreFilled
filled_room width count [] filled = omega (arith, filled)
filled_room width count (chunk ∷ chunks) filled =
    let rest = filled_room width (count - 1024) chunks filled.1 in omega (arith, rest)

-- without rows there are no values
pub stacked_none : (width count : ℕ) (chunks : List ChunkSeen) → count ≡ 0 → AreFilled width count chunks → stacked chunks ≡ []
unfolding AreFilled stacked
stacked_none width count [] is filled = refl
stacked_none width count (chunk ∷ chunks) is filled =
    let nothing : length chunk.values ≡ 0 = filled.0 ∙ ap (λ n. min n 1024 * width) is ∙ omega arith in
    ap₂ (λ v w. v ++ w) (sym (take_all 0 chunk.values (omega (arith, nothing)))) (stacked_none width (count - 1024) chunks (omega (arith, is)) filled.1)

-- a row lies inside its chunk
pub place_inside : (width count : ℕ) (chunks : List ChunkSeen) (q r : ℕ) → AreFilled width count chunks → r < 1024 → q * 1024 + r < count
    → r * width + width ≤ length (get_or chunks q no_chunk).values
unfolding AreFilled
place_inside width count [] q r filled few below = absurd (omega (arith, filled, below))
place_inside width count (chunk ∷ chunks) zero r filled few below =
    let more : suc r ≤ min count 1024 = omega (arith, few, below) in
    let room : suc r * width ≤ min count 1024 * width = mul-le (suc r) width (min count 1024) width more (omega arith) in
    omega (arith, room, filled.0)
place_inside width count (chunk ∷ chunks) (suc q) r filled few below =
    place_inside width (count - 1024) chunks q r filled.1 few (omega (arith, below))

-- a full chunk has the values of 1,024 rows
full : (width count : ℕ) (chunk : ChunkSeen) → length chunk.values ≡ min count 1024 * width → 1024 ≤ count → length chunk.values ≡ 1024 * width
full width count chunk filled many = filled ∙ ap (λ n. n * width) (many_rows count many)

-- what begins behind a full chunk
behind : (width i : ℕ) → 1024 ≤ i → i * width ≡ 1024 * width + (i - 1024) * width
behind width i many =
    let parts : i ≡ 1024 + (i - 1024) = omega (arith, many) in
    let product : (1024 + (i - 1024)) * width ≡ 1024 * width + (i - 1024) * width = omega arith in
    ap (λ n. n * width) parts ∙ product

-- and it is the row of its number among all
pub place_values : (width count : ℕ) (chunks : List ChunkSeen) (i q r : ℕ) → AreFilled width count chunks → i ≡ q * 1024 + r → r < 1024 → i < count
    → take width (drop (r * width) (get_or chunks q no_chunk).values) ≡ take width (drop (i * width) (stacked chunks))
unfolding AreFilled stacked
place_values width count [] i q r filled is few below = absurd (omega (arith, filled, below))
place_values width count (chunk ∷ chunks) i zero r filled is few below =
    let first : r ≡ i = omega (arith, is) in
    let inside : r * width + width ≤ length chunk.values =
    place_inside width count (chunk ∷ chunks) zero r filled few (omega (arith, is, below)) in
    let left : length (drop (r * width) chunk.values) ≡ length chunk.values - r * width = length-drop (r * width) chunk.values in
    let fits : width ≤ length (drop (r * width) chunk.values) = omega (arith, inside, left) in
    sym (ap (take width) (drop-append-le (r * width) chunk.values (stacked chunks) (omega (arith, inside)))
    ∙ take-append-le width (drop (r * width) chunk.values) (stacked chunks) fits)
    ∙ ap (λ n. take width (drop (n * width) (chunk.values ++ stacked chunks))) first
place_values width count (chunk ∷ chunks) i (suc q) r filled is few below =
    let long = full width count chunk filled.0 (omega (arith, below, is)) in
    place_values width (count - 1024) chunks (i - 1024) q r filled.1 (omega (arith, is)) few (omega (arith, below, is))
    ∙ ap (take width) (sym (ap (λ n. drop n (chunk.values ++ stacked chunks)) (behind width i (omega (arith, is)) ∙ ap (λ n. n + (i - 1024) * width) (sym long))
    ∙ drop-append-add chunk.values (stacked chunks) ((i - 1024) * width)))

-- the next row goes behind what its chunk has
pub next_place : (width count : ℕ) (chunks : List ChunkSeen) (q r : ℕ) → AreFilled width count chunks → r < 1024 → count ≡ q * 1024 + r
    → q < length chunks → length (get_or chunks q no_chunk).values ≡ r * width
unfolding AreFilled
next_place width count [] q r filled few is room = absurd (omega (arith, room))
next_place width count (chunk ∷ chunks) zero r filled few is room =
    let rows : min count 1024 ≡ r = omega (arith, is, few) in
    filled.0 ∙ ap (λ n. n * width) rows
next_place width count (chunk ∷ chunks) (suc q) r filled few is room =
    next_place width (count - 1024) chunks q r filled.1 few (omega (arith, is)) (omega (arith, room))

module _ (width : ℕ) (row : List ℤ) (more : ChunkSeen) (wide : length row ≡ width) where
  -- with the row in its chunk it stands behind all values
  pub put_stacked : (count : ℕ) (chunks : List ChunkSeen) (q r : ℕ) → AreFilled width count chunks → r < 1024 → count ≡ q * 1024 + r
      → q < length chunks → more.values ≡ (get_or chunks q no_chunk).values ++ row → stacked (set chunks q more) ≡ stacked chunks ++ row
  unfolding AreFilled stacked
  put_stacked count [] q r filled few is room put = absurd (omega (arith, room))
  put_stacked count (chunk ∷ chunks) zero r filled few is room put =
      let nothing = stacked_none width (count - 1024) chunks (omega (arith, is, few)) filled.1 in
      ap₂ (λ v w. v ++ w) put nothing ∙ append-nil (chunk.values ++ row)
      ∙ ap (λ v. v ++ row) (sym (ap (λ w. chunk.values ++ w) nothing ∙ append-nil chunk.values))
  put_stacked count (chunk ∷ chunks) (suc q) r filled few is room put =
      ap (λ w. chunk.values ++ w) (put_stacked (count - 1024) chunks q r filled.1 few (omega (arith, is)) (omega (arith, room)) put)
      ∙ sym (append_assoc chunk.values (stacked chunks) row)

  -- and one row more fills the chunks
  pub put_filled : (count : ℕ) (chunks : List ChunkSeen) (q r : ℕ) → AreFilled width count chunks → r < 1024 → count ≡ q * 1024 + r
      → q < length chunks → more.values ≡ (get_or chunks q no_chunk).values ++ row → AreFilled width (count + 1) (set chunks q more)
  unfolding AreFilled
  put_filled count [] q r filled few is room put = absurd (omega (arith, room))
  put_filled count (chunk ∷ chunks) zero r filled few is room put =
      let rows : min (count + 1) 1024 ≡ r + 1 = omega (arith, is, few) in
      let before : length chunk.values ≡ r * width = next_place width count (chunk ∷ chunks) zero r filled few is room in
      let sum : r * width + width ≡ (r + 1) * width = omega arith in
      let rest : count - 1024 ≡ count + 1 - 1024 = omega (arith, is, few) in (
        ap length put ∙ length-append chunk.values row ∙ ap₂ (λ m n. m + n) before wide ∙ sum ∙ sym (ap (λ n. n * width) rows),
        subst (λ n. AreFilled width n chunks) rest filled.1,
      )
  put_filled count (chunk ∷ chunks) (suc q) r filled few is room put =
      let same : min count 1024 ≡ min (count + 1) 1024 = omega (arith, is) in
      let rest : count - 1024 + 1 ≡ count + 1 - 1024 = omega (arith, is) in (
        filled.0 ∙ ap (λ n. n * width) same,
        subst (λ n. AreFilled width n (set chunks q more)) rest
            (put_filled (count - 1024) chunks q r filled.1 few (omega (arith, is)) (omega (arith, room)) put),
      )

module _ (width : ℕ) (less : ChunkSeen) where
  -- where the last chunk with rows is cut, the front of all values is left
  pub cut_stacked : (count : ℕ) (chunks : List ChunkSeen) (kept q s : ℕ) → AreFilled width count chunks → kept ≡ q * 1024 + s → kept < count
      → count ≤ suc q * 1024 → less.values ≡ take (s * width) (get_or chunks q no_chunk).values
      → stacked (set chunks q less) ≡ take (kept * width) (stacked chunks)
  unfolding AreFilled stacked
  cut_stacked count [] kept q s filled is below few cut = absurd (omega (arith, filled, below))
  cut_stacked count (chunk ∷ chunks) kept zero s filled is below few cut =
      let first : s ≡ kept = omega (arith, is) in
      let nothing = stacked_none width (count - 1024) chunks (omega (arith, few)) filled.1 in
      ap₂ (λ v w. v ++ w) cut nothing ∙ append-nil (take (s * width) chunk.values)
      ∙ ap (take (s * width)) (sym (ap (λ w. chunk.values ++ w) nothing ∙ append-nil chunk.values))
      ∙ ap (λ n. take (n * width) (chunk.values ++ stacked chunks)) first
  cut_stacked count (chunk ∷ chunks) kept (suc q) s filled is below few cut =
      let long = full width count chunk filled.0 (omega (arith, below, is)) in
      ap (λ w. chunk.values ++ w) (cut_stacked (count - 1024) chunks (kept - 1024) q s filled.1 (omega (arith, is)) (omega (arith, below, is)) (omega (arith, few)) cut)
      ∙ sym (ap (λ n. take n (chunk.values ++ stacked chunks)) (behind width kept (omega (arith, is)) ∙ ap (λ n. n + (kept - 1024) * width) (sym long))
      ∙ take-append-add chunk.values (stacked chunks) ((kept - 1024) * width))

  -- and so many rows fill the chunks
  pub cut_filled : (count : ℕ) (chunks : List ChunkSeen) (kept q s : ℕ) → AreFilled width count chunks → kept ≡ q * 1024 + s → kept < count
      → count ≤ suc q * 1024 → less.values ≡ take (s * width) (get_or chunks q no_chunk).values → AreFilled width kept (set chunks q less)
  unfolding AreFilled
  cut_filled count [] kept q s filled is below few cut = absurd (omega (arith, filled, below))
  cut_filled count (chunk ∷ chunks) kept zero s filled is below few cut =
      let rows : s ≡ min kept 1024 = omega (arith, below, few, is) in
      let within : s ≤ min count 1024 = omega (arith, below, few, is) in
      let inside : s * width ≤ min count 1024 * width = mul-le s width (min count 1024) width within (omega arith) in
      let rest : count - 1024 ≡ kept - 1024 = omega (arith, below, few) in (
        ap length cut ∙ length-take-le (s * width) chunk.values (omega (arith, inside, filled.0)) ∙ ap (λ n. n * width) rows,
        subst (λ n. AreFilled width n chunks) rest filled.1,
      )
  cut_filled count (chunk ∷ chunks) kept (suc q) s filled is below few cut =
      let same : min count 1024 ≡ min kept 1024 = omega (arith, below, is) in (
        filled.0 ∙ ap (λ n. n * width) same,
        cut_filled (count - 1024) chunks (kept - 1024) q s filled.1 (omega (arith, is)) (omega (arith, below, is)) (omega (arith, few)) cut,
      )

-- chunks that are claimed have no values
claimed_stacked : (width n : ℕ) → stacked (replicate n (empty_chunk width)) ≡ []
unfolding stacked
claimed_stacked width zero = refl
claimed_stacked width (suc n) = claimed_stacked width n

pub grown_stacked : (width n : ℕ) (chunks : List ChunkSeen) → stacked (chunks ++ replicate n (empty_chunk width)) ≡ stacked chunks
unfolding stacked
grown_stacked width n [] = claimed_stacked width n
grown_stacked width n (chunk ∷ chunks) = ap (λ w. chunk.values ++ w) (grown_stacked width n chunks)

claimed_filled : (width count n : ℕ) → count ≡ 0 → AreFilled width count (replicate n (empty_chunk width))
unfolding AreFilled
claimed_filled width count zero is = is
claimed_filled width count (suc n) is = (
  sym (ap (λ m. min m 1024 * width) is ∙ omega arith),
  claimed_filled width (count - 1024) n (omega (arith, is)),
)

-- and leave the others filled as they are
pub grown_filled : (width count n : ℕ) (chunks : List ChunkSeen) → AreFilled width count chunks → AreFilled width count (chunks ++ replicate n (empty_chunk width))
unfolding AreFilled
grown_filled width count n [] filled = claimed_filled width count n filled
grown_filled width count n (chunk ∷ chunks) filled = (filled.0, grown_filled width (count - 1024) n chunks filled.1)

-- as many values as so many rows have
pub filled_values : (width count : ℕ) (chunks : List ChunkSeen) → AreFilled width count chunks → length (stacked chunks) ≡ count * width
unfolding AreFilled stacked
filled_values width count [] filled = sym (ap (λ n. n * width) filled ∙ omega arith)
filled_values width count (chunk ∷ chunks) filled =
    let parts : min count 1024 + (count - 1024) ≡ count = omega arith in
    let product : min count 1024 * width + (count - 1024) * width ≡ (min count 1024 + (count - 1024)) * width = omega arith in
    length-append chunk.values (stacked chunks) ∙ ap₂ (λ m n. m + n) filled.0 (filled_values width (count - 1024) chunks filled.1)
    ∙ product ∙ ap (λ n. n * width) parts

module _ (width count : ℕ) (chunks : List ChunkSeen) (are : AreChunks width count chunks) (q r : ℕ) (chunk : ChunkSeen)
    (inside : q < length chunks) (read : chunk ≡ get_or chunks q chunk) where
  is_chunk : chunk ≡ get_or chunks q no_chunk
  is_chunk = read ∙ get_or_default chunks q chunk no_chunk inside

  is_room : chunk.room ≡ 1024 * width
  is_room =
      ap (λ (s : ChunkSeen). s.room) is_chunk
      ∙ All-get_or (λ (s : ChunkSeen). s.room ≡ 1024 * width) chunks q no_chunk inside are.rooms

  -- there is room for a row where the count says so
  pub room_for_row : r < 1024 → count ≡ q * 1024 + r → length chunk.values + width ≤ chunk.room
  room_for_row few is =
      let long : length chunk.values ≡ r * width =
      ap (λ (s : ChunkSeen). length s.values) is_chunk ∙ next_place width count chunks q r are.filled few is inside in
      let next : suc r * width ≤ 1024 * width = mul-le (suc r) width 1024 width (omega (arith, few)) (omega arith) in
      omega (arith, long, next, is_room)

  -- and the values of rows that it has are there
  pub chunk_room : r < 1024 → q * 1024 + r < count → r * width ≤ length chunk.values
  chunk_room few below =
      let placed = place_inside width count chunks q r are.filled few below in
      omega (arith, placed, ap (λ (s : ChunkSeen). length s.values) is_chunk)

  -- what a row leaves where it is put
  module _ (row : List ℤ) (more : ChunkSeen) (wide : length row ≡ width) (few : r < 1024) (is : count ≡ q * 1024 + r)
      (put : more ≡ record { values = chunk.values ++ row; room = chunk.room }) where
    put_values : more.values ≡ (get_or chunks q no_chunk).values ++ row
    put_values = ap (λ (s : ChunkSeen). s.values) put ∙ ap (λ (s : ChunkSeen). s.values ++ row) is_chunk

    pub pushed_chunks : AreChunks width (count + 1) (set chunks q more)
    pushed_chunks = record {
      some = are.some;
      fits = are.fits;
      few = omega (arith, are.few, length-set chunks q more);
      rooms = All-set (λ (s : ChunkSeen). s.room ≡ 1024 * width) chunks q more (ap (λ (s : ChunkSeen). s.room) put ∙ is_room) are.rooms;
      filled = put_filled width row more wide count chunks q r are.filled few is inside put_values;
    }

    pub pushed_rows : rows_in width (count + 1) (stacked (set chunks q more)) ≡ rows_in width count (stacked chunks) ++ row ∷ []
    pushed_rows =
        ap (rows_in width (count + 1)) (put_stacked width row more wide count chunks q r are.filled few is inside put_values)
        ∙ rows_in-push width count (stacked chunks) row (filled_values width count chunks are.filled) wide

  -- and what is left where a chunk is cut
  module _ (kept : ℕ) (less : ChunkSeen) (is : kept ≡ q * 1024 + r) (below : kept < count) (last : count ≤ suc q * 1024)
      (cut : less ≡ record { values = take (r * width) chunk.values; room = chunk.room }) where
    cut_values : less.values ≡ take (r * width) (get_or chunks q no_chunk).values
    cut_values = ap (λ (s : ChunkSeen). s.values) cut ∙ ap (λ (s : ChunkSeen). take (r * width) s.values) is_chunk

    pub cut_chunks : AreChunks width kept (set chunks q less)
    cut_chunks = record {
      some = are.some;
      fits = are.fits;
      few = omega (arith, are.few, length-set chunks q less);
      rooms = All-set (λ (s : ChunkSeen). s.room ≡ 1024 * width) chunks q less (ap (λ (s : ChunkSeen). s.room) cut ∙ is_room) are.rooms;
      filled = cut_filled width less count chunks kept q r are.filled is below last cut_values;
    }

    pub cut_rows : rows_in width kept (stacked (set chunks q less)) ≡ take kept (rows_in width count (stacked chunks))
    cut_rows =
        ap (rows_in width kept) (cut_stacked width less count chunks kept q r are.filled is below last cut_values)
        ∙ rows_in-take width kept count (stacked chunks) (omega (arith, below))

-- chunks that are claimed behind the others
pub grown_chunks : (width count n : ℕ) (chunks : List ChunkSeen) → AreChunks width count chunks → length chunks + n ≤ 2 ^ 53
    → AreChunks width count (chunks ++ replicate n (empty_chunk width))
grown_chunks width count n chunks are few = record {
  some = are.some;
  fits = are.fits;
  few = omega (arith, few, length-append chunks (replicate n (empty_chunk width)), length-replicate n (empty_chunk width));
  rooms =
      All-append (λ (s : ChunkSeen). s.room ≡ 1024 * width) chunks (replicate n (empty_chunk width)) are.rooms
      (All-replicate (λ (s : ChunkSeen). s.room ≡ 1024 * width) n (empty_chunk width) refl);
  filled = grown_filled width count n chunks are.filled;
}

-- no chunks
pub no_chunks : (width : ℕ) → 1 ≤ width → 1024 * width < 2 ^ 64 → AreChunks width 0 []
unfolding AreFilled
no_chunks width some fits = record {
  some = some;
  fits = fits;
  few = omega arith;
  rooms = All-nil (λ (s : ChunkSeen). s.room ≡ 1024 * width);
  filled = refl;
}
