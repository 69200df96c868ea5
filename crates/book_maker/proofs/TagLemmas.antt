-- The tags of rows, one row after the other: those of one row more stand behind the others, since joining the lists of
-- two runs of rows is joining each run.
use Rattle.std.proofs.Common.{◌≡◌, ◌∙◌, ◌<◌, ◌≤◌, ℕ, ◌+◌, ◌*◌, List, [], ◌∷◌, ◌++◌, append_assoc, arith, length, length-append, get_or, take, refl, ap, sym}
use Rattle.std.specs.List.{flat_map}
use Rattle.std.proofs.lemmas.List.{flat_map_more, take_more, take_all}
use Rattle.tail_book.specs.declared.limits.TheConstants.{ITEM_LIMIT}

-- the tags of one more row
pub tags-more : {A : Type 0} (tags : A → List (List ℕ)) (rows : List A) (i : ℕ) (row : A) → i < length rows → row ≡ get_or rows i row
    → flat_map tags (take (i + 1) rows) ≡ flat_map tags (take i rows) ++ tags row
tags-more tags rows i row within here =
    let more : take (i + 1) rows ≡ take i rows ++ row ∷ [] = take_more rows i row within ∙ rw (← here) refl in
    ap (flat_map tags) more ∙ sym (flat_map_more tags [] (take i rows) row)

-- the tags of all rows
pub tags-all : {A : Type 0} (tags : A → List (List ℕ)) (rows : List A) (i : ℕ) → length rows ≤ i → flat_map tags (take i rows) ≡ flat_map tags rows
tags-all tags rows i h = ap (flat_map tags) (take_all i rows h)

-- behind others stand the tags of the rows so far, and then those of one row more
pub added-more : {A : Type 0} (tags : A → List (List ℕ)) (rows : List A) (i : ℕ) (row : A) (before so_far now added : List (List ℕ))
    → i < length rows → row ≡ get_or rows i row → so_far ≡ before ++ flat_map tags (take i rows) → now ≡ so_far ++ added → added ≡ tags row
    → now ≡ before ++ flat_map tags (take (i + 1) rows)
added-more tags rows i row before so_far now added within here known behind named =
    behind ∙ rw (named, known, tags-more tags rows i row within here) (append_assoc before (flat_map tags (take i rows)) (tags row))

-- no row adds more tags than it may list
pub few-more : (before so_far now added : List (List ℕ)) (i : ℕ) → length so_far ≤ length before + ITEM_LIMIT * i
    → now ≡ so_far ++ added → length added ≤ ITEM_LIMIT → length now ≤ length before + ITEM_LIMIT * (i + 1)
few-more before so_far now added i known behind few = omega (arith, known, ap length behind, length-append so_far added, few)
