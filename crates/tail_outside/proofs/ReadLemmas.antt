-- A file read piece by piece, where its bytes are told.
--
-- What was read so far is a front of the file's bytes. A piece is what stands right behind it, so both together are a
-- front again. A read that gives no byte, though there is room for some, is at the end: then the front is the whole
-- file, and so its first bytes up to the limit.
use Rattle.std.proofs.Common.{◌≡◌, ◌∙◌, ℕ, ◌+◌, ◌-◌, ◌≤◌, List, [], ◌++◌, Option, Some, None, IfSome, length, take, drop, sym, arith, append_assoc, length-append, length-take-le}
use Rattle.std.proofs.lemmas.List.{append-nil, length-take, drop-drop, take_all, take-append-drop, take-take}
use Rattle.tail_outside.specs.inside.Outside.{IsRead}

-- the bytes begin with these
abbrev pub Begins : List ℕ → List ℕ → Type 0
Begins xs bytes = xs ++ drop (length xs) bytes ≡ bytes

ended : (xs bytes : List ℕ) (limit : ℕ) → Begins xs bytes → drop (length xs) bytes ≡ [] → length xs ≤ limit → xs ≡ take limit bytes
ended xs bytes limit begins over short =
    let whole : xs ≡ bytes = sym (append-nil xs) ∙ rw over at begins in
    rw (← whole) (sym (take_all limit xs short))

longer : (xs bytes piece : List ℕ) (n : ℕ) → Begins xs bytes → piece ≡ take n (drop (length xs) bytes) → n ≤ length (drop (length xs) bytes) → Begins (xs ++ piece) bytes
longer xs bytes piece n begins is fits =
    let n_is : length piece ≡ n = rw is (length-take-le n (drop (length xs) bytes) fits) in
    let more : length (xs ++ piece) ≡ length xs + n = omega (arith, length-append xs piece, n_is) in
    let rest : drop (length xs + n) bytes ≡ drop n (drop (length xs) bytes) = sym (drop-drop n (length xs) bytes) in
    let split : piece ++ drop n (drop (length xs) bytes) ≡ drop (length xs) bytes = rw is (take-append-drop n (drop (length xs) bytes)) in
    rw (more, rest, append_assoc, split) begins

pub read-more : (told now : Option (List ℕ)) (xs buffer : List ℕ) (n : ℕ) → now ≡ told → IfSome told (Begins xs) → IfSome now (λ bytes. IsRead bytes (length xs) buffer n)
    → IfSome told (Begins (xs ++ take n buffer))
read-more None now xs buffer n same begins read = tt
read-more (Some bytes) now xs buffer n same begins read =
    let r : IsRead bytes (length xs) buffer n = rw same at read in
    longer xs bytes (take n buffer) n begins r.front r.within

-- the same of a piece that was asked for as a front of the buffer
pub read-piece : (told now : Option (List ℕ)) (xs buffer : List ℕ) (n most : ℕ) → now ≡ told → IfSome told (Begins xs) → IfSome now (λ bytes. IsRead bytes (length xs) (take most buffer) n)
    → n ≤ most → IfSome told (Begins (xs ++ take n buffer))
read-piece told now xs buffer n most same begins read few =
    let front : take n (take most buffer) ≡ take n buffer = take-take n most buffer few in
    rw (← front) (read-more told now xs (take most buffer) n same begins read)

-- a piece that is no longer than what is left stays within the limit
pub read-within : (limit : ℕ) (xs buffer : List ℕ) (n : ℕ) (ys : List ℕ) → ys ≡ xs ++ take n buffer → length xs ≤ limit → n ≤ limit - length xs → length ys ≤ limit
read-within limit xs buffer n ys is short few =
    let piece : length (take n buffer) ≤ n = rw (length-take n buffer) (omega arith) in
    rw is (omega (arith, length-append xs (take n buffer), piece))
