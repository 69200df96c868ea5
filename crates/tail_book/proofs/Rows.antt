-- A table of rows of one length n: the entry `a` of row `k` stands at `k * n + a`, behind k rows. By induction on the
-- rows: the entry is in the first one, or that is passed with its n elements.
use Rattle.std.proofs.Common.{◌≡◌, ℕ, zero, suc, ◌+◌, ◌*◌, ◌<◌, ◌∙◌, arith, List, ◌++◌, length, sym, ap, get_or}
use Rattle.std.proofs.lemmas.List.{append-nil, append_assoc, get_or_append_left, get_or-append-add, length-append}
use Rattle.std.specs.List.{flat_map, range_with_len}

-- one row more
pub rows_more : {A : Type 0} (f : ℕ → List A) (s n j : ℕ) → s + n ≡ j → flat_map f (range_with_len s (suc n)) ≡ flat_map f (range_with_len s n) ++ f j
rows_more f s zero j e = append-nil (f s) ∙ ap f (omega (arith, e))
rows_more f s (suc n) j e =
    let rest = rows_more f (s + 1) n j (omega (arith, e)) in
    ap (λ xs. f s ++ xs) rest ∙ sym (append_assoc (f s) (flat_map f (range_with_len (s + 1) n)) (f j))

-- rows of n elements each
pub rows_length : {A : Type 0} (f : ℕ → List A) (n : ℕ) → ((j : ℕ) → length (f j) ≡ n) → (s m : ℕ) → length (flat_map f (range_with_len s m)) ≡ n * m
rows_length f n each s zero = omega arith
rows_length f n each s (suc m) =
    let joined = length-append (f s) (flat_map f (range_with_len (s + 1) m)) in
    let here = each s in
    let rest = rows_length f n each (s + 1) m in
    omega (arith, joined, here, rest)

pub entry : {A : Type 0} (d : A) (f : ℕ → List A) (n : ℕ) → ((j : ℕ) → length (f j) ≡ n) → (s m k a : ℕ) → k < m → a < n
    → get_or (flat_map f (range_with_len s m)) (k * n + a) d ≡ get_or (f (s + k)) a d
entry d f n each s zero k a lt la = absurd (omega (arith, lt))
entry d f n each s (suc m) zero a lt la =
    let rest = flat_map f (range_with_len (s + 1) m) in
    let place : 0 * n + a ≡ a = omega arith in
    let same : f s ≡ f (s + 0) = ap f (omega arith) in
    ap (λ i. get_or (f s ++ rest) i d) place ∙ get_or_append_left (f s) rest d a (omega (arith, each s, la)) ∙ ap (λ row. get_or row a d) same
entry d f n each s (suc m) (suc k) a lt la =
    let rest = flat_map f (range_with_len (s + 1) m) in
    let place : suc k * n + a ≡ length (f s) + (k * n + a) = omega (arith, each s) in
    let same : f (s + 1 + k) ≡ f (s + suc k) = ap f (omega arith) in
    ap (λ i. get_or (f s ++ rest) i d) place ∙ get_or-append-add (f s) rest (k * n + a) d
    ∙ entry d f n each (s + 1) m k a (omega (arith, lt)) la ∙ ap (λ row. get_or row a d) same
