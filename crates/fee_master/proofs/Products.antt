-- Products of a count and a whole number, by induction on the count: they spread over sums, keep the sign, and lie within bounds.
use Rattle.std.proofs.Common.{◌≡◌, ℕ, zero, suc, ℤ, pos, ◌+◌, ◌*◌, ◌+ℤ◌, ◌-ℤ◌, ◌*ℤ◌, ◌≤ℤ◌, arith, refl}
use Rattle.std.proofs.Math.IntN.{suc_ℤ-*ℤ, zero-*ℤ}
use Rattle.std.proofs.lemmas.Int.{ints}
use Rattle.tail_book.specs.Ranges.{IsWithin}

pub spread : (t : ℕ) (x y : ℤ) → pos t *ℤ (x +ℤ y) ≡ (pos t *ℤ x) +ℤ (pos t *ℤ y)
spread zero x y = rw (zero-*ℤ (x +ℤ y), zero-*ℤ x, zero-*ℤ y) (omega (arith, ints))
spread (suc t) x y =
    let rest = spread t x y in
    let a : pos (suc t) *ℤ (x +ℤ y) ≡ pos t *ℤ (x +ℤ y) +ℤ (x +ℤ y) = suc_ℤ-*ℤ (pos t) (x +ℤ y) in
    let b : pos (suc t) *ℤ x ≡ pos t *ℤ x +ℤ x = suc_ℤ-*ℤ (pos t) x in
    let c : pos (suc t) *ℤ y ≡ pos t *ℤ y +ℤ y = suc_ℤ-*ℤ (pos t) y in
    omega (arith, ints, rest, a, b, c)

pub more_times : (s t : ℕ) (x : ℤ) → pos (s + t) *ℤ x ≡ (pos s *ℤ x) +ℤ (pos t *ℤ x)
more_times zero t x =
    let same : zero + t ≡ t = omega arith in
    rw (same, zero-*ℤ x) (omega (arith, ints))
more_times (suc s) t x =
    let more : suc s + t ≡ suc (s + t) = omega arith in
    let rest = more_times s t x in
    let a : pos (suc (s + t)) *ℤ x ≡ pos (s + t) *ℤ x +ℤ x = suc_ℤ-*ℤ (pos (s + t)) x in
    let b : pos (suc s) *ℤ x ≡ pos s *ℤ x +ℤ x = suc_ℤ-*ℤ (pos s) x in
    rw more (omega (arith, ints, rest, a, b))

pub none_of : (t : ℕ) → pos t *ℤ pos 0 ≡ pos 0
none_of zero = refl
none_of (suc t) =
    let rest = none_of t in
    let a : pos (suc t) *ℤ pos 0 ≡ pos t *ℤ pos 0 +ℤ pos 0 = suc_ℤ-*ℤ (pos t) (pos 0) in
    omega (arith, ints, rest, a)

pub once : (x : ℤ) → pos 1 *ℤ x ≡ x
once x =
    let a : pos 1 *ℤ x ≡ pos 0 *ℤ x +ℤ x = suc_ℤ-*ℤ (pos 0) x in
    let b = zero-*ℤ x in
    omega (arith, ints, a, b)

pub no_more : (t : ℕ) (x : ℤ) → x ≤ℤ pos 0 → (pos t *ℤ x) ≤ℤ pos 0
no_more zero x le = rw (zero-*ℤ x) (omega (arith, ints))
no_more (suc t) x le =
    let rest = no_more t x le in
    let a : pos (suc t) *ℤ x ≡ pos t *ℤ x +ℤ x = suc_ℤ-*ℤ (pos t) x in
    omega (arith, ints, rest, a, le)

pub no_less : (t : ℕ) (x : ℤ) → pos 0 ≤ℤ x → pos 0 ≤ℤ (pos t *ℤ x)
no_less zero x le = rw (zero-*ℤ x) (omega (arith, ints))
no_less (suc t) x le =
    let rest = no_less t x le in
    let a : pos (suc t) *ℤ x ≡ pos t *ℤ x +ℤ x = suc_ℤ-*ℤ (pos t) x in
    omega (arith, ints, rest, a, le)

-- a number within n of 0, so many times
pub within_times : (t n : ℕ) (x : ℤ) → IsWithin (pos 0 -ℤ pos n) (pos n) x → IsWithin (pos 0 -ℤ pos (t * n)) (pos (t * n)) (pos t *ℤ x)
within_times zero n x within = rw (zero-*ℤ x) (record { least = omega (arith, ints); most = omega (arith, ints) })
within_times (suc t) n x within =
    let rest = within_times t n x within in
    let low = rest.least in
    let high = rest.most in
    let a : pos (suc t) *ℤ x ≡ pos t *ℤ x +ℤ x = suc_ℤ-*ℤ (pos t) x in
    let from = within.least in
    let to = within.most in
    rw a (record { least = omega (arith, ints, low, from); most = omega (arith, ints, high, to) })
