-- Sets as the bits of two words: below 128, aircraft i is bit i of the low word, and from there on bit i - 128 of the
-- high one. To add an aircraft sets one bit of one word and leaves all others, so the set then has whom it had and the
-- new one. Three sets have an aircraft in common exactly where their low words or their high words share a bit. Where
-- what the three words share is not 0, its lowest bit is such an aircraft; where it is 0, it has no bit, and there is
-- none.
use Rattle.std.proofs.Common.{◌≡◌, ◌≢◌, ◌∙◌, ℕ, ◌+◌, ◌-◌, ◌*◌, ◌%◌, ◌^◌, ◌<◌, ◌≤◌, arith, ap, Bool, true, false, refl, sym, ⊎_elim}
use Rattle.std.specs.Prelude.{◌||◌, ◌&&◌, IsTrue, not, nat_eq, nat_lt, bit_or, bit_and, min, if◌then◌else◌}
use Rattle.std.specs.Int.{bit_at, trailing_zeros, w128}
use Rattle.std.proofs.lemmas.Bool.{eq-eqb, ne_eqb, cases_eq, cases_lt}
use Rattle.std.proofs.lemmas.Bool.Decides.{nat_tests}
use Rattle.std.proofs.lemmas.Nat.{and_le_l}
use Rattle.std.proofs.lemmas.Nat.Bits.{bit_at-zero, bit_at_and, bit_at-lt, bit_at_set_same, bit_at_set_other, bit_at-trailing_zeros}
use Rattle.connection_net.specs.declared.aircraft_set.AircraftSet.{AircraftSet}
use Rattle.connection_net.specs.inside.AircraftSet.{has}

either : (b : Bool) (x y z : Bool) → x ≡ z → y ≡ z → (if b then x else y) ≡ z
either true x y z p q = p
either false x y z p q = q

no_bit : (i : ℕ) → nat_eq (bit_at 0 i) 1 ≡ false
no_bit i = ap (λ b. nat_eq b 1) (bit_at-zero i)

pub none_has : (i : ℕ) → has (record { low = 0; high = 0 }) i ≡ false
unfolding has
none_has i = either (nat_lt i 128) _ _ false (no_bit i) (no_bit (i - 128))

or_true : (p : Bool) → true ≡ (p || true)
or_true p = grind arith

or_false : (p : Bool) → p ≡ (p || false)
or_false p = grind arith

bit_more : (bits k i : ℕ) → k < 128 → nat_eq (bit_at (bit_or bits (1 * 2 ^ k % 340282366920938463463374607431768211456)) i) 1 ≡ (nat_eq (bit_at bits i) 1 || nat_eq i k)
bit_more bits k i lt = ⊎_elim (λ same. rw same (ap (λ b. nat_eq b 1) (bit_at_set_same w128 bits k lt) ∙ or_true (nat_eq (bit_at bits k) 1) ∙ ap (λ t. nat_eq (bit_at bits k) 1 || t) (sym (eq-eqb k k refl))))
    (λ other. ap (λ b. nat_eq b 1) (bit_at_set_other w128 bits k lt i other) ∙ or_false (nat_eq (bit_at bits i) 1) ∙ ap (λ t. nat_eq (bit_at bits i) 1 || t) (sym (ne_eqb i k other)))
    (cases_eq i k)

-- a number other than the new one is as before
unchanged : (b : Bool) (i k : ℕ) → i ≢ k → b ≡ (b || nat_eq i k)
unchanged b i k other = or_false b ∙ ap (λ t. b || t) (sym (ne_eqb i k other))

moved : (i k : ℕ) → 128 ≤ i → 128 ≤ k → nat_eq (i - 128) (k - 128) ≡ nat_eq i k
moved i k li lk = grind (arith, nat_tests)

-- the two sides of a test, each by what the test says
by_test : (i n : ℕ) (x y z : Bool) → (i < n → x ≡ z) → (n ≤ i → y ≡ z) → (if nat_lt i n then x else y) ≡ z
by_test i n x y z p q = grind (arith, nat_tests)

-- the bits of a number below 128 are those of the low word, and of a number from 128 on those of the high word
low_has : (set : AircraftSet) (i : ℕ) → i < 128 → has set i ≡ nat_eq (bit_at set.low i) 1
unfolding has
low_has set i lt = by_test i 128 _ _ _ (λ _. refl) (λ le. absurd (omega arith))

high_has : (set : AircraftSet) (i : ℕ) → 128 ≤ i → has set i ≡ nat_eq (bit_at set.high (i - 128)) 1
unfolding has
high_has set i le = by_test i 128 _ _ _ (λ lt. absurd (omega arith)) (λ _. refl)

pub with_low : (set : AircraftSet) (k i : ℕ) → k < 128
    → has (record { low = bit_or set.low (1 * 2 ^ k % 340282366920938463463374607431768211456); high = set.high }) i ≡ (has set i || nat_eq i k)
unfolding has
with_low set k i lt = by_test i 128 _ _ _
    (λ below. bit_more set.low k i lt ∙ ap (λ b. b || nat_eq i k) (sym (low_has set i below)))
    (λ above. unchanged _ i k (λ e. omega arith) ∙ ap (λ b. b || nat_eq i k) (sym (high_has set i above)))

pub with_high : (set : AircraftSet) (k i : ℕ) → 128 ≤ k → k < 256
    → has (record { low = set.low; high = bit_or set.high (1 * 2 ^ (k - 128) % 340282366920938463463374607431768211456) }) i ≡ (has set i || nat_eq i k)
unfolding has
with_high set k i le lt = by_test i 128 _ _ _
    (λ below. unchanged _ i k (λ e. omega arith) ∙ ap (λ b. b || nat_eq i k) (sym (low_has set i below)))
    (λ above. bit_more set.high (k - 128) (i - 128) (omega arith) ∙ ap (λ b. nat_eq (bit_at set.high (i - 128)) 1 || b) (moved i k above le) ∙ ap (λ b. b || nat_eq i k) (sym (high_has set i above)))

-- three words have a bit in common
common : (a b c i : ℕ) → bit_at (bit_and (bit_and a b) c) i ≡ min (min (bit_at a i) (bit_at b i)) (bit_at c i)
common a b c i = bit_at_and (bit_and a b) c i ∙ ap (λ t. min t (bit_at c i)) (bit_at_and a b i)

all_one : (x y z : ℕ) → x < 2 → y < 2 → z < 2 → min (min x y) z ≡ 1 → (nat_eq x 1 && (nat_eq y 1 && nat_eq z 1)) ≡ true
all_one x y z lx ly lz e = grind (arith, nat_tests)

one_all : (x y z : ℕ) → (nat_eq x 1 && (nat_eq y 1 && nat_eq z 1)) ≡ true → min (min x y) z ≡ 1
one_all x y z e = grind (arith, nat_tests)

-- words that are not apart have a bit in common: the lowest one of what they share
words_meet : (a b c : ℕ) → a < 2 ^ 128 → bit_and (bit_and a b) c ≢ 0
    → (i : ℕ) × (i < 128) × ((nat_eq (bit_at a i) 1 && (nat_eq (bit_at b i) 1 && nat_eq (bit_at c i) 1)) ≡ true)
words_meet a b c fits apart =
    let n = bit_and (bit_and a b) c in
    let first = and_le_l a b in
    let second = and_le_l (bit_and a b) c in
    let some : 0 < n = omega (arith, apart) in
    let small : n < 2 ^ 128 = omega (arith, first, second, fits) in
    let found = bit_at-trailing_zeros w128 n some small in
    let i = trailing_zeros w128 n in
    (i, found.0, all_one _ _ _ (bit_at-lt a i) (bit_at-lt b i) (bit_at-lt c i) (sym (common a b c i) ∙ found.1))

-- words that share no bit are apart at each place
apart_at : (a b c i : ℕ) → bit_and (bit_and a b) c ≡ 0 → (nat_eq (bit_at a i) 1 && (nat_eq (bit_at b i) 1 && nat_eq (bit_at c i) 1)) ≡ true → ⊥
apart_at a b c i none all =
    let one : bit_at (bit_and (bit_and a b) c) i ≡ 1 = common a b c i ∙ one_all _ _ _ all in
    let zeros : bit_at (bit_and (bit_and a b) c) i ≡ 0 = ap (λ n. bit_at n i) none ∙ bit_at-zero i in
    omega (arith, one, zeros)

all_three : (a b c x y z : Bool) → a ≡ x → b ≡ y → c ≡ z → (a && (b && c)) ≡ (x && (y && z))
all_three a b c x y z p q r = rw (p, q, r) refl

low_all : (a b c : AircraftSet) (k : ℕ) → k < 128
    → (has a k && (has b k && has c k)) ≡ (nat_eq (bit_at a.low k) 1 && (nat_eq (bit_at b.low k) 1 && nat_eq (bit_at c.low k) 1))
low_all a b c k lt = all_three _ _ _ _ _ _ (low_has a k lt) (low_has b k lt) (low_has c k lt)

high_all : (a b c : AircraftSet) (k : ℕ) → 128 ≤ k
    → (has a k && (has b k && has c k)) ≡ (nat_eq (bit_at a.high (k - 128)) 1 && (nat_eq (bit_at b.high (k - 128)) 1 && nat_eq (bit_at c.high (k - 128)) 1))
high_all a b c k le = all_three _ _ _ _ _ _ (high_has a k le) (high_has b k le) (high_has c k le)

pub low_meets : (a b c : AircraftSet) → a.low < 2 ^ 128 → bit_and (bit_and a.low b.low) c.low ≢ 0
    → (k : ℕ) × IsTrue (has a k && (has b k && has c k))
low_meets a b c fits apart =
    let met = words_meet a.low b.low c.low fits apart in
    (met.0, low_all a b c met.0 met.1 ∙ met.2)

pub high_meets : (a b c : AircraftSet) → a.high < 2 ^ 128 → bit_and (bit_and a.high b.high) c.high ≢ 0
    → (k : ℕ) × IsTrue (has a k && (has b k && has c k))
high_meets a b c fits apart =
    let met = words_meet a.high b.high c.high fits apart in
    let i = met.0 in
    let back : i + 128 - 128 ≡ i = omega arith in
    let here : (nat_eq (bit_at a.high (i + 128 - 128)) 1 && (nat_eq (bit_at b.high (i + 128 - 128)) 1 && nat_eq (bit_at c.high (i + 128 - 128)) 1)) ≡ true = rw back met.2 in
    (i + 128, high_all a b c (i + 128) (omega arith) ∙ here)

pub none_meet : (a b c : AircraftSet) → bit_and (bit_and a.low b.low) c.low ≡ 0 → bit_and (bit_and a.high b.high) c.high ≡ 0
    → (k : ℕ) → IsTrue (has a k && (has b k && has c k)) → ⊥
none_meet a b c low high k met =
    ⊎_elim (λ (lt : k < 128). apart_at a.low b.low c.low k low (sym (low_all a b c k lt) ∙ met))
    (λ (le : 128 ≤ k). apart_at a.high b.high c.high (k - 128) high (sym (high_all a b c k le) ∙ met))
    (cases_lt k 128)

pub differs : (a b : ℕ) → IsTrue (not (nat_eq a b)) → a ≢ b
differs a b h e = grind (arith, nat_tests)

pub differs_from : (a b : ℕ) → a ≢ b → IsTrue (not (nat_eq a b))
differs_from a b h = grind (arith, nat_tests)
