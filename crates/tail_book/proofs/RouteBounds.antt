-- Rising numbers below n are at most n, so a rising route costs at most what n activities do.
--
-- Behind a number `x` each is above the one before it, so `x` and the length of what follows stay below n. With duals
-- in the box a reduced cost lies within 2^61 of 0: a cost table asks that n ends of the box and the greatest cost, in
-- thousandths, come to no more.
use Rattle.std.proofs.Common.{◌≡◌, ℕ, ℤ, pos, suc, ◌+◌, ◌*◌, ◌^◌, ◌+ℤ◌, ◌-ℤ◌, ◌≤ℤ◌, ◌<◌, ◌≤◌, arith, List, [], ◌∷◌, length, map}
use Rattle.std.proofs.lemmas.Int.{ints}
use Rattle.std.proofs.lemmas.List.Elements.{All-head, All-tail, All-cons}
use Rattle.std.proofs.Math.Nat.{mul-le-mul}
use Rattle.std.specs.Prelude.{All}
use Rattle.tail_book.specs.Seen.{BookSeen}
use Rattle.tail_book.specs.TableSeen.{CostTableSeen}
use Rattle.tail_book.specs.declared.place.Place.{Place}
use Rattle.tail_book.specs.declared.place.Place.TheVariants.{After}
use Rattle.tail_book.specs.Lookup.{activities}
use Rattle.tail_book.specs.Cost.{cost_from}
use Rattle.tail_book.specs.CostTable.{IsCostTable, IsTableFor, IsInBox, box_end, cost_unit, cost_from_in, greatest_cost_in}
use Rattle.tail_book.specs.inside.Bounds.{greatest_cost}
use Rattle.tail_book.specs.inside.Rising.{IsRisingFrom}
use Rattle.tail_book.specs.Ranges.{IsWithin}
use Rattle.tail_book.specs.inside.Sound.{IsBook}
use Rattle.tail_book.specs.Sums.{total}
use Rattle.tail_book.proofs.Costs.{route_most}
use Rattle.tail_book.proofs.TableBounds.{route_most_in}

-- what comes after x has its numbers above x
short_after : (n x : ℕ) (route : List ℕ) → x < n → IsRisingFrom n (After x) route → x + length route < n
short_after n x [] lt rising = omega (arith, lt)
short_after n x (b ∷ rest) lt rising = let h = short_after n b rest rising.1 rising.2 in omega (arith, rising.0, h)

pub rising_short : (n : ℕ) (x : Place) (route : List ℕ) → IsRisingFrom n x route → length route ≤ n
rising_short n x [] rising = omega arith
rising_short n x (b ∷ rest) rising = let h = short_after n b rest rising.1 rising.2 in omega (arith, h)

pub rising_below : (n : ℕ) (x : Place) (route : List ℕ) → IsRisingFrom n x route → All (λ a. a < n) route
rising_below n x [] rising = λ i d lt. absurd (omega (arith, lt))
rising_below n x (b ∷ rest) rising = All-cons (λ a. a < n) b rest rising.1 (rising_below n (After b) rest rising.2)

pub rising_most : (book : BookSeen) → IsBook book → (k : ℕ) (x : Place) (route : List ℕ) → IsRisingFrom (activities book) x route
    → cost_from book k x route ≤ greatest_cost book
rising_most book sound k x route rising =
    let most = route_most book sound k x route (rising_below (activities book) x route rising) in
    let short = rising_short (activities book) x route rising in
    omega (arith, most, short)

within_times : (cost m n t c : ℕ) → cost ≤ m * c → m ≤ n → t ≡ n → cost ≤ t * c
within_times cost m n t c most short same =
    let times : m * c ≤ t * c = mul-le-mul (omega (arith, short, same)) (omega arith) in omega (arith, most, times)

pub rising_most_in : (table : CostTableSeen) (book : BookSeen) → IsCostTable table → IsTableFor book table → (k : ℕ) (x : Place) (route : List ℕ)
    → IsRisingFrom (activities book) x route → cost_from_in table book k x route ≤ greatest_cost_in table
rising_most_in table book sound for k x route rising =
    within_times (cost_from_in table book k x route) (length route) (activities book) table.n (table.fly_max + table.band_max)
    (route_most_in table book sound k x route) (rising_short (activities book) x route rising) for.activities

-- numbers from -e to e, n of them
duals_most : (e : ℕ) (dual : ℕ → ℤ) (n : ℕ) → ((a : ℕ) → a < n → IsWithin (pos 0 -ℤ pos e) (pos e) (dual a))
    → (xs : List ℕ) → All (λ a. a < n) xs → IsWithin (pos 0 -ℤ pos (length xs * e)) (pos (length xs * e)) (total (map dual xs))
duals_most e dual n each [] below = record { least = omega (arith, ints); most = omega (arith, ints) }
duals_most e dual n each (x ∷ xs) below =
    let here = each x (All-head (λ a. a < n) x xs below) in
    let rest = duals_most e dual n each xs (All-tail (λ a. a < n) x xs below) in
    added (dual x) (total (map dual xs)) (length xs * e) (suc (length xs) * e) (omega arith) here.least here.most rest.least rest.most
  where
    added : (d t : ℤ) (l m : ℕ) → m ≡ e + l → (pos 0 -ℤ pos e) ≤ℤ d → d ≤ℤ pos e → (pos 0 -ℤ pos l) ≤ℤ t → t ≤ℤ pos l
        → IsWithin (pos 0 -ℤ pos m) (pos m) (d +ℤ t)
    added d t l m f p q r s = record { least = omega (arith, ints, f, p, r); most = omega (arith, ints, f, q, s) }

within_box : (table : CostTableSeen) (dual : ℤ) → IsInBox table dual → IsWithin (pos 0 -ℤ pos (box_end table)) (pos (box_end table)) dual
within_box table dual box = moved (box_end table) box.least box.most
  where
    moved : (e : ℕ) → pos 0 ≤ℤ (dual +ℤ pos e) → dual ≤ℤ pos e → IsWithin (pos 0 -ℤ pos e) (pos e) dual
    moved e low high = record { least = omega (arith, ints, low); most = high }

-- a cost and as many duals as the box allows
reduced_most : (cost great duals most limit : ℕ) (t : ℤ) → cost ≤ great → duals ≤ most → most + cost_unit * great ≤ limit
    → IsWithin (pos 0 -ℤ pos duals) (pos duals) t → IsWithin (pos 0 -ℤ pos limit) (pos limit) (pos (cost_unit * cost) -ℤ t)
reduced_most cost great duals most limit t p q r within = record {
  least = let h = within.most in omega (arith, ints, h, q, r);
  most = let h = within.least in omega (arith, ints, h, p, q, r);
}

pub reduced_small : (table : CostTableSeen) (book : BookSeen) → IsCostTable table → IsTableFor book table
    → (dual : ℕ → ℤ) → ((a : ℕ) → a < activities book → IsInBox table (dual a))
    → (k : ℕ) (x : Place) (route : List ℕ) → IsRisingFrom (activities book) x route
    → IsWithin (pos 0 -ℤ pos (2 ^ 61)) (pos (2 ^ 61)) (pos (cost_unit * cost_from_in table book k x route) -ℤ total (map dual route))
reduced_small table book sound for dual box k x route rising =
    let short = rising_short (activities book) x route rising in
    let few : length route * box_end table ≤ table.n * box_end table = mul-le-mul (omega (arith, short, for.activities)) (omega arith) in
    reduced_most (cost_from_in table book k x route) (greatest_cost_in table) (length route * box_end table) (table.n * box_end table) (2 ^ 61) (total (map dual route))
    (rising_most_in table book sound for k x route rising) few sound.sums
    (duals_most (box_end table) dual (activities book) (λ a lt. within_box table (dual a) (box a lt)) route (rising_below (activities book) x route rising))
