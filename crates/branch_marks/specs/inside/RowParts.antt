-- The counters of a label, at most six numbers in an array that is 0 past their end. For src/row.rt.
use Rattle.std.specs.Prelude.{◌-◌, ◌≤◌, ◌≡◌, ℕ, ℤ, pos, List, ◌++◌, length, take, drop, replicate}
use Rattle.std.proofs.Common.{ap₂, arith, length-take-le, take-append-drop}
use Rattle.tail_book.specs.declared.limits.TheConstants.{COUNTER_LIMIT}
use Rattle.branch_marks.specs.declared.row.Row.TheInside.{Inside}

-- the numbers that count
abbrev pub values_of : Inside → List ℤ
values_of a = take a.count a.values

-- the array has room for six, and is 0 past the numbers
pub record IsPadded (a : Inside) : Type 0 where
  pub short : a.count ≤ COUNTER_LIMIT
  pub whole : length a.values ≡ COUNTER_LIMIT
  pub zeros : drop a.count a.values ≡ replicate (COUNTER_LIMIT - a.count) (pos 0)

-- the parts that these numbers make
abbrev pub parts_of : List ℤ → Inside
parts_of xs = record { count = length xs; values = xs ++ replicate (COUNTER_LIMIT - length xs) (pos 0) }

abbrev parts : ℕ → List ℤ → Inside
parts count values = record { count = count; values = values }

-- the numbers give the parts back
pub parts_of-values_of : (a : Inside) → IsPadded a → parts_of (values_of a) ≡ a
parts_of-values_of a h =
    let n : length (take a.count a.values) ≡ a.count = length-take-le a.count a.values (omega (arith, h.short, h.whole)) in
    let whole : take a.count a.values ++ replicate (COUNTER_LIMIT - length (take a.count a.values)) (pos 0) ≡ a.values =
    rw (n, ← h.zeros) (take-append-drop a.count a.values) in
    ap₂ parts n whole
