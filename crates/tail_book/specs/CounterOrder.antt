-- The order of counter values. For cert_checker/src/buckets.rt, label_store/src/bucket.rt and others.
use Rattle.std.specs.Prelude.{ℤ, ◌≤ℤ◌, ⊤, Bool, true, false, ◌&&◌, List, [], ◌∷◌}
use Rattle.tail_book.specs.Numbers.{int_le}

-- as many values as others, each at most the one at its place
abbrev pub EachAtMost : List ℤ → List ℤ → Type 0
EachAtMost [] [] = ⊤
EachAtMost [] (other ∷ others) = ⊥
EachAtMost (value ∷ values) [] = ⊥
EachAtMost (value ∷ values) (other ∷ others) = (value ≤ℤ other) × EachAtMost values others

-- the test for it
abbrev pub each_at_most : List ℤ → List ℤ → Bool
each_at_most [] [] = true
each_at_most [] (other ∷ others) = false
each_at_most (value ∷ values) [] = false
each_at_most (value ∷ values) (other ∷ others) = int_le value other && each_at_most values others
