-- The counters of a label are read one after the other. Those that were read stand before what is left, and both
-- together are what the whole text gives: so where a word is bad all of it is, and where none is left those that were
-- read are it. The limit is of six counters. A seventh word is refused when it comes, and then the whole has more than
-- six words too.
use Rattle.std.proofs.Common.{◌≡◌, ◌∙◌, ◌+◌, ◌≤◌, ◌<◌, ℕ, ℤ, List, [], ◌∷◌, ◌++◌, Bool, Option, Some, None, length, nat_le, true, false, refl, arith, append_assoc}
use Rattle.std.proofs.lemmas.Bool.Decides.{nat_tests}
use Rattle.std.proofs.lemmas.List.{append-nil}
use Rattle.std.specs.Prelude.{option_map, if◌then◌else◌}
use Rattle.cert_lines.specs.Words.{amount, counters_of, counters_in}

-- what was read before what is left
abbrev pub joined : List ℤ → Option (List ℤ) → Option (List ℤ)
joined so_far None = None
joined so_far (Some more) = Some (so_far ++ more)

-- so many were read, and what is left decides
pub record AreRead (all words : List (List ℕ)) (count : ℕ) (so_far : List ℤ) : Type 0 where
  pub few : count ≤ 6
  pub counted : length all ≡ count + length words
  pub known : counters_of all ≡ joined so_far (counters_of words)

joined-nil : (left : Option (List ℤ)) → left ≡ joined [] left
joined-nil None = refl
joined-nil (Some more) = refl

joined-more : (so_far : List ℤ) (v : ℤ) (left : Option (List ℤ)) → joined so_far (option_map (λ rest. v ∷ rest) left) ≡ joined (so_far ++ v ∷ []) left
joined-more so_far v None = refl
joined-more so_far v (Some more) = rw append_assoc refl

pub counters_of-more : (word : List ℕ) (words : List (List ℕ)) (v : ℤ) → amount word ≡ Some v
    → counters_of (word ∷ words) ≡ option_map (λ rest. v ∷ rest) (counters_of words)
unfolding counters_of
counters_of-more word words v e = rw e refl

pub counters_of-bad : (word : List ℕ) (words : List (List ℕ)) → amount word ≡ None → counters_of (word ∷ words) ≡ None
unfolding counters_of
counters_of-bad word words e = rw e refl

pub counters_of-nil : counters_of [] ≡ Some []
unfolding counters_of
counters_of-nil = refl

few_enough : (n : ℕ) → n ≤ 6 → nat_le n 6 ≡ true
few_enough n h = grind (arith, nat_tests)

too_many : (n : ℕ) → 6 < n → nat_le n 6 ≡ false
too_many n h = grind (arith, nat_tests)

none_if : (test : Bool) (given : Option (List ℤ)) → given ≡ None → (if test then given else None) ≡ None
none_if true given e = e
none_if false given e = refl

module _ (all words : List (List ℕ)) (count : ℕ) (so_far : List ℤ) (read : AreRead all words count so_far) where
  pub reads-more : (word : List ℕ) (rest : List (List ℕ)) → words ≡ word ∷ rest → count < 6 → (v : ℤ) → amount word ≡ Some v
      → (longer : List ℤ) → longer ≡ so_far ++ v ∷ [] → AreRead all rest (count + 1) longer
  reads-more word rest is room v e longer grown =
      let n : length words ≡ length rest + 1 = rw is (omega arith) in
      record {
        few = omega arith;
        counted = omega (arith, n, read.counted);
        known = read.known ∙ rw (is, counters_of-more word rest v e, grown) (joined-more so_far v (counters_of rest));
      }

  pub reads-bad : (word : List ℕ) (rest : List (List ℕ)) → words ≡ word ∷ rest → amount word ≡ None → counters_in all ≡ None
  reads-bad word rest is e = none_if (nat_le (length all) 6) (counters_of all) (read.known ∙ rw (is, counters_of-bad word rest e) refl)

  pub reads-all : words ≡ [] → counters_in all ≡ Some so_far
  reads-all is =
      let none_left : length words ≡ 0 = rw is refl in
      rw (few_enough (length all) (omega (arith, none_left, read.few, read.counted))) (read.known ∙ rw (is, counters_of-nil, append-nil) refl)
