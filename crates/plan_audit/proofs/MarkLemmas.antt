-- Marks of the numbers met: at the number that is met one mark more is set, and at any other the marks and the list say
-- what they said. The activities that no route has are found along the numbers: a range that is one longer has its last
-- number at the end, so the list of them grows by that number or stays.
use Rattle.std.proofs.Common.{◌≡◌, ◌≢◌, ◌∙◌, sym, ap, arith, ℕ, ◌+◌, ◌<◌, inl, inr, Bool, true, false, ◌||◌, nat_eq, List, [], ◌∷◌, ◌++◌, length, map, set, append_assoc}
use Rattle.std.proofs.lemmas.Bool.{cases_Bool}
use Rattle.std.proofs.lemmas.Bool.Decides.{nat_tests}
use Rattle.std.proofs.lemmas.List.{get_or-set_same, get_or-set_other, length-set, map-id, map-append}
use Rattle.std.proofs.lemmas.List.FromFn.{map-range_with_len_more}
use Rattle.std.proofs.lemmas.List.Elements.{filter-append}
use Rattle.std.proofs.lemmas.List.Folds.{list_any-append}
use Rattle.tail_book.specs.Numbers.{contains}
use Rattle.std.specs.List.{range_with_len, filter}
use Rattle.std.specs.Prelude.{not, cond}
use Rattle.plan_audit.specs.declared.broken.Broken.{Broken}
use Rattle.plan_audit.specs.declared.broken.Broken.TheVariants as rule
use Rattle.plan_audit.specs.inside.Marks.{AreMarks}

or_last : (p q : Bool) → (p || (q || false)) ≡ (q || p)
or_last p q = grind arith

-- one number more
pub marks-more : (marks : List Bool) (met : List ℕ) (a : ℕ) → a < length marks → AreMarks marks met → AreMarks (set marks a true) (met ++ a ∷ [])
marks-more marks met a within are b below =
    let more : contains (met ++ a ∷ []) b ≡ (nat_eq b a || contains met b) = list_any-append (nat_eq b) met (a ∷ []) ∙ or_last (contains met b) (nat_eq b a) in
    let long = length-set marks a true in
    elim (cases_Bool (nat_eq b a)) [
      | inl same ↦ (let e : b ≡ a = grind (arith, nat_tests) in rw (more, same, e) (get_or-set_same marks a true false within))
      | inr other ↦ (let e : b ≢ a = grind (arith, nat_tests) in rw (more, other) (get_or-set_other marks a b true false e ∙ are b (omega arith)))
    ]

range-more : (a n j : ℕ) → a + n ≡ j → range_with_len a (n + 1) ≡ range_with_len a n ++ j ∷ []
range-more a n j e = sym (map-id (range_with_len a (n + 1))) ∙ map-range_with_len_more (λ i. i) a n j e ∙ ap (λ xs. xs ++ j ∷ []) (map-id (range_with_len a n))

-- of one activity more
pub uncovered-next : (p : ℕ → Bool) (old list now : List Broken) (a : ℕ) (flown : Bool) → p a ≡ not flown
    → list ≡ old ++ map rule.Uncovered (filter p (range_with_len 0 a))
    → now ≡ list ++ map rule.Uncovered (filter (λ b. not flown) (a ∷ []))
    → now ≡ old ++ map rule.Uncovered (filter p (range_with_len 0 (a + 1)))
uncovered-next p old list now a flown here so_far e =
    let last : filter p (a ∷ []) ≡ filter (λ b. not flown) (a ∷ []) = ap (λ t. cond t (a ∷ []) []) here in
    let more : range_with_len 0 (a + 1) ≡ range_with_len 0 a ++ a ∷ [] = range-more 0 a a (omega arith) in
    let all : filter p (range_with_len 0 (a + 1)) ≡ filter p (range_with_len 0 a) ++ filter p (a ∷ []) = ap (filter p) more ∙ filter-append p (range_with_len 0 a) (a ∷ []) in
    e ∙ ap (λ xs. xs ++ map rule.Uncovered (filter (λ b. not flown) (a ∷ []))) so_far
    ∙ append_assoc old (map rule.Uncovered (filter p (range_with_len 0 a))) (map rule.Uncovered (filter (λ b. not flown) (a ∷ [])))
    ∙ ap (λ xs. old ++ xs) (sym (ap (map rule.Uncovered) (all ∙ ap (λ ys. filter p (range_with_len 0 a) ++ ys) last)
    ∙ map-append rule.Uncovered (filter p (range_with_len 0 a)) (filter (λ b. not flown) (a ∷ []))))
