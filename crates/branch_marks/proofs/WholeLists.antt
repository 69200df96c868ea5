-- Lists that grow at their end, and what is in them. In a sequence of lists, each the one before it with more at its
-- end, what is in one is in every later one: by induction on the number of the later one. What is in a list is in what
-- a test keeps of it where it passes. And in two lists joined all pairs are related where those of each list are, and
-- each element of the first with each of the second.
use Rattle.std.proofs.Common.{◌≡◌, ◌∙◌, inl, inr, ℕ, zero, suc, ◌≤◌, arith, refl, sym, ap, subst, Bool, true, false, cond, List, [], ◌∷◌, ◌++◌, map}
use Rattle.std.proofs.lemmas.Bool.{cases_order}
use Rattle.std.proofs.lemmas.List.{get_or-map, length-map}
use Rattle.std.proofs.lemmas.List.Elements.{All-append, Contains-append_left}
use Rattle.std.proofs.lemmas.List.Kept.{AllPairs-cons}
use Rattle.std.specs.Prelude.{All, AllPairs}
use Rattle.std.specs.List.{Contains, filter}

-- what is in a list of the sequence is in each later one, where each is the one before it with more at its end
pub kept : {X : Type 0} (lists more : ℕ → List X) → ((n : ℕ) → lists (suc n) ≡ lists n ++ more n) → (x : X) (m n : ℕ) → m ≤ n
    → Contains (lists m) x → Contains (lists n) x
kept {X} lists more grows x m zero le has = let same : m ≡ 0 = omega (arith, le) in subst (λ (i : ℕ). Contains (lists i) x) same has
kept {X} lists more grows x m (suc n) le has = elim (cases_order m (suc n)) [
  | inl same ↦ subst (λ (i : ℕ). Contains (lists i) x) same has
  | inr o ↦ elim o [
    | inl less ↦ subst (λ (xs : List X). Contains xs x) (sym (grows n))
        (Contains-append_left (lists n) (more n) x (kept lists more grows x m n (omega (arith, less)) has))
    | inr above ↦ absurd (omega (arith, above, le))
  ]
]

pub first_contained : {X : Type 0} (x : X) (xs : List X) → Contains (x ∷ xs) x
first_contained x xs = (0, omega arith, refl)

later_contained : {X : Type 0} (x y : X) (xs : List X) → Contains xs y → Contains (x ∷ xs) y
later_contained x y xs has = let less = has.1 in (suc has.0, omega (arith, less), has.2)

pub map_contained : {X Y : Type 0} (f : X → Y) (xs : List X) (x : X) → Contains xs x → Contains (map f xs) (f x)
map_contained f xs x has =
    let less = has.1 in
    let long = length-map xs f in
    (has.0, omega (arith, less, long), get_or-map f xs has.0 x (f x) less ∙ ap f has.2)

contained_behind : {X : Type 0} (b : Bool) (x y : X) (xs : List X) → Contains xs y → Contains (cond b (x ∷ xs) xs) y
contained_behind true x y xs has = later_contained x y xs has
contained_behind false x y xs has = has

-- what passes the test is among those that do
pub filter_contained : {X : Type 0} (test : X → Bool) (xs : List X) (x : X) → Contains xs x → test x ≡ true → Contains (filter test xs) x
filter_contained test [] x (i, less, is) passes = absurd (omega (arith, less))
filter_contained {X} test (y ∷ xs) x (zero, less, is) passes =
    rw (ap test is ∙ passes) (subst (λ (z : X). Contains (y ∷ filter test xs) z) is (first_contained y (filter test xs)))
filter_contained test (y ∷ xs) x (suc i, less, is) passes =
    contained_behind (test y) y x (filter test xs) (filter_contained test xs x (i, omega (arith, less), is) passes)

-- where each of the first list is related to each of the second, all pairs are
pub pairs_then : {X : Type 0} (R : X → X → Type 0) (xs ys : List X) → AllPairs R xs → AllPairs R ys → All (λ x. All (R x) ys) xs → AllPairs R (xs ++ ys)
pairs_then R [] ys one other across = other
pairs_then R (x ∷ xs) ys one other across =
    AllPairs-cons R x (xs ++ ys)
    (All-append (R x) xs ys (λ j d less. one 0 (suc j) d (omega arith) (omega (arith, less))) (across 0 x (omega arith)))
    (pairs_then R xs ys (λ i j d below less. one (suc i) (suc j) d (omega (arith, below)) (omega (arith, less))) other
    (λ i d less. across (suc i) d (omega (arith, less))))
