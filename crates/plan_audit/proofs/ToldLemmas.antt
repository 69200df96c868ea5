-- What a list of lines has, where it is joined, mapped or filtered, and where its parts are told apart by their rule:
-- each line has the place of its rule in the order of an audit, so one of a later rule stands in no part before.
use Rattle.std.proofs.Common.{◌≡◌, ◌∙◌, sym, refl, ap, arith, subst, ℕ, zero, suc, ◌+◌, ◌<◌, ◌≤◌, ◌⊎◌, inl, inr, Bool, true, false, cond, List, [], ◌∷◌, ◌++◌, map, Contains}
use Rattle.std.specs.List.{filter}
use Rattle.std.proofs.lemmas.List.Elements.{Contains-append_cases}
use Rattle.plan_audit.specs.declared.broken.Broken.{Broken}
use Rattle.plan_audit.specs.declared.broken.Broken.TheVariants as rule

pub empty_has : {A : Type 0} (x : A) → Contains [] x → ⊥
empty_has x h = let below = h.1 in omega (arith, below)

pub cons_cases : {A : Type 0} (y : A) (xs : List A) (x : A) → Contains (y ∷ xs) x → (y ≡ x) ⊎ Contains xs x
cons_cases y xs x (zero, below, e) = inl e
cons_cases y xs x (suc i, below, e) = inr (i, omega (arith, below), e)

pub cons_here : {A : Type 0} (y : A) (xs : List A) (x : A) → y ≡ x → Contains (y ∷ xs) x
cons_here y xs x e = (0, omega arith, e)

pub cons_later : {A : Type 0} (y : A) (xs : List A) (x : A) → Contains xs x → Contains (y ∷ xs) x
cons_later y xs x h = let below = h.1 in (suc h.0, omega (arith, below), h.2)

-- a line of a mapped filter is that of an element that passes
pub from_filter : {A B : Type 0} (f : A → B) (p : A → Bool) (xs : List A) (y : B) → Contains (map f (filter p xs)) y → (x : A) × Contains xs x × (p x ≡ true) × (f x ≡ y)
from_filter f p [] y h = absurd (empty_has y h)
from_filter {A} f p (x ∷ xs) y h = by (p x) refl (λ rest. let found = from_filter f p xs y rest in (found.0, cons_later x xs found.0 found.1, found.2, found.3)) h
  where
    by : (t : Bool) → p x ≡ t → (Contains (map f (filter p xs)) y → (x' : A) × Contains (x ∷ xs) x' × (p x' ≡ true) × (f x' ≡ y))
        → Contains (map f (cond t (x ∷ filter p xs) (filter p xs))) y → (x' : A) × Contains (x ∷ xs) x' × (p x' ≡ true) × (f x' ≡ y)
    by true e later h = elim (cons_cases (f x) (map f (filter p xs)) y h) [
      | inl same ↦ (x, cons_here x xs x refl, e, same)
      | inr rest ↦ later rest
    ]
    by false e later h = later h

pub to_filter : {A B : Type 0} (f : A → B) (p : A → Bool) (xs : List A) (x : A) (y : B) → Contains xs x → p x ≡ true → f x ≡ y → Contains (map f (filter p xs)) y
to_filter f p [] x y h e same = absurd (empty_has x h)
to_filter {A} f p (z ∷ xs) x y h e same = elim (cons_cases z xs x h) [
  | inl here ↦ (
      let passes : p z ≡ true = ap p here ∙ e in
      subst (λ t. Contains (map f (cond t (z ∷ filter p xs) (filter p xs))) y) (sym passes) (cons_here (f z) (map f (filter p xs)) y (ap f here ∙ same)))
  | inr rest ↦ by (p z) (to_filter f p xs x y rest e same)
]
  where
    by : (t : Bool) → Contains (map f (filter p xs)) y → Contains (map f (cond t (z ∷ filter p xs) (filter p xs))) y
    by true found = cons_later (f z) (map f (filter p xs)) y found
    by false found = found

-- the place of a line's rule in the order of an audit
abbrev pub order_of : Broken → ℕ
order_of (rule.Unknown name) = 0
order_of (rule.Twice name) = 1
order_of (rule.Uncovered a) = 2
order_of (rule.NotAllowed k a) = 3
order_of (rule.Curfew k a) = 4
order_of (rule.NoLink k a) = 5
order_of (rule.Counter k a c) = 6

-- the lines are of one rule, and of rules up to one
abbrev pub AreOf : ℕ → List Broken → Type 0
AreOf n lines = (line : Broken) → Contains lines line → order_of line ≡ n

abbrev pub AreUpTo : ℕ → List Broken → Type 0
AreUpTo n lines = (line : Broken) → Contains lines line → order_of line ≤ n

pub up_to-more : (n : ℕ) (first rest : List Broken) → AreUpTo n first → AreOf (n + 1) rest → AreUpTo (n + 1) (first ++ rest)
up_to-more n first rest before of line h = elim (Contains-append_cases first rest line h) [
  | inl front ↦ (let least = before line front in omega (arith, least))
  | inr back ↦ (let same = of line back in omega (arith, same))
]

-- a line of an earlier rule stands before the last part, and one of the last part's rule in it
pub in_first : (n : ℕ) (first rest : List Broken) (line : Broken) → AreOf n rest → order_of line < n → Contains (first ++ rest) line → Contains first line
in_first n first rest line of less h = elim (Contains-append_cases first rest line h) [
  | inl front ↦ front
  | inr back ↦ (let same = of line back in absurd (omega (arith, same, less)))
]

pub in_rest : (n : ℕ) (first rest : List Broken) (line : Broken) → AreUpTo n first → n < order_of line → Contains (first ++ rest) line → Contains rest line
in_rest n first rest line before more h = elim (Contains-append_cases first rest line h) [
  | inl front ↦ (let least = before line front in absurd (omega (arith, least, more)))
  | inr back ↦ back
]

pub mapped_are_of : {A : Type 0} (n : ℕ) (f : A → Broken) (p : A → Bool) → ((x : A) → order_of (f x) ≡ n) → (xs : List A) → AreOf n (map f (filter p xs))
mapped_are_of n f p each xs line h =
    let found = from_filter f p xs line h in ap order_of (sym found.3) ∙ each found.0
