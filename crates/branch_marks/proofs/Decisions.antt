-- How a test of a whole is put together from tests of its parts. Where each part's test decides what is said of the
-- part, an `and` over a list decides that it holds of all, and an `or` that it holds of one; `not x || y` decides that
-- the one brings the other, by the two values of x; and a test of each pair decides it of all pairs, by induction: the
-- first element beside all others, and then these among themselves.
use Rattle.std.specs.Prelude.{⊤, not, nat_le, int_lt, ◌&&◌, ◌||◌, All, Any, AllPairs}
use Rattle.std.proofs.Common.{◌≡◌, ℕ, ℤ, ◌≤ℤ◌, ◌≤◌, Bool, true, false, arith, List, refl, suc, [], ◌∷◌}
use lib.Signed.{◌<ℤ◌}
use Rattle.std.specs.Bool.{Decides}
use Rattle.std.specs.List.{list_any, list_all}
use Rattle.std.proofs.lemmas.Int.{ints, by_lt_z}
use Rattle.std.proofs.lemmas.Bool.{both_ways}
use Rattle.std.proofs.lemmas.Bool.Decides.{Decides-and, Decides-not, Decides-like, nat_tests}
use Rattle.std.proofs.lemmas.List.Sums.{AllPass-from_list_all, list_all-from_AllPass}
use Rattle.std.proofs.lemmas.List.Folds.{Any-from_list_any, list_any-from_Any}
use Rattle.std.proofs.lemmas.List.Elements.{All-weaker}
use Rattle.std.proofs.lemmas.List.Kept.{AllPairs-cons}
use Rattle.tail_book.specs.Numbers.{int_le}
use Rattle.tail_book.specs.Pairs.{each_pair}

pub always : Decides true ⊤
always = ((λ h. tt), (λ h. refl))

pub never : Decides false ⊥
never = ((λ h. both_ways false refl h), (λ h. absurd h))

pub all_tested : {X : Type 0} (p : X → Bool) (P : X → Type 0) → ((x : X) → Decides (p x) (P x)) → (xs : List X) → Decides (list_all p xs) (All P xs)
all_tested p P each xs = (
  (λ h. All-weaker (λ x. p x ≡ true) P (λ x e. (each x).0 e) xs (AllPass-from_list_all p xs h)),
  (λ all. list_all-from_AllPass p xs (All-weaker P (λ x. p x ≡ true) (λ x e. (each x).1 e) xs all)),
)

pub any_tested : {X : Type 0} (p : X → Bool) (P : X → Type 0) → ((x : X) → Decides (p x) (P x)) → (xs : List X) → Decides (list_any p xs) (Any P xs)
any_tested p P each xs = (
  (λ h. let a = Any-from_list_any p xs h in (a.0, a.1, a.2, a.3, (each a.1).0 a.4)),
  (λ a. list_any-from_Any p xs (a.0, a.1, a.2, a.3, (each a.1).1 a.4)),
)

-- where the one holds, the other does
pub implied : {P Q : Type 0} (x y : Bool) → Decides x P → Decides y Q → Decides (not x || y) (P → Q)
implied x y p q = ((λ h. forth x y p q h), (λ f. back x y p q f))
  where
    forth : {P Q : Type 0} (x y : Bool) → Decides x P → Decides y Q → (not x || y) ≡ true → P → Q
    forth true y p q h k = q.0 h
    forth false y p q h k = absurd (both_ways false refl (p.1 k))

    back : {P Q : Type 0} (x y : Bool) → Decides x P → Decides y Q → (P → Q) → (not x || y) ≡ true
    back true y p q f = q.1 (f (p.0 refl))
    back false y p q f = refl

-- the two do not hold together
pub apart : {P Q : Type 0} (x y : Bool) → Decides x P → Decides y Q → Decides (not (x && y)) (P → ¬ Q)
apart x y p q = Decides-like (not (x && y)) (λ n k l. n (k, l)) (λ f h. f h.0 h.1) (Decides-not (x && y) (Decides-and x y p q))

pub le_tested : (a b : ℕ) → Decides (nat_le a b) (a ≤ b)
le_tested a b = grind (arith, nat_tests)

int_lt_tested : (a b : ℤ) → Decides (int_lt a b) (a <ℤ b)
int_lt_tested a b = grind (arith, ints)

pub int_le_tested : (a b : ℤ) → Decides (int_le a b) (a ≤ℤ b)
int_le_tested a b = Decides-like (int_le a b) (λ n. by_lt_z b a (λ l. absurd (n l)) (λ h. h)) (λ h l. absurd (omega (arith, ints, h, l))) (Decides-not (int_lt b a) (int_lt_tested b a))

-- each element beside the later ones: the first beside all others, and these among themselves
pub pairs_tested : {X : Type 0} (test : X → X → Bool) (R : X → X → Type 0) → ((x y : X) → Decides (test x y) (R x y)) → (xs : List X) → Decides (each_pair test xs) (AllPairs R xs)
pairs_tested test R each [] = ((λ e i j d l m. absurd (omega (arith, m))), (λ h. refl))
pairs_tested test R each (x ∷ xs) =
    Decides-like (each_pair test (x ∷ xs)) (λ h. AllPairs-cons R x xs h.0 h.1)
    (λ h. ((λ k d l. h 0 (suc k) d (omega arith) (omega (arith, l))), (λ i j d l m. h (suc i) (suc j) d (omega (arith, l)) (omega (arith, m)))))
    (Decides-and _ _ (all_tested (test x) (R x) (each x) xs) (pairs_tested test R each xs))
