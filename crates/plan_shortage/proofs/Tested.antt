-- Whether a list has activities of the book alone, and none twice, is tested number by number and pair by pair.
use Rattle.std.proofs.Common.{◌≡◌, ◌∙◌, ◌≢◌, ◌<◌, ℕ, suc, Bool, true, false, arith, List, [], ◌∷◌, refl, sym}
use Rattle.std.proofs.lemmas.Bool.Decides.{Decides-eqb, Decides-ltb, Decides-and, Decides-not, Decides-like, Decides-by_and}
use Rattle.std.proofs.lemmas.List.Kept.{AllPairs-cons}
use Rattle.std.specs.Prelude.{All, AllPairs, nat_lt, nat_eq, not, ◌&&◌}
use Rattle.std.specs.List.{list_all}
use Rattle.std.specs.Bool.{Decides}
use Rattle.tail_book.specs.Seen.{BookSeen}
use Rattle.tail_book.specs.Lookup.{activities}
use Rattle.tail_book.specs.Pairs.{each_pair}
use Rattle.plan_shortage.specs.Shortage.{AreActivitiesOf}

all_tested : (test : ℕ → Bool) (P : ℕ → Type 0) → ((a : ℕ) → Decides (test a) (P a)) → (list : List ℕ) → Decides (list_all test list) (All P list)
all_tested test P each list = Decides-by_and test P (list_all test) each refl (λ _ _. refl) list

abbrev pub differ : ℕ → ℕ → Bool
differ a b = not (nat_eq a b)

differ_tested : (a b : ℕ) → Decides (differ a b) (a ≢ b)
differ_tested a b = Decides-not (nat_eq a b) (Decides-eqb a b)

pairs_tested : (list : List ℕ) → Decides (each_pair differ list) (AllPairs (λ a b. a ≢ b) list)
pairs_tested [] = ((λ e i j d l m. absurd (omega (arith, m))), (λ h. refl))
pairs_tested (x ∷ list) =
    Decides-like (each_pair differ (x ∷ list)) (λ h. AllPairs-cons (λ a b. a ≢ b) x list h.0 h.1)
    (λ h. ((λ k d l. h 0 (suc k) d (omega arith) (omega (arith, l))), (λ i j d l m. h (suc i) (suc j) d (omega (arith, l)) (omega (arith, m)))))
    (Decides-and _ _ (all_tested (differ x) (λ b. x ≢ b) (differ_tested x) list) (pairs_tested list))

pub activities_tested : (book : BookSeen) (list : List ℕ)
    → Decides (list_all (λ a. nat_lt a (activities book)) list && each_pair differ list) (AreActivitiesOf book list)
activities_tested book list =
    Decides-like (list_all (λ a. nat_lt a (activities book)) list && each_pair differ list)
    (λ h. record { of_book = h.0; none_twice = h.1 }) (λ r. (r.of_book, r.none_twice))
    (Decides-and _ _ (all_tested (λ a. nat_lt a (activities book)) (λ a. a < activities book) (λ a. Decides-ltb a (activities book)) list) (pairs_tested list))

-- the second test is made only where the first holds
pub first_holds : (one other answer : Bool) → one ≡ true → answer ≡ other → (one && other) ≡ answer
first_holds one other answer holds is = rw holds (sym is)

pub first_fails : (one other answer : Bool) → one ≡ false → answer ≡ one → (one && other) ≡ answer
first_fails one other answer fails is = rw fails (sym (is ∙ fails))
