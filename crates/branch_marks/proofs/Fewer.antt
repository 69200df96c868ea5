-- A further fact leaves no more undecided pairs, and one that decides an undecided pair leaves fewer: each pair counts as
-- much as before at most, and that one less.
use Rattle.std.proofs.Common.{◌≡◌, ℕ, zero, suc, ◌<◌, ◌≤◌, inl, inr, Bool, true, false, arith, List, [], ◌∷◌, ◌++◌, refl, subst}
use Rattle.std.proofs.lemmas.Bool.{both_ways, cases_order, false_from_ne_true}
use Rattle.std.proofs.lemmas.Bool.Decides.{Decides-and, Decides-not, Decides-like}
use Rattle.std.specs.Bool.{Decides}
use Rattle.tail_book.specs.Seen.{BookSeen}
use Rattle.tail_book.specs.declared.place.Place.TheVariants.{After}
use Rattle.tail_book.specs.Lookup.{activities, aircraft}
use Rattle.branch_marks.specs.declared.fact.Fact.{Fact}
use Rattle.branch_marks.specs.declared.fact.Fact.TheVariants.{Must, Cut, Tie}
use Rattle.branch_marks.specs.declared.fact.Pair.{Pair}
use Rattle.branch_marks.specs.declared.fact.Pair.TheVariants.{Fly, Link}
use Rattle.branch_marks.specs.Below.{count_below}
use Rattle.branch_marks.specs.Marks.{IsUsable}
use Rattle.branch_marks.specs.inside.MarkTests.{AliveDecides, UsableDecides}
use Rattle.branch_marks.specs.inside.FactTests.{HasFactDecides}
use Rattle.branch_marks.specs.Branches.{IsUndecided, IsPairOf, FactsDecide}
use Rattle.branch_marks.specs.Undecided.{is_undecided}
use Rattle.branch_marks.specs.inside.BranchTests.{one_if, undecided, UndecidedDecides}
use Rattle.branch_marks.proofs.BelowDecided.{some_below_tested}

pub undecided_tested : AliveDecides → UsableDecides → HasFactDecides → (book : BookSeen) (marks : List Fact) (pair : Pair) → Decides (is_undecided book marks pair) (IsUndecided book marks pair)
undecided_tested alive usable has book marks (Fly k a) = Decides-and _ _ (alive book marks k a) (Decides-not _ (has marks (Must k a)))
undecided_tested alive usable has book marks (Link a b) =
    Decides-like (is_undecided book marks (Link a b)) (λ h. (h.0, h.1.0, h.1.1)) (λ u. (u.0, (u.1, u.2)))
    (Decides-and _ _ (some_below_tested _ (λ k. IsUsable book marks k (After a) b) (λ k. usable book marks k (After a) b) (aircraft book))
    (Decides-and _ _ (Decides-not _ (has marks (Cut a b))) (Decides-not _ (has marks (Tie a b)))))

count_at_most : (f g : ℕ → ℕ) (n : ℕ) → ((a : ℕ) → a < n → f a ≤ g a) → count_below f n ≤ count_below g n
count_at_most f g zero h = omega arith
count_at_most f g (suc n) h =
    let here = h n (omega arith) in
    let rest = count_at_most f g n (λ a lt. h a (omega (arith, lt))) in
    omega (arith, here, rest)

count_fewer : (f g : ℕ → ℕ) (n x : ℕ) → ((a : ℕ) → a < n → f a ≤ g a) → x < n → f x < g x → count_below f n < count_below g n
count_fewer f g zero x h lt less = absurd (omega (arith, lt))
count_fewer f g (suc n) x h lt less = elim (cases_order x n) [
  | inl e ↦ (let here : f n < g n = subst (λ (z : ℕ). f z < g z) e less in
      let rest = count_at_most f g n (λ a l. h a (omega (arith, l))) in omega (arith, here, rest))
  | inr o ↦ elim o [
    | inl below ↦ (let here = h n (omega arith) in let rest = count_fewer f g n x (λ a l. h a (omega (arith, l))) below less in omega (arith, here, rest))
    | inr above ↦ absurd (omega (arith, above, lt))
  ]
]

one_at_most : (b c : Bool) → (b ≡ true → c ≡ true) → one_if b ≤ one_if c
one_at_most true true h = omega arith
one_at_most true false h = absurd (both_ways false refl (h refl))
one_at_most false true h = omega arith
one_at_most false false h = omega arith

one_fewer : (b c : Bool) → b ≡ false → c ≡ true → one_if b < one_if c
one_fewer true c h k = absurd (both_ways true h refl)
one_fewer false true h k = omega arith
one_fewer false false h k = absurd (both_ways false refl k)

module _ (decide : FactsDecide) (tested : UndecidedDecides) (book : BookSeen) (marks : List Fact) (fact : Fact) where
  abbrev after : List Fact
  after = marks ++ fact ∷ []

  kept : (pair : Pair) → one_if (is_undecided book after pair) ≤ one_if (is_undecided book marks pair)
  kept pair = one_at_most (is_undecided book after pair) (is_undecided book marks pair)
      (λ h. (tested book marks pair).1 (decide book marks fact pair ((tested book after pair).0 h)))

  gone : (pair : Pair) → IsUndecided book marks pair → ¬ IsUndecided book after pair → one_if (is_undecided book after pair) < one_if (is_undecided book marks pair)
  gone pair u n = one_fewer (is_undecided book after pair) (is_undecided book marks pair)
      (false_from_ne_true (is_undecided book after pair) (λ h. n ((tested book after pair).0 h))) ((tested book marks pair).1 u)

  abbrev flights_of : List Fact → ℕ → ℕ
  flights_of ms k = count_below (λ a. one_if (is_undecided book ms (Fly k a))) (activities book)

  abbrev links_of : List Fact → ℕ → ℕ
  links_of ms a = count_below (λ b. one_if (is_undecided book ms (Link a b))) (activities book)

  flights_kept : (k : ℕ) → flights_of after k ≤ flights_of marks k
  flights_kept k = count_at_most (λ a. one_if (is_undecided book after (Fly k a))) (λ a. one_if (is_undecided book marks (Fly k a))) (activities book) (λ a ha. kept (Fly k a))

  links_kept : (a : ℕ) → links_of after a ≤ links_of marks a
  links_kept a = count_at_most (λ b. one_if (is_undecided book after (Link a b))) (λ b. one_if (is_undecided book marks (Link a b))) (activities book) (λ b hb. kept (Link a b))

  all_flights_kept : count_below (flights_of after) (aircraft book) ≤ count_below (flights_of marks) (aircraft book)
  all_flights_kept = count_at_most (flights_of after) (flights_of marks) (aircraft book) (λ k hk. flights_kept k)

  all_links_kept : count_below (links_of after) (activities book) ≤ count_below (links_of marks) (activities book)
  all_links_kept = count_at_most (links_of after) (links_of marks) (activities book) (λ a ha. links_kept a)

  pub no_more : undecided book after ≤ undecided book marks
  no_more = let flights = all_flights_kept in let links = all_links_kept in omega (arith, flights, links)

  pub fewer : (pair : Pair) → IsPairOf book pair → IsUndecided book marks pair → ¬ IsUndecided book after pair → undecided book after < undecided book marks
  fewer (Fly k a) of u n =
      let flights = count_fewer (flights_of after) (flights_of marks) (aircraft book) k (λ j hj. flights_kept j) of.0
      (count_fewer (λ c. one_if (is_undecided book after (Fly k c))) (λ c. one_if (is_undecided book marks (Fly k c))) (activities book) a
      (λ c hc. kept (Fly k c)) of.1 (gone (Fly k a) u n)) in
      let links = all_links_kept in
      omega (arith, flights, links)
  fewer (Link a b) of u n =
      let links = count_fewer (links_of after) (links_of marks) (activities book) a (λ c hc. links_kept c) of.0
      (count_fewer (λ c. one_if (is_undecided book after (Link a c))) (λ c. one_if (is_undecided book marks (Link a c))) (activities book) b
      (λ c hc. kept (Link a c)) of.1 (gone (Link a b) u n)) in
      let flights = all_flights_kept in
      omega (arith, flights, links)
