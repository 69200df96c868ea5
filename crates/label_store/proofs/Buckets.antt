-- Buckets as lists of numbers. A filter keeps exactly what is in the list and passes, by induction over the list. That
-- rows are apart is said of each row beside the later ones; so they stay apart where some leave, where one comes at the
-- end that is apart from each, and where a row is kept behind the others, which changes no row before it.
use Rattle.std.proofs.Common.{◌≡◌, ◌≢◌, ℕ, zero, suc, ℤ, ◌<◌, arith, refl, true, false, Bool, cond, List, [], ◌∷◌, ◌++◌, length, get_or, sym, ◌∙◌, ap, subst}
use Rattle.std.specs.Prelude.{All, slice_index_or}
use Rattle.std.specs.List.{Contains, filter}
use Rattle.std.proofs.lemmas.List.{get_or_append_left}
use Rattle.std.proofs.lemmas.List.Elements.{All-head, All-tail, All-push, All-filter, All-nil, All-contains, All-contains_itself, Contains-append_right, filter_passes}
use Rattle.tail_book.specs.CounterOrder.{EachAtMost}
use Rattle.label_store.specs.Buckets.{row_at, AreApart, EachApart}

-- what a test lets pass is kept
module _ (p : ℕ → Bool) where
  behind : (x : ℕ) (rest : List ℕ) (j : ℕ) (b : Bool) → Contains rest j → Contains (cond b (x ∷ rest) rest) j
  behind x rest j true has = Contains-append_right (x ∷ []) rest j has
  behind x rest j false has = has

  ahead : (x : ℕ) (rest : List ℕ) (j : ℕ) (b : Bool) → b ≡ true → x ≡ j → Contains (cond b (x ∷ rest) rest) j
  ahead x rest j true passes is = (0, omega arith, is)
  ahead x rest j false passes is = absurd (cc)

  pub filter_has : (xs : List ℕ) (j : ℕ) → Contains xs j → p j ≡ true → Contains (filter p xs) j
  filter_has [] j (k, below, is) passes = absurd (omega (arith, below))
  filter_has (x ∷ xs) j (zero, below, is) passes = ahead x (filter p xs) j (p x) (ap p is ∙ passes) is
  filter_has (x ∷ xs) j (suc k, below, is) passes = behind x (filter p xs) j (p x) (filter_has xs j (k, omega (arith, below), is) passes)

  -- and nothing else is
  pub filter_had : (xs : List ℕ) (j : ℕ) → Contains (filter p xs) j → Contains xs j × (p j ≡ true)
  filter_had xs j has =
      (All-contains (Contains xs) _ j (All-filter p (Contains xs) xs (All-contains_itself xs)) has, All-contains (λ x. p x ≡ true) _ j (filter_passes p xs) has)

-- two facts of each number
pub both : (P Q : ℕ → Type 0) (xs : List ℕ) → All P xs → All Q xs → All (λ x. P x × Q x) xs
both P Q xs one other k d below = (one k d below, other k d below)

-- rows of a bucket stay apart where some leave it
pub apart_filter : (p : ℕ → Bool) (rows : List (List ℤ)) (bucket : List ℕ) → EachApart rows bucket → EachApart rows (filter p bucket)
apart_filter p rows [] apart = tt
apart_filter p rows (j ∷ bucket) apart =
    elim (p j) as (λ b. EachApart rows (cond b (j ∷ filter p bucket) (filter p bucket))) [
      | true ↦ (All-filter p (λ i. AreApart (row_at rows j) (row_at rows i)) bucket apart.0, apart_filter p rows bucket apart.1)
      | false ↦ apart_filter p rows bucket apart.1
    ]

-- where one comes that is apart from each
pub apart_push : (rows : List (List ℤ)) (bucket : List ℕ) (i : ℕ) → EachApart rows bucket → All (λ j. AreApart (row_at rows j) (row_at rows i)) bucket
    → EachApart rows (bucket ++ i ∷ [])
apart_push rows [] i apart from = (All-nil (λ m. AreApart (row_at rows i) (row_at rows m)), tt)
apart_push rows (j ∷ bucket) i apart from = (
  All-push (λ m. AreApart (row_at rows j) (row_at rows m)) bucket i apart.0 (All-head (λ m. AreApart (row_at rows m) (row_at rows i)) j bucket from),
  apart_push rows bucket i apart.1 (All-tail (λ m. AreApart (row_at rows m) (row_at rows i)) j bucket from),
)

-- a row before the new one has its values still
pub row_before : (rows : List (List ℤ)) (row : List ℤ) (j : ℕ) → j < length rows → row_at (rows ++ row ∷ []) j ≡ row_at rows j
row_before rows row j below = get_or_append_left rows (row ∷ []) [] j below

-- and where a row comes behind the others
pub apart_longer : (rows : List (List ℤ)) (row : List ℤ) (bucket : List ℕ) → All (λ j. j < length rows) bucket → EachApart rows bucket
    → EachApart (rows ++ row ∷ []) bucket
apart_longer rows row [] numbers apart = tt
apart_longer rows row (j ∷ bucket) numbers apart =
    let here : j < length rows = All-head (λ m. m < length rows) j bucket numbers in
    let behind = All-tail (λ m. m < length rows) j bucket numbers in (
      λ k d below.
          subst (λ r. AreApart r (row_at (rows ++ row ∷ []) (get_or bucket k d))) (sym (row_before rows row j here))
          (subst (λ r. AreApart (row_at rows j) r) (sym (row_before rows row (get_or bucket k d) (behind k d below))) (apart.0 k d below)),
      apart_longer rows row bucket behind apart.1,
    )

-- rows at two places of a bucket are apart
pub apart_places : (rows : List (List ℤ)) (bucket : List ℕ) → EachApart rows bucket → (p q : ℕ) → p < length bucket → q < length bucket → p ≢ q
    → ¬ EachAtMost (row_at rows (slice_index_or bucket p 0)) (row_at rows (slice_index_or bucket q 0))
apart_places rows [] apart p q below_p below_q other = absurd (omega (arith, below_p))
apart_places rows (j ∷ bucket) apart zero zero below_p below_q other = absurd (other refl)
apart_places rows (j ∷ bucket) apart zero (suc q) below_p below_q other = (apart.0 q 0 (omega (arith, below_q))).here
apart_places rows (j ∷ bucket) apart (suc p) zero below_p below_q other = (apart.0 p 0 (omega (arith, below_p))).there
apart_places rows (j ∷ bucket) apart (suc p) (suc q) below_p below_q other =
    apart_places rows bucket apart.1 p q (omega (arith, below_p)) (omega (arith, below_q)) (λ same. other (ap suc same))
