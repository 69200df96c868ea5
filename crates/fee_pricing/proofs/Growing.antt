-- Stores that grow in the bucket of b alone. Growth chains, and what it keeps is kept: rows have their values, what is
-- covered stays covered, and no other bucket changes. That a row was tried means that what it gives is covered or
-- passes a limit, so what was tried stays tried; and with one row more the rows of a bucket up to a place have been.
use Rattle.std.proofs.Common.{◌≡◌, ℕ, ℤ, ◌+◌, ◌<◌, arith, inl, inr, List, get_or, subst}
use Rattle.std.proofs.lemmas.Bool.{cases_lt}
use Rattle.tail_book.specs.Seen.{BookSeen}
use Rattle.tail_book.specs.declared.place.Place.{Place}
use Rattle.label_store.specs.Seen.{StoreSeen}
use Rattle.label_store.specs.Buckets.{row_at}
use Rattle.pricing.specs.inside.Truth.{row_after}
use Rattle.pricing.specs.inside.Growth.{Grows, Tried}

-- what was tried stays tried
pub tried_stays : (book : BookSeen) (k : ℕ) (old new : StoreSeen) (arc : ℤ) (x : Place) (b c : ℕ) (row : List ℤ) → Grows c old new
    → Tried book k old arc x b row → Tried book k new arc x b row
tried_stays book k old new arc x b c row grows tried within = grows.covered b (row_after book k arc x b row) (tried within)

-- one row more of a bucket was tried
pub tried_one_more : (book : BookSeen) (k : ℕ) (first old new : StoreSeen) (there : List ℕ) (arc : ℤ) (x : Place) (b i : ℕ) (row : List ℤ) → Grows b old new
    → ((q : ℕ) → q < i → Tried book k old arc x b (row_at first.rows (get_or there q 0)))
    → Tried book k new arc x b row → row ≡ row_at first.rows (get_or there i 0)
    → (q : ℕ) → q < i + 1 → Tried book k new arc x b (row_at first.rows (get_or there q 0))
tried_one_more book k first old new there arc x b i row grows before tried is q lt = elim (cases_lt q i) [
  | inl less ↦ tried_stays book k old new arc x b b (row_at first.rows (get_or there q 0)) grows (before q less)
  | inr more ↦ let at : i ≡ q = omega (arith, lt, more) in
      subst (λ (m : ℕ). Tried book k new arc x b (row_at first.rows (get_or there m 0))) at (subst (Tried book k new arc x b) is tried)
]
