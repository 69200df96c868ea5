-- Buckets that are done stay done while the bucket of a later activity b grows: what was tried stays tried, and the
-- buckets before b have the rows that they had when these were tried. So once the carry-in and each row before b were
-- tried on the way to b its bucket is done, and those below b + 1 are.
use Rattle.std.proofs.Common.{◌≡◌, ◌≢◌, ℕ, ℤ, ◌+◌, ◌<◌, arith, inl, inr, List, length, get_or, sym, subst}
use Rattle.std.specs.List.{Contains}
use Rattle.std.proofs.lemmas.Bool.{cases_lt}
use Rattle.tail_book.specs.Seen.{BookSeen}
use Rattle.tail_book.specs.declared.place.Place.{Place}
use Rattle.tail_book.specs.declared.place.Place.TheVariants.{Carry, After}
use Rattle.branch_marks.specs.declared.fact.Fact.{Fact}
use Rattle.label_store.specs.Seen.{StoreSeen}
use Rattle.label_store.specs.Buckets.{row_at}
use Rattle.label_store.specs.Store.{bucket_of, IsStore}
use Rattle.pricing.specs.inside.Truth.{first_row}
use Rattle.pricing.specs.inside.Growth.{Grows, Tried}
use Rattle.fee_pricing.specs.inside.Filled.{IsReached, IsBegun, IsFilled, AreFilled}
use Rattle.pricing.proofs.Families.{row_of_bucket}
use Rattle.fee_pricing.proofs.Growing.{tried_stays}

module _ (arc : Place → ℕ → ℤ) (book : BookSeen) (marks : List Fact) (k : ℕ) where
  pub reached_stays : (first old new : StoreSeen) (x c b : ℕ) → Grows b old new
      → IsReached arc book marks k first x c old → IsReached arc book marks k first x c new
  reached_stays first old new x c b grows reached usable j has =
      tried_stays book k old new (arc (After x) c) (After x) c b (row_at first.rows j) grows (reached usable j has)

  begun_stays : (old new : StoreSeen) (c b : ℕ) → Grows b old new → IsBegun arc book marks k c old → IsBegun arc book marks k c new
  begun_stays old new c b grows begun usable =
      tried_stays book k old new (arc Carry c) Carry c b (first_row book k) grows (begun usable)

  -- the rows that were tried are those that the bucket has now
  read_now : (old new : StoreSeen) (x c b : ℕ) → IsStore old → x < length old.buckets → x ≢ b → Grows b old new
      → IsReached arc book marks k old x c new → IsReached arc book marks k new x c new
  read_now old new x c b sound lt other grows reached usable j has =
      let there : Contains (bucket_of old x) j = subst (λ (bucket : List ℕ). Contains bucket j) (grows.others x other) has in
      subst (λ (r : List ℤ). Tried book k new (arc (After x) c) (After x) c r)
      (sym (grows.rows.rows j (row_of_bucket old sound x j lt there).kept)) (reached usable j there)

  -- one activity more at whose places all were tried
  pub reached_one_more : (first old new : StoreSeen) (there : List ℕ) (b i : ℕ) → Grows b old new
      → ((q : ℕ) → q < i → IsReached arc book marks k first (get_or there q 0) b old)
      → IsReached arc book marks k first (get_or there i 0) b new
      → (q : ℕ) → q < i + 1 → IsReached arc book marks k first (get_or there q 0) b new
  reached_one_more first old new there b i grows before here q lt = elim (cases_lt q i) [
    | inl less ↦ reached_stays first old new (get_or there q 0) b b grows (before q less)
    | inr more ↦ let at : i ≡ q = omega (arith, lt, more) in
        subst (λ (m : ℕ). IsReached arc book marks k first (get_or there m 0) b new) at here
  ]

  -- what a link's rows were when they were tried, they are still: another bucket has grown since
  pub reached_here : (first old new : StoreSeen) (x b : ℕ) → IsStore first → x < length first.buckets → x < b → Grows b first old
      → IsReached arc book marks k old x b new → IsReached arc book marks k first x b new
  reached_here first old new x b sound lt later grows reached usable j has =
      let other : x ≢ b = omega (arith, later) in
      subst (λ (r : List ℤ). Tried book k new (arc (After x) b) (After x) b r)
      (grows.rows.rows j (row_of_bucket first sound x j lt has).kept)
      (reached usable j (subst (λ (bucket : List ℕ). Contains bucket j) (sym (grows.others x other)) has))

  pub filled : (old new : StoreSeen) (b : ℕ) → IsStore old → b < length old.buckets → Grows b old new → IsBegun arc book marks k b old
      → ((x : ℕ) → x < b → IsReached arc book marks k old x b new) → IsFilled arc book marks k new b
  filled old new b sound lt grows begun reached = record {
    first = begun_stays old new b b grows begun;
    next = λ x later. read_now old new x b b sound (omega (arith, later, lt)) (omega (arith, later)) grows (reached x later);
  }

  filled_stays : (old new : StoreSeen) (c b : ℕ) → IsStore old → b < length old.buckets → c < b → Grows b old new
      → IsFilled arc book marks k old c → IsFilled arc book marks k new c
  filled_stays old new c b sound lt before grows done = record {
    first = begun_stays old new c b grows done.first;
    next = λ x later. read_now old new x c b sound (omega (arith, later, before, lt)) (omega (arith, later, before)) grows
        (reached_stays old old new x c b grows (done.next x later));
  }

  -- one bucket more is done
  pub filled_one_more : (old new : StoreSeen) (b : ℕ) → IsStore old → b < length old.buckets → Grows b old new
      → AreFilled arc book marks k old b → IsFilled arc book marks k new b → AreFilled arc book marks k new (b + 1)
  filled_one_more old new b sound lt grows before here c below = elim (cases_lt c b) [
    | inl less ↦ filled_stays old new c b sound lt less grows (before c less)
    | inr more ↦ let at : b ≡ c = omega (arith, below, more) in subst (λ (a : ℕ). IsFilled arc book marks k new a) at here
  ]
