-- Ends while rows come. An end stays one, since its row keeps its values and its node. What is kept: the best is an
-- end, and weighs at most what each end so far does that is within the limit. The best only becomes lighter and the
-- limit only falls, so what is within the limit now was so before: hence it holds on from row to row, and from bucket
-- to bucket.
use Rattle.std.proofs.Common.{◌≡◌, ℕ, ℤ, ◌≤ℤ◌, ◌+◌, ◌<◌, ◌≤◌, ◌⊎◌, inl, inr, arith, refl, List, length, get_or, Option, None, Some, sym, ◌∙◌, ap, subst}
use Rattle.std.specs.Prelude.{pos, IfSome}
use Rattle.std.specs.List.{Contains}
use Rattle.std.proofs.lemmas.Bool.{cases_lt}
use Rattle.std.proofs.lemmas.Int.{ints}
use Rattle.tail_book.specs.Seen.{BookSeen}
use Rattle.tail_book.specs.declared.place.Place.TheVariants.{After}
use Rattle.branch_marks.specs.declared.fact.Fact.{Fact}
use Rattle.branch_marks.specs.Marks.{MayEnd}
use Rattle.label_store.specs.Seen.{StoreSeen}
use Rattle.label_store.specs.Buckets.{row_at}
use Rattle.label_store.specs.Store.{bucket_of, IsStore, IsRowOf}
use Rattle.pricing.specs.declared.end.RouteEnd.{RouteEnd}
use Rattle.pricing.specs.Rows.{weight_of}
use Rattle.pricing.specs.inside.Ends.{IsEnd, IsAtMost}
use Rattle.pricing.proofs.Families.{row_of_bucket}
use Rattle.route_search.specs.declared.end.Ends.{Ends}
use Rattle.route_search.specs.inside.Ends.{IsEndLimit, IsLeastWithinLimitAt, AreEnds, AreNoHeavier}
use Rattle.route_search.specs.inside.Reach.{GrowsFrom}

pub at_most_trans : (one two three : ℤ) → one ≤ℤ two → two ≤ℤ three → one ≤ℤ three
at_most_trans one two three first next = omega (arith, ints, first, next)

pub limit_is_below : (cut : ℤ) (best : Option RouteEnd) (limit : ℤ) → IsEndLimit cut best limit → limit ≤ℤ cut
limit_is_below cut None limit is = omega (arith, ints, is)
limit_is_below cut (Some end) limit is = is.1

-- what is at most the best end is at most what the best end is at most
pub lightest : (best : Option RouteEnd) (value : ℤ) → IfSome best (λ known. value ≤ℤ known.value) → (most : ℤ) → IsAtMost best most → value ≤ℤ most
lightest None value le most at_most = absurd at_most
lightest (Some end) value le most at_most = at_most_trans value end.value most le at_most

module _ (book : BookSeen) (marks : List Fact) (k : ℕ) where
  pub end_at_row : (store : StoreSeen) (x j : ℕ) → IsRowOf store x j → MayEnd marks k (After x) → IsEnd book marks k store (record { value = weight_of (row_at store.rows j); row = Some j })
  end_at_row store x j row may = record {
    kept = row.kept;
    may = subst (λ (a : ℕ). MayEnd marks k (After a)) (sym row.place) may;
    weighs = refl;
  }

  end_stays : (m : ℕ) (old new : StoreSeen) (value : ℤ) (row : Option ℕ) → GrowsFrom m old new → IsEnd book marks k old (record { value = value; row = row })
      → IsEnd book marks k new (record { value = value; row = row })
  end_stays m old new value None grows end = record { kept = tt; may = end.may; weighs = end.weighs }
  end_stays m old new value (Some j) grows end =
      let kept = end.kept in
      let longer = grows.rows.longer in
      record {
        kept = omega (arith, kept, longer);
        may = subst (λ (a : ℕ). MayEnd marks k (After a)) (sym (grows.rows.nodes j kept)) end.may;
        weighs = ap weight_of (grows.rows.rows j kept) ∙ end.weighs;
      }

  best_stays : (m : ℕ) (old new : StoreSeen) (best : Option RouteEnd) → GrowsFrom m old new → IfSome best (IsEnd book marks k old) → IfSome best (IsEnd book marks k new)
  best_stays m old new None grows one = tt
  best_stays m old new (Some end) grows one = end_stays m old new end.value end.row grows one

  -- the buckets below n, and their rows, are as they were
  pub ends_stay : (m n : ℕ) (old new : StoreSeen) (cut : ℤ) (ends : Ends) → IsStore old → n ≤ m → n ≤ length old.buckets → GrowsFrom m old new
      → AreEnds book marks k old cut n ends → AreEnds book marks k new cut n ends
  ends_stay m n old new cut ends sound le few grows all = record {
    one = best_stays m old new ends.best grows all.one;
    limit = all.limit;
    first = all.first;
    next = λ x lt may j has.
        let there : Contains (bucket_of old x) j = subst (λ (bucket : List ℕ). Contains bucket j) (grows.others x (omega (arith, lt, le))) has in
        subst (λ (r : List ℤ). weight_of r ≤ℤ ends.limit → IsAtMost ends.best (weight_of r))
        (sym (grows.rows.rows j (row_of_bucket old sound x j (omega (arith, lt, few)) there).kept)) (all.next x lt may j there);
  }

  -- one bucket more
  pub ends_one_more : (store : StoreSeen) (cut : ℤ) (x : ℕ) (old new : Ends) → AreEnds book marks k store cut x old → IfSome new.best (IsEnd book marks k store)
      → IsLeastWithinLimitAt marks k store new x → AreNoHeavier old new → IsEndLimit cut new.best new.limit → AreEnds book marks k store cut (x + 1) new
  ends_one_more store cut x old new all one here lighter limit = record {
    one = one;
    limit = limit;
    first = λ may le. lighter.best (pos 0) (all.first may (at_most_trans (pos 0) new.limit old.limit le lighter.limit));
    next = λ y lt. elim (cases_lt y x) [
      | inl less ↦ (λ may j has le. lighter.best (weight_of (row_at store.rows j))
          (all.next y less may j has (at_most_trans (weight_of (row_at store.rows j)) new.limit old.limit le lighter.limit)))
      | inr more ↦ (let at : x ≡ y = omega (arith, lt, more) in subst (λ (a : ℕ). IsLeastWithinLimitAt marks k store new a) at here)
    ];
  }

  -- one row more
  pub best_one_more : (store : StoreSeen) (old new : Option RouteEnd) (end : RouteEnd) → IfSome old (IsEnd book marks k store) → IsEnd book marks k store end
      → ((new ≡ old) ⊎ (new ≡ Some end)) → IfSome new (IsEnd book marks k store)
  best_one_more store old new end one this is = elim is [
    | inl same ↦ subst (λ (best : Option RouteEnd). IfSome best (IsEnd book marks k store)) (sym same) one
    | inr last ↦ subst (λ (best : Option RouteEnd). IfSome best (IsEnd book marks k store)) (sym last) this
  ]

  pub here_one_more : (store : StoreSeen) (there : List ℕ) (i : ℕ) (old new : Ends) → AreNoHeavier old new
      → ((q : ℕ) → q < i → weight_of (row_at store.rows (get_or there q 0)) ≤ℤ old.limit → IsAtMost old.best (weight_of (row_at store.rows (get_or there q 0))))
      → (weight_of (row_at store.rows (get_or there i 0)) ≤ℤ old.limit → IsAtMost new.best (weight_of (row_at store.rows (get_or there i 0))))
      → (q : ℕ) → q < i + 1 → weight_of (row_at store.rows (get_or there q 0)) ≤ℤ new.limit → IsAtMost new.best (weight_of (row_at store.rows (get_or there q 0)))
  here_one_more store there i old new lighter before here q lt le = elim (cases_lt q i) [
    | inl less ↦ lighter.best (weight_of (row_at store.rows (get_or there q 0)))
        (before q less (at_most_trans (weight_of (row_at store.rows (get_or there q 0))) new.limit old.limit le lighter.limit))
    | inr more ↦ (let at : i ≡ q = omega (arith, lt, more) in
        subst (λ (m : ℕ). weight_of (row_at store.rows (get_or there m 0)) ≤ℤ new.limit → IsAtMost new.best (weight_of (row_at store.rows (get_or there m 0)))) at
        (λ within. here (at_most_trans (weight_of (row_at store.rows (get_or there i 0))) new.limit old.limit within lighter.limit)) le)
  ]

pub heavier_trans : (one two three : Ends) → AreNoHeavier one two → AreNoHeavier two three → AreNoHeavier one three
heavier_trans one two three first next = record {
  best = λ most at_most. next.best most (first.best most at_most);
  limit = at_most_trans three.limit two.limit one.limit next.limit first.limit;
}
