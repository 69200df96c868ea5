-- Stores that grow from the bucket of m on: all before stay as they are, with their rows. That a row was tried means
-- that what it gives is covered, passes a limit of a counter, or is past the limit of weight; covered stays covered,
-- and the limit only falls, so what was tried stays tried. An activity's bucket is done once all that may come next was
-- tried from each of its rows, and those rows are still what they were.
use Rattle.std.proofs.Common.{◌≡◌, ℕ, ℤ, ◌+ℤ◌, ◌-ℤ◌, ◌≤ℤ◌, ◌<ℤ◌, suc, ◌+◌, ◌<◌, arith, inl, inr, List, Option, None, Some, length, get_or, sym, subst}
use Rattle.std.specs.Prelude.{pos}
use Rattle.std.specs.List.{Contains}
use Rattle.std.proofs.lemmas.Bool.{cases_lt}
use Rattle.std.proofs.lemmas.Int.{ints}
use Rattle.tail_book.specs.Seen.{BookSeen}
use Rattle.tail_book.specs.TableSeen.{CostTableSeen}
use Rattle.tail_book.specs.declared.place.Place.{Place}
use Rattle.tail_book.specs.declared.place.Place.TheVariants.{Carry, After}
use Rattle.branch_marks.specs.declared.fact.Fact.{Fact}
use Rattle.branch_marks.specs.Marks.{IsUsable}
use Rattle.branch_marks.specs.Weights.{arc_weight, weight_from}
use Rattle.label_store.specs.Seen.{StoreSeen}
use Rattle.label_store.specs.Buckets.{row_at}
use Rattle.label_store.specs.Store.{bucket_of, IsStore}
use Rattle.pricing.specs.Rows.{weight_of}
use Rattle.pricing.specs.inside.Truth.{first_row, row_after}
use Rattle.pricing.proofs.Families.{row_of_bucket}
use Rattle.route_search.specs.declared.completion.Way.{Way}
use Rattle.route_search.specs.inside.Completion.{IsBehind, IsWay}
use Rattle.route_search.specs.inside.Reach.{IsPast, IsTried, AreTried, IsDone, AreDone, GrowsFrom, HasNoRoom, WeighNoLess}
use Rattle.route_search.specs.inside.Task.{IsAdded}
use Rattle.route_search.proofs.Completions.{least_through}

module _ (table : CostTableSeen) (book : BookSeen) (marks : List Fact) (k : ℕ) (duals : List ℤ) where
  past_lower : (limit lower : ℤ) (b : ℕ) (w : ℤ) → lower ≤ℤ limit → IsPast table book marks k duals limit b w → IsPast table book marks k duals lower b w
  past_lower limit lower b w le past rest fits =
      let h = past rest fits in
      below_yet lower limit (w +ℤ weight_from table book k duals (After b) rest) le h
    where
      below_yet : (lower limit all : ℤ) → lower ≤ℤ limit → limit <ℤ all → lower <ℤ all
      below_yet lower limit all le lt = omega (arith, ints, le, lt)

  -- what was tried stays tried, also where the limit falls
  pub tried_stays : (limit lower : ℤ) (m : ℕ) (old new : StoreSeen) (x : Place) (row : List ℤ) (b : ℕ) → lower ≤ℤ limit → GrowsFrom m old new
      → IsTried table book marks k duals limit old x row b → IsTried table book marks k duals lower new x row b
  tried_stays limit lower m old new x row b le grows tried within = elim (tried within) [
    | inl covered ↦ inl (grows.covered b (row_after book k (arc_weight table book k duals x b) x b row) covered)
    | inr past ↦ inr (past_lower limit lower b (weight_of row +ℤ arc_weight table book k duals x b) le past)
  ]

  below_itself : (z : ℤ) → z ≤ℤ z
  below_itself z = omega (arith, ints)

  -- one row more of a bucket was tried
  pub tried_one_more : (limit : ℤ) (m : ℕ) (first old new : StoreSeen) (there : List ℕ) (x : Place) (b i : ℕ) → GrowsFrom m old new
      → ((q : ℕ) → q < i → IsTried table book marks k duals limit old x (row_at first.rows (get_or there q 0)) b)
      → IsTried table book marks k duals limit new x (row_at first.rows (get_or there i 0)) b
      → (q : ℕ) → q < i + 1 → IsTried table book marks k duals limit new x (row_at first.rows (get_or there q 0)) b
  tried_one_more limit m first old new there x b i grows before tried q lt = elim (cases_lt q i) [
    | inl less ↦ tried_stays limit limit m old new x (row_at first.rows (get_or there q 0)) b (below_itself limit) grows (before q less)
    | inr more ↦ let at : i ≡ q = omega (arith, lt, more) in
        subst (λ (m : ℕ). IsTried table book marks k duals limit new x (row_at first.rows (get_or there m 0)) b) at tried
  ]

  over : (w arc least rest limit room : ℤ) → least ≤ℤ (arc +ℤ rest) → room ≡ limit -ℤ least → room <ℤ w → limit <ℤ ((w +ℤ arc) +ℤ rest)
  over w arc least rest limit room le is lt = omega (arith, ints, le, is, lt)

  -- a row that has no room on the way is past the limit there
  pub past_on_way : (limit room : ℤ) (store : StoreSeen) (x : Place) (row : List ℤ) (b : ℕ) (way : Way) → IsWay table book marks k duals x b way
      → room ≡ limit -ℤ way.least → room <ℤ weight_of row → IsTried table book marks k duals limit store x row b
  past_on_way limit room store x row b way on_way is lt within = inr (λ rest fits.
      over (weight_of row) (arc_weight table book k duals x b) way.least (weight_from table book k duals (After b) rest) limit room (on_way.least rest fits) is lt)

  first_over : (arc least rest limit : ℤ) → least ≤ℤ (arc +ℤ rest) → limit <ℤ least → limit <ℤ ((pos 0 +ℤ arc) +ℤ rest)
  first_over arc least rest limit le lt = omega (arith, ints, le, lt)

  pub past_at_first : (limit : ℤ) (store : StoreSeen) (b : ℕ) (way : Way) → IsWay table book marks k duals Carry b way → limit <ℤ way.least
      → IsTried table book marks k duals limit store Carry (first_row book k) b
  past_at_first limit store b way on_way lt within = inr (λ rest fits.
      first_over (arc_weight table book k duals Carry b) way.least (weight_from table book k duals (After b) rest) limit (on_way.least rest fits) lt)

  all_over : (low w added arc rest behind limit : ℤ) → low ≤ℤ w → (added +ℤ rest) ≤ℤ (arc +ℤ behind) → limit <ℤ ((low +ℤ added) +ℤ rest)
      → limit <ℤ ((w +ℤ arc) +ℤ behind)
  all_over low w added arc rest behind limit le more lt = omega (arith, ints, le, more, lt)

  -- where the lightest row of x has no room through an activity, no row of x has
  pub tried_without_room : (limit low added : ℤ) (rest : Option ℤ) (old store : StoreSeen) (x b : ℕ) → IsAdded table k duals b added
      → IsBehind table book marks k duals b rest → WeighNoLess old x low → HasNoRoom low added rest limit
      → AreTried table book marks k duals limit old x store b
  tried_without_room limit low added None old store x b is behind least no_room usable j has within = inr (λ tail fits. absurd (behind usable.after tail fits))
  tried_without_room limit low added (Some rest) old store x b is behind least no_room usable j has within = inr (λ tail fits.
      all_over low (weight_of (row_at old.rows j)) added (arc_weight table book k duals (After x) b) rest (weight_from table book k duals (After b) tail) limit
      (least j has) (least_through table book marks k duals (After x) b added rest is behind usable tail fits) no_room)

  -- the lightest row of x stays so
  pub lightest_stays : (low : ℤ) (first old : StoreSeen) (x : ℕ) → IsStore first → x < length first.buckets → GrowsFrom (suc x) first old
      → WeighNoLess first x low → WeighNoLess old x low
  lightest_stays low first old x sound lt grows least j has =
      let there : Contains (bucket_of first x) j = subst (λ (bucket : List ℕ). Contains bucket j) (grows.others x (omega arith)) has in
      subst (λ (r : List ℤ). low ≤ℤ weight_of r) (sym (grows.rows.rows j (row_of_bucket first sound x j lt there).kept)) (least j there)

  -- activities at whose places all were tried, and one more
  pub reached_one_more : (limit : ℤ) (m : ℕ) (first old new : StoreSeen) (there : List ℕ) (x i : ℕ) → GrowsFrom m old new
      → ((q : ℕ) → q < i → AreTried table book marks k duals limit first x old (get_or there q 0))
      → AreTried table book marks k duals limit first x new (get_or there i 0)
      → (q : ℕ) → q < i + 1 → AreTried table book marks k duals limit first x new (get_or there q 0)
  reached_one_more limit m first old new there x i grows before here q lt = elim (cases_lt q i) [
    | inl less ↦ λ usable j has. tried_stays limit limit m old new (After x) (row_at first.rows j) (get_or there q 0) (below_itself limit) grows (before q less usable j has)
    | inr more ↦ let at : i ≡ q = omega (arith, lt, more) in
        subst (λ (m : ℕ). AreTried table book marks k duals limit first x new (get_or there m 0)) at here
  ]

  -- what the rows of x were when they were tried, they are still
  pub reached_here : (limit : ℤ) (first old new : StoreSeen) (x b : ℕ) → IsStore first → x < length first.buckets → GrowsFrom (suc x) first old
      → AreTried table book marks k duals limit old x new b → AreTried table book marks k duals limit first x new b
  reached_here limit first old new x b sound lt grows reached usable j has =
      subst (λ (r : List ℤ). IsTried table book marks k duals limit new (After x) r b)
      (grows.rows.rows j (row_of_bucket first sound x j lt has).kept)
      (reached usable j (subst (λ (bucket : List ℕ). Contains bucket j) (sym (grows.others x (omega arith))) has))

  -- so it is done where all that may come next was tried
  pub done : (limit : ℤ) (old new : StoreSeen) (x : ℕ) → IsStore old → x < length old.buckets → GrowsFrom (suc x) old new
      → ((b : ℕ) → AreTried table book marks k duals limit old x new b) → IsDone table book marks k duals limit new x
  done limit old new x sound lt grows tried j has b usable =
      let there : Contains (bucket_of old x) j = subst (λ (bucket : List ℕ). Contains bucket j) (grows.others x (omega arith)) has in
      subst (λ (r : List ℤ). IsTried table book marks k duals limit new (After x) r b)
      (sym (grows.rows.rows j (row_of_bucket old sound x j lt there).kept)) (tried b usable j there)

  done_stays : (limit lower : ℤ) (m : ℕ) (old new : StoreSeen) (x : ℕ) → IsStore old → x < length old.buckets → x < m → lower ≤ℤ limit → GrowsFrom m old new
      → IsDone table book marks k duals limit old x → IsDone table book marks k duals lower new x
  done_stays limit lower m old new x sound lt below le grows was j has b usable =
      let there : Contains (bucket_of old x) j = subst (λ (bucket : List ℕ). Contains bucket j) (grows.others x below) has in
      subst (λ (r : List ℤ). IsTried table book marks k duals lower new (After x) r b)
      (sym (grows.rows.rows j (row_of_bucket old sound x j lt there).kept))
      (tried_stays limit lower m old new (After x) (row_at old.rows j) b le grows (was j there b usable))

  -- one bucket more is done
  pub done_one_more : (limit lower : ℤ) (old new : StoreSeen) (x : ℕ) → IsStore old → x < length old.buckets → lower ≤ℤ limit → GrowsFrom (suc x) old new
      → AreDone table book marks k duals limit old x → IsDone table book marks k duals lower new x → AreDone table book marks k duals lower new (x + 1)
  done_one_more limit lower old new x sound lt le grows were here = record {
    first = λ b usable. tried_stays limit lower (suc x) old new Carry (first_row book k) b le grows (were.first b usable);
    next = λ y below. elim (cases_lt y x) [
      | inl less ↦ done_stays limit lower (suc x) old new y sound (omega (arith, less, lt)) (omega (arith, less)) le grows (were.next y less)
      | inr more ↦ let at : x ≡ y = omega (arith, below, more) in subst (λ (a : ℕ). IsDone table book marks k duals lower new a) at here
    ];
  }

  -- one activity more was tried from the carry-in
  pub first_one_more : (limit : ℤ) (m : ℕ) (old new : StoreSeen) (there : List ℕ) (i : ℕ) → GrowsFrom m old new
      → ((q : ℕ) → q < i → IsUsable book marks k Carry (get_or there q 0) → IsTried table book marks k duals limit old Carry (first_row book k) (get_or there q 0))
      → (IsUsable book marks k Carry (get_or there i 0) → IsTried table book marks k duals limit new Carry (first_row book k) (get_or there i 0))
      → (q : ℕ) → q < i + 1 → IsUsable book marks k Carry (get_or there q 0) → IsTried table book marks k duals limit new Carry (first_row book k) (get_or there q 0)
  first_one_more limit m old new there i grows before here q lt = elim (cases_lt q i) [
    | inl less ↦ λ usable. tried_stays limit limit m old new Carry (first_row book k) (get_or there q 0) (below_itself limit) grows (before q less usable)
    | inr more ↦ let at : i ≡ q = omega (arith, lt, more) in
        subst (λ (p : ℕ). IsUsable book marks k Carry (get_or there p 0) → IsTried table book marks k duals limit new Carry (first_row book k) (get_or there p 0)) at here
  ]
