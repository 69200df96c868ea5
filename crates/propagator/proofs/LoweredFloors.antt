-- Taking in the predecessors of an activity b one by one, the last of them first. At each turn the floor is what stands
-- at b, lowered to the least of what those bring that are left; lesser floors may be taken in any order, so the last of
-- them is as good as the first. The pass may end early: where what stands at b is no higher than the floor, what is
-- left lowers nothing, and so it is the floor. And where a step's values lower nothing, whether the link is usable need
-- not be asked.
use Rattle.std.specs.Prelude.{◌≢◌, All}
use Rattle.std.proofs.Common.{◌≡◌, ◌∙◌, ℕ, ℤ, ◌<◌, ◌≤◌, ◌+◌, ◌-◌, List, [], ◌∷◌, ◌++◌, length, take, get_or, ap, arith, refl, sym, subst, Option, None, Some}
use Rattle.std.specs.Int.{int_min}
use Rattle.std.proofs.lemmas.Int.{ints, clamps}
use Rattle.std.proofs.lemmas.List.{take_more}
use Rattle.std.specs.List.{range_with_len}
use Rattle.tail_book.specs.Seen.{BookSeen}
use Rattle.tail_book.specs.declared.place.Place.TheVariants.{After}
use Rattle.tail_book.specs.Lookup.{activities}
use Rattle.tail_book.specs.CounterOrder.{EachAtMost}
use Rattle.branch_marks.specs.declared.fact.Fact.{Fact}
use Rattle.branch_marks.specs.Floors.{lesser, lesser_floor, stepped_floor}
use Rattle.branch_marks.specs.inside.FloorLaws.{LesserInAnyOrder}
use Rattle.floor_rows.specs.inside.FloorRow.{FloorRowSeen, floor_in, IsSetAt}
use Rattle.floor_rows.specs.inside.LeastOver.{floor_of, least_over, brought, brought_first, FloorsAreLeast}

-- what is there at b, lowered to what is left to take in, is the floor; the rest is as it was
pub record IsLowering (book : BookSeen) (marks : List Fact) (k b : ℕ) (first row : FloorRowSeen) (left : List ℕ) : Type 0 where
  pub width : row.width ≡ first.width
  pub count : length row.floors ≡ length first.floors
  pub whole : lesser_floor (floor_in row b) (least_over (brought book marks k b (floor_of book marks k)) left) ≡ floor_of book marks k b
  pub others : (a : ℕ) → a ≢ b → floor_in row a ≡ floor_in first a

-- nothing more is the same
pub lesser_none : (f : Option (List ℤ)) → lesser_floor f None ≡ f
lesser_none None = refl
lesser_none (Some us) = refl

least_last : LesserInAnyOrder → (h : ℕ → Option (List ℤ)) (xs : List ℕ) (x : ℕ) → least_over h (xs ++ x ∷ []) ≡ lesser_floor (least_over h xs) (h x)
least_last order h [] x = lesser_none (h x)
least_last order h (y ∷ ys) x = ap (λ (rest : Option (List ℤ)). lesser_floor (h y) rest) (least_last order h ys x) ∙ sym (order.grouped (h y) (least_over h ys) (h x))

-- one more of those that are left is taken in
one_taken : LesserInAnyOrder → (f g rest : Option (List ℤ)) → lesser_floor (lesser_floor f g) rest ≡ lesser_floor f (lesser_floor rest g)
one_taken order f g rest = order.grouped f g rest ∙ ap (λ (h : Option (List ℤ)). lesser_floor f h) (order.turned g rest)

-- what is lowered to others and is no lower than they are is what it was
lesser_back : (us vs : List ℤ) → EachAtMost us (lesser us vs) → lesser us vs ≡ us
lesser_back [] vs low = refl
lesser_back (u ∷ us) [] low = absurd low
lesser_back (u ∷ us) (v ∷ vs) low =
    let le = low.0 in
    let here : int_min u v ≡ u = omega (arith, ints, clamps, le) in
    ap (λ (z : ℤ). z ∷ lesser us vs) here ∙ ap (λ (rest : List ℤ). u ∷ rest) (lesser_back us vs low.1)

floor_back : (us : List ℤ) (rest floor : Option (List ℤ)) → lesser_floor (Some us) rest ≡ floor → ((high : List ℤ) → floor ≡ Some high → EachAtMost us high) → Some us ≡ floor
floor_back us None floor e low = e
floor_back us (Some vs) floor e low = ap (λ (l : List ℤ). Some l) (sym (lesser_back us vs (low (lesser us vs) (sym e)))) ∙ e

module _ (book : BookSeen) (marks : List Fact) (k b : ℕ) (first : FloorRowSeen) (below : (a : ℕ) → a < b → floor_in first a ≡ floor_of book marks k a) where
  next_lowered : LesserInAnyOrder → (row new : FloorRowSeen) (left : List ℕ) (x : ℕ) → x < b → IsLowering book marks k b first row (left ++ x ∷ [])
      → IsSetAt b (lesser_floor (floor_in row b) (brought book marks k b (floor_in row) x)) row new → IsLowering book marks k b first new left
  next_lowered order row new left x lt way set = record {
    width = set.width ∙ way.width;
    count = set.count ∙ way.count;
    whole =
        ap (λ (f : Option (List ℤ)). lesser_floor f (least_over brings left)) set.here
        ∙ ap (λ (f : Option (List ℤ)). lesser_floor (lesser_floor (floor_in row b) (stepped_floor book marks k (After x) b f)) (least_over brings left)) known
        ∙ one_taken order (floor_in row b) (brings x) (least_over brings left)
        ∙ ap (λ (rest : Option (List ℤ)). lesser_floor (floor_in row b) rest) (sym (least_last order brings left x))
        ∙ way.whole;
    others = λ a ne. set.others a ne ∙ way.others a ne;
  }
    where
      brings : ℕ → Option (List ℤ)
      brings = brought book marks k b (floor_of book marks k)

      known : floor_in row x ≡ floor_of book marks k x
      known = let apart : x ≢ b = omega (arith, lt) in way.others x apart ∙ below x lt

  pub next_of : LesserInAnyOrder → (row new : FloorRowSeen) (items places : List ℕ) (n : ℕ) → items ≡ places → All (λ x. x < b) places → 0 < n → n ≤ length items
      → IsLowering book marks k b first row (take n items)
      → IsSetAt b (lesser_floor (floor_in row b) (brought book marks k b (floor_in row) (get_or items (n - 1) 0))) row new
      → IsLowering book marks k b first new (take (n - 1) items)
  next_of order row new items places n are all some most way set =
      let within : n - 1 < length items = omega (arith, some, most) in
      let more : n ≡ n - 1 + 1 = omega (arith, some) in
      next_lowered order row new (take (n - 1) items) (get_or items (n - 1) 0) (subst (λ (xs : List ℕ). All (λ x. x < b) xs) (sym are) all (n - 1) 0 within)
      (subst (λ (left : List ℕ). IsLowering book marks k b first row left) (ap (λ (m : ℕ). take m items) more ∙ take_more items (n - 1) 0 within) way) set

  -- at the end the floor is there
  pub all_lowered : (row : FloorRowSeen) → IsLowering book marks k b first row [] → IsSetAt b (floor_of book marks k b) first row
  all_lowered row way = record { width = way.width; count = way.count; here = sym (lesser_none (floor_in row b)) ∙ way.whole; others = way.others }

  -- and so it is once it is what it was
  pub back_lowered : (row : FloorRowSeen) (before : List ℤ) (left : List ℕ) → IsLowering book marks k b first row left → floor_in row b ≡ Some before
      → ((high : List ℤ) → floor_of book marks k b ≡ Some high → EachAtMost before high) → IsSetAt b (floor_of book marks k b) first row
  back_lowered row before left way is low = record {
    width = way.width;
    count = way.count;
    here = is ∙ floor_back before (least_over (brought book marks k b (floor_of book marks k)) left) (floor_of book marks k b)
        (ap (λ (f : Option (List ℤ)). lesser_floor f (least_over (brought book marks k b (floor_of book marks k)) left)) (sym is) ∙ way.whole) low;
    others = way.others;
  }

  -- at first all are left
  pub none_lowered : FloorsAreLeast → b < activities book → floor_in first b ≡ brought_first book marks k b → (items : List ℕ)
      → least_over (brought book marks k b (floor_of book marks k)) items ≡ least_over (brought book marks k b (floor_of book marks k)) (range_with_len 0 b)
      → IsLowering book marks k b first first items
  none_lowered least lt carried items all = record {
    width = refl;
    count = refl;
    whole = ap (λ (f : Option (List ℤ)). lesser_floor f (least_over (brought book marks k b (floor_of book marks k)) items)) carried
        ∙ ap (λ (rest : Option (List ℤ)). lesser_floor (brought_first book marks k b) rest) all
        ∙ sym (least book marks k b lt);
    others = λ a ne. refl;
  }
