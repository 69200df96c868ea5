-- Rows of counters in one list of values: row x takes as many places as there are counters, from x times that number
-- on. So rows do not overlap, and one that is written leaves those before it and behind it as they were.
use Rattle.std.proofs.Common.{◌≡◌, ◌∙◌, ℕ, suc, ℤ, ◌+◌, ◌*◌, ◌<◌, ◌≤◌, arith, List, ◌++◌, length, take, drop, refl, sym, ap, subst, append_assoc, length-append, length-drop, length-take-le}
use Rattle.std.proofs.Math.Nat.{mul-le-mul_right}
use Rattle.std.proofs.Math.Seq.{take-append_seam, drop-append_seam}
use Rattle.std.proofs.lemmas.List.{drop-append-le, take-append-le, take-append-drop, drop-drop}
use Rattle.tail_book.specs.Seen.{BookSeen}
use Rattle.tail_book.specs.declared.place.Place.{Place}
use Rattle.tail_book.specs.declared.place.Place.TheVariants.{Carry, After}
use Rattle.plan_enumeration.specs.inside.Enumeration.{IsPlaceBefore, IsRowBefore, row_of, values_at, width_of, with_row}

-- a row before another one ends where that one begins
pub row_below : (w x a : ℕ) → x < a → x * w + w ≤ a * w
row_below w x a lt = let next : suc x ≤ a = omega arith in let h : suc x * w ≤ a * w = mul-le-mul_right w next in omega (arith, h)

pub row_in_front : (w x : ℕ) (xs ys : List ℤ) → x * w + w ≤ length xs → row_of w (xs ++ ys) x ≡ row_of w xs x
row_in_front w x xs ys fits =
    let begins : x * w ≤ length xs = omega arith in
    let long : w ≤ length (drop (x * w) xs) = omega (arith, length-drop {A = ℤ} (x * w) xs) in
    ap (take w) (drop-append-le (x * w) xs ys begins) ∙ take-append-le w (drop (x * w) xs) ys long

pub row_of_front : (w x n : ℕ) (vs : List ℤ) → x * w + w ≤ n → n ≤ length vs → row_of w (take n vs) x ≡ row_of w vs x
row_of_front w x n vs fits short =
    let long : x * w + w ≤ length (take n vs) = rw (length-take-le n vs short) fits in
    sym (row_in_front w x (take n vs) (drop n vs) long) ∙ ap (λ (l : List ℤ). row_of w l x) (take-append-drop n vs)

-- the values at a place before a are those of the rows before a
pub values_in_front : (book : BookSeen) (values : List ℤ) (k a : ℕ) (from : Place) → IsPlaceBefore a from → a * width_of book ≤ length values
    → values_at book (take (a * width_of book) values) k from ≡ values_at book values k from
values_in_front book values k a Carry before room = refl
values_in_front book values k a (After x) before room = row_of_front (width_of book) x (a * width_of book) values (row_below (width_of book) x a before) room

pub row_is_before : (book : BookSeen) (values : List ℤ) (a : ℕ) (from : Place) → IsPlaceBefore a from → a * width_of book ≤ length values → IsRowBefore book from (length (take (a * width_of book) values))
row_is_before book values a Carry before room = tt
row_is_before book values a (After x) before room = rw (length-take-le (a * width_of book) values room) (row_below (width_of book) x a before)

-- what a row that is written changes
module _ (w a : ℕ) (vs row : List ℤ) (wide : length row ≡ w) (room : a * w + w ≤ length vs) where
  front : length (take (a * w) vs) ≡ a * w
  front = let short : a * w ≤ length vs = omega arith in length-take-le (a * w) vs short

  pub with_row-front : take (a * w) (with_row w vs a row) ≡ take (a * w) vs
  with_row-front =
      let seam : take (length (take (a * w) vs)) (take (a * w) vs ++ (row ++ drop (a * w + w) vs)) ≡ take (a * w) vs = take-append_seam (take (a * w) vs) (row ++ drop (a * w + w) vs) in
      ap (take (a * w)) (append_assoc (take (a * w) vs) row (drop (a * w + w) vs)) ∙ subst (λ (n : ℕ). take n (take (a * w) vs ++ (row ++ drop (a * w + w) vs)) ≡ take (a * w) vs) front seam

  pub with_row-row : row_of w (with_row w vs a row) a ≡ row
  with_row-row =
      let seam : drop (length (take (a * w) vs)) (take (a * w) vs ++ (row ++ drop (a * w + w) vs)) ≡ row ++ drop (a * w + w) vs = drop-append_seam (take (a * w) vs) (row ++ drop (a * w + w) vs) in
      let there : drop (a * w) (with_row w vs a row) ≡ row ++ drop (a * w + w) vs =
      ap (drop (a * w)) (append_assoc (take (a * w) vs) row (drop (a * w + w) vs)) ∙ subst (λ (n : ℕ). drop n (take (a * w) vs ++ (row ++ drop (a * w + w) vs)) ≡ row ++ drop (a * w + w) vs) front seam in
      ap (take w) there ∙ subst (λ (n : ℕ). take n (row ++ drop (a * w + w) vs) ≡ row) wide (take-append_seam row (drop (a * w + w) vs))

  pub with_row-through : take (a * w + w) (with_row w vs a row) ≡ take (a * w) vs ++ row
  with_row-through =
      let long : length (take (a * w) vs ++ row) ≡ a * w + w = omega (arith, front, wide, length-append {A = ℤ} (take (a * w) vs) row) in
      subst (λ (n : ℕ). take n (with_row w vs a row) ≡ take (a * w) vs ++ row) long (take-append_seam (take (a * w) vs ++ row) (drop (a * w + w) vs))

  pub length-with_row : length (with_row w vs a row) ≡ length vs
  length-with_row = omega (arith, front, wide, room, length-append {A = ℤ} (take (a * w) vs ++ row) (drop (a * w + w) vs), length-append {A = ℤ} (take (a * w) vs) row, length-drop {A = ℤ} (a * w + w) vs)

-- values put together from a front, a row and what is behind it
pub put_together : (w a : ℕ) (vs before rest row : List ℤ) → before ≡ take (a * w) vs → rest ≡ drop (a * w) vs → before ++ (row ++ drop w rest) ≡ with_row w vs a row
put_together w a vs before rest row front back = rw (front, back, drop-drop w (a * w) vs) (sym (append_assoc (take (a * w) vs) row (drop (a * w + w) vs)))
