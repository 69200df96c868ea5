-- A row has the numbers below n that pass a test, in order. So a number is in it exactly where it is below n and
-- passes: the tests decide links, and the activities of a link are of the book, so the bound below n says nothing more.
-- And the row rises, by induction over the range: what is kept is larger than all before it, whatever was dropped. Past
-- the last row stands the empty one, which has no number and rises.
use Rattle.std.proofs.Common.{◌≡◌, ◌∙◌, ℕ, zero, suc, ◌+◌, ◌<◌, ◌≤◌, arith, ap, refl, subst, sym, Bool, true, false, List, [], ◌∷◌, map, ⊎_elim}
use Rattle.std.specs.Prelude.{◌&&◌, ◌||◌, cond, nat_eq, slice_index_or}
use Rattle.std.specs.List.{filter, list_any, range_with_len}
use Rattle.std.specs.Bool.{Decides}
use Rattle.std.proofs.lemmas.Bool.{and_parts, both_ways, cases_lt, eq-eqb, eqb-true}
use Rattle.std.proofs.lemmas.Bool.Decides.{Decides-like, same_from_decides}
use Rattle.std.proofs.lemmas.List.{get_or_past}
use Rattle.std.proofs.lemmas.List.FromFn.{length-map-range_with_len, get_or-map-range_with_len}
use Rattle.tail_book.specs.Seen.{BookSeen}
use Rattle.tail_book.specs.declared.place.Place.{Place}
use Rattle.tail_book.specs.declared.place.Place.TheVariants.{Carry, After}
use Rattle.tail_book.specs.Lookup.{activities, aircraft}
use Rattle.tail_book.specs.Numbers.{contains}
use Rattle.tail_book.specs.Link.{IsLink}
use Rattle.tail_book.specs.Place.{IsBefore}
use Rattle.tail_book.specs.inside.Rising.{IsRisingFrom, LinksRise}
use Rattle.tail_book.specs.inside.Sound.{IsBook}
use Rattle.tail_book.specs.LegalTests.{is_link}
use Rattle.tail_book.specs.inside.Tests.{LinkDecides}
use Rattle.connection_net.specs.Net.{is_linked, successors_of, predecessors_of, heads_of, net_of, successors_in, predecessors_in, heads_in}
use Rattle.connection_net.specs.inside.Laws.{SomeLink, RowsRise, HasRowForEach}
use Rattle.connection_net.proofs.Links.{any_below}

-- what a filter keeps is what the list has that passes
any_step : (b q rest : Bool) (all : Bool) → all ≡ rest → (cond b (q || all) all) ≡ ((b && q) || rest)
any_step true q rest all e = ap (λ r. q || r) e
any_step false q rest all e = e

any_cond : (q : ℕ → Bool) (b : Bool) (x : ℕ) (xs : List ℕ) → list_any q (cond b (x ∷ xs) xs) ≡ cond b (q x || list_any q xs) (list_any q xs)
any_cond q true x xs = refl
any_cond q false x xs = refl

any_filter : (p q : ℕ → Bool) (xs : List ℕ) → list_any q (filter p xs) ≡ list_any (λ x. p x && q x) xs
any_filter p q [] = refl
any_filter p q (x ∷ xs) = any_cond q (p x) x (filter p xs) ∙ any_step (p x) (q x) _ _ (any_filter p q xs)

both : (a b : Bool) → a ≡ true → b ≡ true → (a && b) ≡ true
both a b p q = rw (p, q) refl

-- the numbers below n that pass a test
has_filtered : (p : ℕ → Bool) (n x : ℕ) → Decides (contains (filter p (range_with_len 0 n)) x) ((x < n) × (p x ≡ true))
has_filtered p n x =
    let any = any_below (λ i. p i && nat_eq x i) n in
    let same = any_filter p (nat_eq x) (range_with_len 0 n) in (
      (λ h.
          let one = any.0 (sym same ∙ h) in
          let parts = and_parts (p one.0) (nat_eq x one.0) one.2 in
          let here : one.0 ≡ x = sym (eqb-true x one.0 parts.1) in
          (subst (λ (i : ℕ). i < n) here one.1, subst (λ (i : ℕ). p i ≡ true) here parts.0)),
      (λ h. same ∙ any.1 (x, h.0, both (p x) (nat_eq x x) h.1 (eq-eqb x x refl))),
    )

-- a row of a list of rows, and none past its end
row_within : (f : ℕ → List ℕ) (n a : ℕ) → a < n → slice_index_or (map f (range_with_len 0 n)) a [] ≡ f a
row_within f n a lt = get_or-map-range_with_len f 0 n a a [] lt (omega arith)

row_past : (f : ℕ → List ℕ) (n a : ℕ) → n ≤ a → slice_index_or (map f (range_with_len 0 n)) a [] ≡ []
row_past f n a le = get_or_past (map f (range_with_len 0 n)) a [] (omega (arith, le, length-map-range_with_len f 0 n))

has_row : (f : ℕ → List ℕ) (n a x : ℕ) → Decides (contains (slice_index_or (map f (range_with_len 0 n)) a []) x) ((a < n) × (contains (f a) x ≡ true))
has_row f n a x = ⊎_elim
    (λ (lt : a < n). let same = ap (λ row. contains row x) (row_within f n a lt) in ((λ h. (lt, sym same ∙ h)), (λ h. same ∙ h.1)))
    (λ (le : n ≤ a). ((λ h. absurd (both_ways false refl (sym (ap (λ row. contains row x) (row_past f n a le)) ∙ h))), (λ h. absurd (omega (arith, h.0, le)))))
    (cases_lt a n)

has_both : (f : ℕ → List ℕ) (p : ℕ → ℕ → Bool) (n m a x : ℕ) → f a ≡ filter (p a) (range_with_len 0 m)
    → Decides (contains (slice_index_or (map f (range_with_len 0 n)) a []) x) ((a < n) × (x < m) × (p a x ≡ true))
has_both f p n m a x is =
    let row = has_row f n a x in
    let in_row = has_filtered (p a) m x in
    let same = ap (λ r. contains r x) is in (
      (λ h. let r = row.0 h in let i = in_row.0 (sym same ∙ r.1) in (r.0, i.0, i.1)),
      (λ h. row.1 (h.0, same ∙ in_row.1 (h.1, h.2))),
    )

-- some aircraft has the link exactly where the test says so
some_link : LinkDecides → (book : BookSeen) (a b : ℕ) → Decides (is_linked book a b) (SomeLink book a b)
some_link decides book a b =
    let any = any_below (λ k. is_link book k (After a) b) (aircraft book) in (
      (λ h. let one = any.0 h in (one.0, one.1, (decides book one.0 (After a) b).0 one.2)),
      (λ one. any.1 (one.0, one.1, (decides book one.0 (After a) b).1 one.2)),
    )

pub successors_said : LinkDecides → (book : BookSeen) (a b : ℕ) → Decides (contains (successors_in (net_of book) a) b) (SomeLink book a b)
unfolding net_of successors_of
successors_said decides book a b =
    Decides-like (contains (successors_in (net_of book) a) b)
    (λ h. (some_link decides book a b).0 h.2)
    (λ one. (one.2.before.activity, one.2.after.activity, (some_link decides book a b).1 one))
    (has_both (successors_of book) (is_linked book) (activities book) (activities book) a b refl)

pub predecessors_said : LinkDecides → (book : BookSeen) (a b : ℕ) → Decides (contains (predecessors_in (net_of book) b) a) (SomeLink book a b)
unfolding net_of predecessors_of
predecessors_said decides book a b =
    Decides-like (contains (predecessors_in (net_of book) b) a)
    (λ h. (some_link decides book a b).0 h.2)
    (λ one. (one.2.after.activity, one.2.before.activity, (some_link decides book a b).1 one))
    (has_both (predecessors_of book) (λ y x. is_linked book x y) (activities book) (activities book) b a refl)

pub heads_said : LinkDecides → (book : BookSeen) (k b : ℕ) → Decides (contains (heads_in (net_of book) k) b) (IsLink book k Carry b)
unfolding net_of heads_of
heads_said decides book k b =
    Decides-like (contains (heads_in (net_of book) k) b)
    (λ h. (decides book k Carry b).0 h.2)
    (λ link. (link.after.aircraft, link.after.activity, (decides book k Carry b).1 link))
    (has_both (heads_of book) (λ i x. is_link book i Carry x) (aircraft book) (activities book) k b refl)

pub both_directions : LinkDecides → (book : BookSeen) (a b : ℕ) → contains (successors_in (net_of book) a) b ≡ contains (predecessors_in (net_of book) b) a
both_directions decides book a b = same_from_decides _ _ (successors_said decides book a b) (predecessors_said decides book a b)

pub successor_follows : LinkDecides → LinksRise → (book : BookSeen) → IsBook book → (a b : ℕ) → contains (successors_in (net_of book) a) b ≡ true → a < b
successor_follows decides rise book sound a b h =
    let one = (successors_said decides book a b).0 h in
    rise book sound one.0 a b one.2.before.activity one.2.after.activity one.2

-- numbers in order stay in order
rising_kept : (n : ℕ) (x : Place) (b : Bool) (s : ℕ) (rest : List ℕ) → IsBefore x s → s < n → IsRisingFrom n (After s) rest → IsRisingFrom n x rest
    → IsRisingFrom n x (cond b (s ∷ rest) rest)
rising_kept n x true s rest before within after passed = (before, within, after)
rising_kept n x false s rest before within after passed = passed

rising_filtered : (n : ℕ) (p : ℕ → Bool) (s m : ℕ) (x : Place) → s + m ≤ n → ((b : ℕ) → s ≤ b → IsBefore x b) → IsRisingFrom n x (filter p (range_with_len s m))
rising_filtered n p s zero x le before = tt
rising_filtered n p s (suc m) x le before =
    rising_kept n x (p s) s (filter p (range_with_len (s + 1) m)) (before s (omega arith)) (omega (arith, le))
    (rising_filtered n p (s + 1) m (After s) (omega (arith, le)) (λ b h. omega (arith, h)))
    (rising_filtered n p (s + 1) m x (omega (arith, le)) (λ b h. before b (omega (arith, h))))

rising_row : (n : ℕ) (f : ℕ → List ℕ) (m a : ℕ) → ((i : ℕ) → IsRisingFrom n Carry (f i)) → IsRisingFrom n Carry (slice_index_or (map f (range_with_len 0 m)) a [])
rising_row n f m a each = ⊎_elim
    (λ (lt : a < m). subst (IsRisingFrom n Carry) (sym (row_within f m a lt)) (each a))
    (λ (le : m ≤ a). subst (IsRisingFrom n Carry) (sym (row_past f m a le)) tt)
    (cases_lt a m)

pub rows_rise : (book : BookSeen) → RowsRise book
unfolding net_of successors_of predecessors_of heads_of
rows_rise book =
    let n = activities book in
    record {
      successors = λ a. rising_row n (successors_of book) n a (λ i. rising_filtered n (is_linked book i) 0 n Carry (omega arith) (λ b h. tt));
      predecessors = λ b. rising_row n (predecessors_of book) n b (λ i. rising_filtered n (λ a. is_linked book a i) 0 n Carry (omega arith) (λ a h. tt));
      heads = λ k. rising_row n (heads_of book) (aircraft book) k (λ i. rising_filtered n (is_link book i Carry) 0 n Carry (omega arith) (λ b h. tt));
    }

pub row_for_each : (book : BookSeen) → HasRowForEach book
unfolding net_of
row_for_each book = record {
  successors = length-map-range_with_len (successors_of book) 0 (activities book);
  predecessors = length-map-range_with_len (predecessors_of book) 0 (activities book);
  heads = length-map-range_with_len (heads_of book) 0 (aircraft book);
}
