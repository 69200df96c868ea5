-- What a change of one dual does to the weights: those of the routes with the activity fall by what it rises, and all
-- others stay. By induction on a route, whose activities rise: so behind the activity it does not come again, and its
-- dual is counted once. The least weight of an aircraft is then the lesser of its two choices at the new dual.
use Rattle.std.proofs.Common.{◌≡◌, ◌≢◌, ◌<◌, ◌≤◌, ◌+◌, ◌*◌, ◌+ℤ◌, ◌-ℤ◌, ℕ, ℤ, pos, arith, refl, sym, ◌∙◌, ap, ap₂, subst, inl, inr, Bool, true, false, List, [], ◌∷◌, length, get_or, set, take, Option, Some, None}
use Rattle.std.proofs.lemmas.Int.{ints, clamps}
use Rattle.std.proofs.lemmas.Bool.{cases_eq, both_ways, eq-eqb, and_from, and_parts}
use Rattle.std.proofs.lemmas.List.{length-set, get_or-set_same, get_or-set_other}
use Rattle.std.specs.Prelude.{nat_eq, not, ◌&&◌, ◌||◌, if◌then◌else◌, int_lt}
use Rattle.tail_book.specs.Seen.{BookSeen}
use Rattle.tail_book.specs.TableSeen.{CostTableSeen}
use Rattle.tail_book.specs.declared.place.Place.{Place}
use Rattle.tail_book.specs.declared.place.Place.TheVariants.{Carry, After}
use Rattle.tail_book.specs.Numbers.{contains}
use Rattle.tail_book.specs.CostTable.{cost_unit, route_cost_in}
use Rattle.tail_book.specs.inside.Rising.{IsRisingFrom}
use Rattle.tail_book.proofs.Picked.{picked}
use Rattle.branch_marks.specs.Pool.{Pooled}
use Rattle.branch_marks.specs.Settled.{with_dual}
use Rattle.branch_marks.specs.Weights.{dual, duals_on}
use Rattle.restricted_master.specs.inside.Choices.{taken_at}
use Rattle.restricted_master.specs.inside.Least.{IsLeastBelow, entry_weight, weight_at}
use Rattle.restricted_master.proofs.Listing.{contains_more, not_equal, or_false}
use Rattle.restricted_master.proofs.Members.{true_or_false}

abbrev pub shifted : Bool → ℤ → ℤ → ℤ
shifted b weight rise = if b then weight -ℤ rise else weight

-- one route more has fallen
pub shift_more : (initial weights : List ℤ) (numbers : List ℕ) (q i : ℕ) (rise v : ℤ)
    → ((j : ℕ) → j < length weights → weight_at weights j ≡ shifted (contains (take q numbers) j) (weight_at initial j) rise)
    → q < length numbers → get_or numbers q 0 ≡ i → contains (take q numbers) i ≡ false → i < length weights → v ≡ weight_at weights i -ℤ rise
    → (j : ℕ) → j < length (set weights i v) → weight_at (set weights i v) j ≡ shifted (contains (take (q + 1) numbers) j) (weight_at initial j) rise
shift_more initial weights numbers q i rise v so_far below is new within value j lt = elim (cases_eq j i) [
  | inl e ↦
      (let now : contains (take (q + 1) numbers) j ≡ true =
      contains_more numbers q j i below is ∙ ap₂ (λ (s t : Bool). s || (t || false)) (ap (contains (take q numbers)) e ∙ new) (eq-eqb j i e) in
      let before : weight_at weights i ≡ weight_at initial i = so_far i within ∙ ap (λ (b : Bool). shifted b (weight_at initial i) rise) new in
      ap (weight_at (set weights i v)) e ∙ get_or-set_same weights i v (pos 0) within ∙ value ∙ ap (λ (z : ℤ). z -ℤ rise) (before ∙ ap (weight_at initial) (sym e))
      ∙ sym (ap (λ (b : Bool). shifted b (weight_at initial j) rise) now))
  | inr ne ↦
      (let now : contains (take (q + 1) numbers) j ≡ contains (take q numbers) j =
      contains_more numbers q j i below is ∙ ap (λ (t : Bool). contains (take q numbers) j || (t || false)) (not_equal j i ne) ∙ or_false (contains (take q numbers) j) in
      get_or-set_other weights i j v (pos 0) ne ∙ so_far j (subst (λ (n : ℕ). j < n) (length-set weights i v) lt)
      ∙ sym (ap (λ (b : Bool). shifted b (weight_at initial j) rise) now))
]

-- behind a place no number up to it comes
not_after : (n b a : ℕ) (rest : List ℕ) → IsRisingFrom n (After b) rest → a ≤ b → contains rest a ≡ false
not_after n b a [] rises le = refl
not_after n b a (c ∷ rest) rises le =
    let after = rises.0 in
    let ne : a ≢ c = omega (arith, le, after) in
    ap (λ (t : Bool). t || contains rest a) (not_equal a c ne) ∙ not_after n c a rest rises.2 (omega (arith, le, after))

step_same : (u v x y : ℤ) → x ≡ y → (v +ℤ x) ≡ ((u +ℤ y) +ℤ (v -ℤ u))
step_same u v x y e = omega (arith, ints, e)

step_more : (w x y d : ℤ) → x ≡ (y +ℤ d) → (w +ℤ x) ≡ ((w +ℤ y) +ℤ d)
step_more w x y d e = omega (arith, ints, e)

-- the duals of a route where one dual has changed
duals_without : (n : ℕ) (x : Place) (route : List ℕ) (duals : List ℤ) (a : ℕ) (v : ℤ) → IsRisingFrom n x route → contains route a ≡ false
    → duals_on (with_dual duals a v) route ≡ duals_on duals route
duals_without n x [] duals a v rises lacks = refl
duals_without n x (b ∷ rest) duals a v rises lacks = elim (cases_eq b a) [
  | inl e ↦ absurd (both_ways (nat_eq a b || contains rest a) lacks (ap (λ (t : Bool). t || contains rest a) (eq-eqb a b (sym e))))
  | inr ne ↦
      (let rest_lacks : contains rest a ≡ false = sym (ap (λ (t : Bool). t || contains rest a) (not_equal a b (λ h. ne (sym h)))) ∙ lacks in
      ap₂ (λ (p q : ℤ). p +ℤ q) (get_or-set_other duals a b v (pos 0) ne) (duals_without n (After b) rest duals a v rises.2 rest_lacks))
]

duals_with : (n : ℕ) (x : Place) (route : List ℕ) (duals : List ℤ) (a : ℕ) (v : ℤ) → IsRisingFrom n x route → a < length duals → contains route a ≡ true
    → duals_on (with_dual duals a v) route ≡ (duals_on duals route +ℤ (v -ℤ dual duals a))
duals_with n x [] duals a v rises below has = absurd (both_ways false refl has)
duals_with n x (b ∷ rest) duals a v rises below has = elim (cases_eq b a) [
  | inl e ↦
      (let new : dual (with_dual duals a v) b ≡ v = ap (dual (with_dual duals a v)) e ∙ get_or-set_same duals a v (pos 0) below in
      let rest_is = duals_without n (After b) rest duals a v rises.2 (not_after n b a rest rises.2 (omega (arith, e))) in
      ap (λ (p : ℤ). p +ℤ duals_on (with_dual duals a v) rest) new ∙ step_same (dual duals a) v (duals_on (with_dual duals a v) rest) (duals_on duals rest) rest_is
      ∙ ap (λ (m : ℕ). (dual duals m +ℤ duals_on duals rest) +ℤ (v -ℤ dual duals a)) (sym e))
  | inr ne ↦
      (let rest_has : contains rest a ≡ true = sym (ap (λ (t : Bool). t || contains rest a) (not_equal a b (λ h. ne (sym h)))) ∙ has in
      ap (λ (p : ℤ). p +ℤ duals_on (with_dual duals a v) rest) (get_or-set_other duals a b v (pos 0) ne)
      ∙ step_more (dual duals b) (duals_on (with_dual duals a v) rest) (duals_on duals rest) (v -ℤ dual duals a) (duals_with n (After b) rest duals a v rises.2 below rest_has))
]

less_with : (c p q u v : ℤ) → p ≡ (q +ℤ (v -ℤ u)) → (c -ℤ p) ≡ (((c -ℤ q) +ℤ u) -ℤ v)
less_with c p q u v e = omega (arith, ints, e)

-- so a route with the activity weighs what the dual rose less, and another one the same
pub weight_with : (table : CostTableSeen) (book : BookSeen) (n : ℕ) (duals : List ℤ) (a : ℕ) (v : ℤ) (entry : Pooled) → IsRisingFrom n Carry entry.route → a < length duals
    → contains entry.route a ≡ true → entry_weight table book (with_dual duals a v) entry ≡ ((entry_weight table book duals entry +ℤ dual duals a) -ℤ v)
weight_with table book n duals a v entry rises below has =
    less_with (pos (cost_unit * route_cost_in table book entry.aircraft entry.route)) (duals_on (with_dual duals a v) entry.route) (duals_on duals entry.route) (dual duals a) v
    (duals_with n Carry entry.route duals a v rises below has)

pub weight_without : (table : CostTableSeen) (book : BookSeen) (n : ℕ) (duals : List ℤ) (a : ℕ) (v : ℤ) (entry : Pooled) → IsRisingFrom n Carry entry.route
    → contains entry.route a ≡ false → entry_weight table book (with_dual duals a v) entry ≡ entry_weight table book duals entry
weight_without table book n duals a v entry rises lacks =
    ap (λ (z : ℤ). pos (cost_unit * route_cost_in table book entry.aircraft entry.route) -ℤ z) (duals_without n Carry entry.route duals a v rises lacks)

un_not : (b : Bool) → not b ≡ true → b ≡ false
un_not true e = absurd (both_ways false refl e)
un_not false e = refl

-- what an aircraft takes at a dual is the least of its weights under it
module _ (n : ℕ) (s h : ℕ → Bool) (w later : ℕ → ℤ) (d v : ℤ) (with_it : (i : ℕ) → i < n → h i ≡ true → later i ≡ ((w i +ℤ d) -ℤ v))
    (without_it : (i : ℕ) → i < n → h i ≡ false → later i ≡ w i) where
  abbrev IsTakenLeast : Option ℤ → Option ℤ → Type 0
  IsTakenLeast with without = IsLeastBelow n s later (Some (taken_at v with without))

  pub taken_least : (with without : Option ℤ) → IsLeastBelow n (λ i. h i && s i) (λ i. w i +ℤ d) with → IsLeastBelow n (λ i. s i && not (h i)) w without
      → ((i : ℕ) × (i < n) × (s i ≡ true)) → IsTakenLeast with without
  taken_least None None one other some = absurd (
      let (i, lt, pass) = some in elim (true_or_false (h i)) [
        | inl it ↦ both_ways (h i && s i) (one i lt) (and_from (h i) (s i) it pass)
        | inr lacks ↦ both_ways (s i && not (h i)) (other i lt) (and_from (s i) (not (h i)) pass (ap not lacks))
      ])
  taken_least None (Some y) one other some = (
    λ i lt pass. elim (true_or_false (h i)) [
      | inl it ↦ absurd (both_ways (h i && s i) (one i lt) (and_from (h i) (s i) it pass))
      | inr lacks ↦ (let low = other.0 i lt (and_from (s i) (not (h i)) pass (ap not lacks)) in let is = without_it i lt lacks in omega (arith, ints, low, is))
    ],
    (let (i, lt, both, is) = other.1 in
        let (pass, not_h) = and_parts (s i) (not (h i)) both in
        (i, lt, pass, without_it i lt (un_not (h i) not_h) ∙ is)),
  )
  taken_least (Some x) None one other some = (
    λ i lt pass. elim (true_or_false (h i)) [
      | inl it ↦ (let low = one.0 i lt (and_from (h i) (s i) it pass) in let is = with_it i lt it in omega (arith, ints, low, is))
      | inr lacks ↦ absurd (both_ways (s i && not (h i)) (other i lt) (and_from (s i) (not (h i)) pass (ap not lacks)))
    ],
    (let (i, lt, both, is) = one.1 in
        let (it, pass) = and_parts (h i) (s i) both in
        (i, lt, pass, with_it i lt it ∙ ap (λ (z : ℤ). z -ℤ v) is)),
  )
  taken_least (Some x) (Some y) one other some = (
    λ i lt pass. elim (true_or_false (h i)) [
      | inl it ↦ (let low = one.0 i lt (and_from (h i) (s i) it pass) in let is = with_it i lt it in omega (arith, ints, clamps, low, is))
      | inr lacks ↦ (let low = other.0 i lt (and_from (s i) (not (h i)) pass (ap not lacks)) in let is = without_it i lt lacks in omega (arith, ints, clamps, low, is))
    ],
    elim (picked (int_lt (x -ℤ v) y) y (x -ℤ v)) [
      | inl e ↦ (let (i, lt, both, is) = other.1 in
          let (pass, not_h) = and_parts (s i) (not (h i)) both in
          (i, lt, pass, without_it i lt (un_not (h i) not_h) ∙ is ∙ sym e))
      | inr e ↦ (let (i, lt, both, is) = one.1 in
          let (it, pass) = and_parts (h i) (s i) both in
          (i, lt, pass, with_it i lt it ∙ ap (λ (z : ℤ). z -ℤ v) is ∙ sym e))
    ],
  )
