-- What a change of one dual does to the weights: those of the routes with the activity fall by what it rises, and all
-- others stay. By induction on a route, whose activities rise: so behind the activity it does not come again, and its
-- dual is counted once.
use Rattle.std.proofs.Common.{◌≡◌, ◌≢◌, ◌<◌, ◌≤◌, ◌*◌, ◌+ℤ◌, ◌-ℤ◌, ℕ, ℤ, pos, arith, refl, sym, ◌∙◌, ap, ap₂, inl, inr, Bool, true, false, List, [], ◌∷◌, length}
use Rattle.std.proofs.lemmas.Int.{ints}
use Rattle.std.proofs.lemmas.Bool.{cases_eq, both_ways, eq-eqb}
use Rattle.std.proofs.lemmas.List.{get_or-set_same, get_or-set_other}
use Rattle.std.specs.Prelude.{nat_eq, ◌||◌}
use Rattle.tail_book.specs.Seen.{BookSeen}
use Rattle.tail_book.specs.TableSeen.{CostTableSeen}
use Rattle.tail_book.specs.declared.place.Place.{Place}
use Rattle.tail_book.specs.declared.place.Place.TheVariants.{Carry, After}
use Rattle.tail_book.specs.Numbers.{contains}
use Rattle.tail_book.specs.CostTable.{cost_unit, route_cost_in}
use Rattle.tail_book.specs.inside.Rising.{IsRisingFrom}
use Rattle.branch_marks.specs.Pool.{Pooled}
use Rattle.branch_marks.specs.Settled.{with_dual}
use Rattle.branch_marks.specs.Weights.{dual, duals_on}
use Rattle.restricted_master.specs.inside.Least.{entry_weight}
use Rattle.fee_master.proofs.Members.{not_equal}

-- behind a place no number up to it comes
not_after : (n b a : ℕ) (rest : List ℕ) → IsRisingFrom n (After b) rest → a ≤ b → contains rest a ≡ false
not_after n b a [] rises le = refl
not_after n b a (c ∷ rest) rises le =
    let after = rises.0 in
    let ne : a ≢ c = omega (arith, le, after) in
    ap (λ (t : Bool). t || contains rest a) (not_equal a c ne) ∙ not_after n c a rest rises.2 (omega (arith, le, after))

step_same : (u v x y : ℤ) → x ≡ y → (v +ℤ x) ≡ ((u +ℤ y) +ℤ (v -ℤ u))
step_same u v x y e = omega (arith, ints, e)

step_more : (w x y d : ℤ) → x ≡ (y +ℤ d) → (w +ℤ x) ≡ ((w +ℤ y) +ℤ d)
step_more w x y d e = omega (arith, ints, e)

-- the duals of a route where one dual has changed
duals_without : (n : ℕ) (x : Place) (route : List ℕ) (duals : List ℤ) (a : ℕ) (v : ℤ) → IsRisingFrom n x route → contains route a ≡ false
    → duals_on (with_dual duals a v) route ≡ duals_on duals route
duals_without n x [] duals a v rises lacks = refl
duals_without n x (b ∷ rest) duals a v rises lacks = elim (cases_eq b a) [
  | inl e ↦ absurd (both_ways (nat_eq a b || contains rest a) lacks (ap (λ (t : Bool). t || contains rest a) (eq-eqb a b (sym e))))
  | inr ne ↦
      (let rest_lacks : contains rest a ≡ false = sym (ap (λ (t : Bool). t || contains rest a) (not_equal a b (λ h. ne (sym h)))) ∙ lacks in
      ap₂ (λ (p q : ℤ). p +ℤ q) (get_or-set_other duals a b v (pos 0) ne) (duals_without n (After b) rest duals a v rises.2 rest_lacks))
]

duals_with : (n : ℕ) (x : Place) (route : List ℕ) (duals : List ℤ) (a : ℕ) (v : ℤ) → IsRisingFrom n x route → a < length duals → contains route a ≡ true
    → duals_on (with_dual duals a v) route ≡ (duals_on duals route +ℤ (v -ℤ dual duals a))
duals_with n x [] duals a v rises below has = absurd (both_ways false refl has)
duals_with n x (b ∷ rest) duals a v rises below has = elim (cases_eq b a) [
  | inl e ↦
      (let new : dual (with_dual duals a v) b ≡ v = ap (dual (with_dual duals a v)) e ∙ get_or-set_same duals a v (pos 0) below in
      let rest_is = duals_without n (After b) rest duals a v rises.2 (not_after n b a rest rises.2 (omega (arith, e))) in
      ap (λ (p : ℤ). p +ℤ duals_on (with_dual duals a v) rest) new ∙ step_same (dual duals a) v (duals_on (with_dual duals a v) rest) (duals_on duals rest) rest_is
      ∙ ap (λ (m : ℕ). (dual duals m +ℤ duals_on duals rest) +ℤ (v -ℤ dual duals a)) (sym e))
  | inr ne ↦
      (let rest_has : contains rest a ≡ true = sym (ap (λ (t : Bool). t || contains rest a) (not_equal a b (λ h. ne (sym h)))) ∙ has in
      ap (λ (p : ℤ). p +ℤ duals_on (with_dual duals a v) rest) (get_or-set_other duals a b v (pos 0) ne)
      ∙ step_more (dual duals b) (duals_on (with_dual duals a v) rest) (duals_on duals rest) (v -ℤ dual duals a) (duals_with n (After b) rest duals a v rises.2 below rest_has))
]

less_with : (c p q u v : ℤ) → p ≡ (q +ℤ (v -ℤ u)) → (c -ℤ p) ≡ (((c -ℤ q) +ℤ u) -ℤ v)
less_with c p q u v e = omega (arith, ints, e)

-- so a route with the activity weighs what the dual rose less, and another one the same
pub weight_with : (table : CostTableSeen) (book : BookSeen) (n : ℕ) (duals : List ℤ) (a : ℕ) (v : ℤ) (entry : Pooled) → IsRisingFrom n Carry entry.route → a < length duals
    → contains entry.route a ≡ true → entry_weight table book (with_dual duals a v) entry ≡ ((entry_weight table book duals entry +ℤ dual duals a) -ℤ v)
weight_with table book n duals a v entry rises below has =
    less_with (pos (cost_unit * route_cost_in table book entry.aircraft entry.route)) (duals_on (with_dual duals a v) entry.route) (duals_on duals entry.route) (dual duals a) v
    (duals_with n Carry entry.route duals a v rises below has)

pub weight_without : (table : CostTableSeen) (book : BookSeen) (n : ℕ) (duals : List ℤ) (a : ℕ) (v : ℤ) (entry : Pooled) → IsRisingFrom n Carry entry.route
    → contains entry.route a ≡ false → entry_weight table book (with_dual duals a v) entry ≡ entry_weight table book duals entry
weight_without table book n duals a v entry rises lacks =
    ap (λ (z : ℤ). pos (cost_unit * route_cost_in table book entry.aircraft entry.route) -ℤ z) (duals_without n Carry entry.route duals a v rises lacks)
