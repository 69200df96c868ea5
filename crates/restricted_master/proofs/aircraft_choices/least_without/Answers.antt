use Rattle.std.proofs.Common.{◌≡◌, ◌∙◌, ◌+◌, sym, ap, true, false, rules, get_or, ℕ, ℤ, List, Bool, Option, Some, w64, to_z, of_z, subst, slice_index_or, inl, inr}
use Rattle.std.specs.Prelude.{not, ◌&&◌, if◌then◌else◌}
use Rattle.tail_book.specs.Numbers.{contains}
use Rattle.restricted_master.specs.Lists.{has}
use Rattle.restricted_master.specs.inside.Least.{IsLeastBelow, is_lighter, weight_at}
use Rattle.restricted_master.proofs.LeastBelow.{below_dear, below_fail, below_light}
use Rattle.restricted_master.proofs.Members.{true_or_false}
use Rattle.restricted_master.proofs.aircraft_choices.least_without.Goals as goal

one_more : (n : ℕ) (test : ℕ → Bool) (f : ℕ → ℤ) (o p : Option ℤ) (w : ℤ) (t : Bool) → IsLeastBelow n test f o → w ≡ f n → test n ≡ not t
    → p ≡ (if is_lighter w o && not t then Some w else o) → IsLeastBelow (n + 1) test f p
one_more n test f o p w true least is passes made = elim (true_or_false (is_lighter w o)) [
  | inl light ↦ subst (λ (r : Option ℤ). IsLeastBelow (n + 1) test f r) (sym (made ∙ ap (λ (b : Bool). if b && false then Some w else o) light)) (below_fail n test f o least passes)
  | inr dear ↦ subst (λ (r : Option ℤ). IsLeastBelow (n + 1) test f r) (sym (made ∙ ap (λ (b : Bool). if b && false then Some w else o) dear)) (below_fail n test f o least passes)
]
one_more n test f o p w false least is passes made = elim (true_or_false (is_lighter w o)) [
  | inl light ↦ subst (λ (r : Option ℤ). IsLeastBelow (n + 1) test f r) (sym (made ∙ ap (λ (b : Bool). if b && true then Some w else o) light))
      (below_light n test f o w least passes is light)
  | inr dear ↦ subst (λ (r : Option ℤ). IsLeastBelow (n + 1) test f r) (sym (made ∙ ap (λ (b : Bool). if b && true then Some w else o) dear))
      (below_dear n test f o least (ap (λ (z : ℤ). is_lighter z o) (sym is) ∙ dear))
]

-- one route more
pub loop-q-preserved : goal.loop-q-preserved
loop-q-preserved c =
    let read : to_z w64 (of_z w64 (weight_at c.args.weights.now (get_or c.args.numbers.now c.loop-q.q 0))) ≡ weight_at c.args.weights.now (get_or c.args.numbers.now c.loop-q.q 0) = search rules in
    one_more c.loop-q.q (λ p. not (has c.args.pool.now c.args.a (slice_index_or c.args.numbers.now p 0)))
    (λ p. weight_at c.args.weights.now (slice_index_or c.args.numbers.now p 0)) c.loop-q.least c.lighter_without-least.result _ _ c.loop-q.invariant read
    (ap (λ (route : List ℕ). not (contains route c.args.a)) (sym c.route.ensures)) c.lighter_without-least.ensures
