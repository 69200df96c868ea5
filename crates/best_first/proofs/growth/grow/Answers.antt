use Rattle.std.proofs.Common.{◌≡◌, ◌∙◌, ℕ, List, length, Option, None, Some, inr, get_or, rules, subst}
use Rattle.std.specs.Prelude.{IsTrue}
use Rattle.branch_marks.specs.Bound.{bound_of, Passes}
use Rattle.best_first.specs.declared.slots.Slot.{Slot}
use Rattle.best_first.specs.inside.Slots.{IsFirstBelow, slot_at}
use Rattle.best_first.proofs.Endings.{all_above, all_full}
use Rattle.best_first.proofs.NodesKept.{no_slot}
use Rattle.best_first.proofs.SlotEdits.{same_at}
use Rattle.best_first.proofs.growth.grow.Goals as goal

-- no slot is open
pub returns-in_default-clause-out : goal.returns-in_default-clause-out
returns-in_default-clause-out c =
    let slots = c.nodes.state.slots.items in
    let none : c.first_open.result ≡ None = search rules in
    let there : IsFirstBelow c.deref.result.now (length c.deref.result.now) None =
    subst (λ (o : Option ℕ). IsFirstBelow c.deref.result.now (length c.deref.result.now) o) none c.first_open.ensures in
    let first : IsFirstBelow slots (length slots) None = subst (λ (s : List Slot). IsFirstBelow s (length s) None) c.deref.ensures.value there in
    inr (c.nodes.invariant.some, all_full slots c.nodes.state.best.target first)

-- the least bound reaches the target
pub returns-then-reaches-clause-out : goal.returns-then-reaches-clause-out
returns-then-reaches-clause-out c =
    let slots = c.nodes.state.slots.items in let p = c.in-Some.p in let target = c.nodes.state.best.target in
    let some : c.first_open.result ≡ Some p = search rules in
    let there : IsFirstBelow c.deref.result.now (length c.deref.result.now) (Some p) =
    subst (λ (o : Option ℕ). IsFirstBelow c.deref.result.now (length c.deref.result.now) o) some c.first_open.ensures in
    let first : IsFirstBelow slots (length slots) (Some p) = subst (λ (s : List Slot). IsFirstBelow s (length s) (Some p)) c.deref.ensures.value there in
    let at : c.index.result.now ≡ get_or slots p c.index.result.now = search rules in
    let here : c.index.result.now ≡ slot_at slots p = at ∙ same_at slots p c.index.result.now no_slot first.0 in
    let reached : IsTrue c.reaches.result = search rules in
    let passes : Passes (bound_of (slot_at slots p).rank.bound) target =
    subst (λ (s : Slot). Passes (bound_of s.rank.bound) target) here (c.reaches.ensures.0 reached) in
    inr (c.nodes.invariant.some, all_above slots target p first passes)
