use Rattle.std.proofs.Common.{◌≡◌, ◌∙◌, ◌-◌, ◌<◌, ap, arith, length, of_z, rules, sym, to_z, w64}
use Rattle.std.specs.Prelude.{ℤ}
use Rattle.std.proofs.lemmas.Int.{ints}
use Rattle.tail_book.specs.inside.Sound.{IsOffset}
use Rattle.turn_rules.proofs.Offsets.{offset_after-last, offset_after-none}
use Rattle.turn_rules.proofs.local_time.offset_of.Goals as goal

-- an offset has 64 bits
offset_kept : (z : ℤ) → IsOffset z → to_z w64 (of_z w64 z) ≡ z
offset_kept z near = search (rules, ints)

-- no change has come yet
pub returns-then-before-eq0-clause-value : goal.returns-then-before-eq0-clause-value
returns-then-before-eq0-clause-value c =
    let fits : to_z w64 (of_z w64 c.airport.inside.offset) ≡ c.airport.inside.offset = search rules in
    let moment : to_z w64 (of_z w64 c.args.t) ≡ c.args.t = search rules in
    let own = ap (λ p. p.offset) c.airport.view_is in
    let list = c.deref.ensures.value ∙ ap (λ p. p.changes) c.airport.view_is in
    let parts = rw (list, moment) at c.changes_by-before.ensures.parts in
    let none = offset_after-none c.args.airport.now.offset c.args.airport.now.changes c.args.t (λ k d low high. parts.1 k d (omega (arith, low)) high) in
    fits ∙ own ∙ sym none

-- the last change that has come decides
pub returns-else-before-eq0-clause-value : goal.returns-else-before-eq0-clause-value
returns-else-before-eq0-clause-value c =
    let moment : to_z w64 (of_z w64 c.args.t) ≡ c.args.t = search rules in
    let same = ap (λ p. p.changes) c.airport.view_is in
    let list = c.deref.ensures.value ∙ same in
    let parts = rw (list, moment) at c.changes_by-before.ensures.parts in
    let within = rw list at c.changes_by-before.ensures.within in
    let inside : c.changes_by-before.result - 1 < length c.args.airport.now.changes = omega (arith, within) in
    let last = offset_after-last c.args.airport.now.changes c.args.airport.now.offset c.args.t (c.changes_by-before.result - 1) c.index.result.now inside
    (λ k e low high. parts.0 k e low (omega (arith, high))) (λ k e low high. parts.1 k e (omega (arith, low)) high) in
    let read = rw same at c.index.ensures in
    let near = c.requires.changes (c.changes_by-before.result - 1) c.index.result.now inside in
    ap (λ change. to_z w64 (of_z w64 change.offset)) read ∙ offset_kept _ near ∙ sym last
