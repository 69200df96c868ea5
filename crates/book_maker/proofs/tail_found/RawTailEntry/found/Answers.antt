use Rattle.std.proofs.Common.{◌≡◌, ℤ, Err, Global, Ok, Vec, refl, subst}
use Rattle.table_records.specs.inside.NoRow.{Judges}
use Rattle.book_maker.specs.NameNumbers.{numbers_in}
use Rattle.book_maker.specs.CarryFound.{carry_in}
use Rattle.book_maker.proofs.JudgeLemmas.{judges-code, judges-list}
use Rattle.book_maker.proofs.tail_found.RawTailEntry.found.Goals as goal

-- the first name that is unknown decides
pub returns-in_err-kind-clause-value : goal.returns-in_err-kind-clause-value
returns-in_err-kind-clause-value c =
    judges-code _ _ c.in_err-kind.field-0.0 c.from_residual.result c.from_residual.ensures.1 (rw (← c.known.view_is, ← c.self.view_is, ← c.in_err-kind.ensures) refl)

pub returns-in_err-carry-clause-value : goal.returns-in_err-carry-clause-value
returns-in_err-carry-clause-value c =
    let avoid = subst (λ xs. numbers_in c.known.inside.airports.keys xs ≡ Ok c.in_ok-avoid.avoid.items) c.as_slice.ensures.value c.in_ok-avoid.ensures in
    let bad = subst (λ xs. Judges {T = Vec ℤ Global} (λ v. v.items) (carry_in c.known.inside.counters.keys xs) (Err c.in_err-carry.field-0.0)) c.as_slice-2.ensures.value c.in_err-carry.ensures in
    rw (← c.known.view_is, ← c.self.view_is, ← c.in_ok-kind.ensures, ← c.in_ok-at.ensures, avoid) (judges-list _ _ _ c.in_err-carry.field-0.0 c.from_residual-in_err-carry.result bad c.from_residual-in_err-carry.ensures.1)
