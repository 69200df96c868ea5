use Rattle.std.proofs.Common.{◌≡◌, ℕ, Err, Global, Ok, Vec, refl, subst}
use Rattle.table_records.specs.inside.NoRow.{Judges}
use Rattle.book_maker.specs.NameNumbers.{numbers_in}
use Rattle.book_maker.proofs.JudgeLemmas.{judges-code, judges-list}
use Rattle.book_maker.proofs.activity_found.RawActivityEntry.found.Goals as goal

-- the first name that is unknown decides
pub returns-in_err-from-clause-value : goal.returns-in_err-from-clause-value
returns-in_err-from-clause-value c =
    judges-code _ _ c.in_err-from.field-0.0 c.from_residual.result c.from_residual.ensures.1 (rw (← c.known.view_is, ← c.self.view_is, ← c.in_err-from.ensures) refl)

pub returns-in_err-types-clause-value : goal.returns-in_err-types-clause-value
returns-in_err-types-clause-value c =
    let bad = subst (λ xs. Judges {T = Vec ℕ Global} (λ v. v.items) (numbers_in c.known.inside.kinds.keys xs) (Err c.in_err-types.field-0.0)) c.as_slice.ensures.value c.in_err-types.ensures in
    rw (← c.known.view_is, ← c.self.view_is, ← c.in_ok-from.ensures, ← c.in_ok-to.ensures) (judges-list _ _ _ c.in_err-types.field-0.0 c.from_residual-in_err-types.result bad c.from_residual-in_err-types.ensures.1)

pub returns-in_err-resets-clause-value : goal.returns-in_err-resets-clause-value
returns-in_err-resets-clause-value c =
    let types = subst (λ xs. numbers_in c.known.inside.kinds.keys xs ≡ Ok c.in_ok-types.types.items) c.as_slice.ensures.value c.in_ok-types.ensures in
    let bad = subst (λ xs. Judges {T = Vec ℕ Global} (λ v. v.items) (numbers_in c.known.inside.counters.keys xs) (Err c.in_err-resets.field-0.0)) c.as_slice-2.ensures.value c.in_err-resets.ensures in
    rw (← c.known.view_is, ← c.self.view_is, ← c.in_ok-from.ensures, ← c.in_ok-to.ensures, types, ← c.in_ok-tail.ensures) (judges-list _ _ _ c.in_err-resets.field-0.0 c.from_residual-in_err-resets.result bad c.from_residual-in_err-resets.ensures.1)
