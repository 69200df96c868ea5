-- A look that gives nothing decides what an entry gives: where the code returns early with a code, or for want of
-- memory, the definition stops at the same look, whatever would have followed.
use Rattle.std.proofs.Common.{◌≡◌, ℕ, List, Vec, Global, Result, Ok, Err, IsErrAnd, refl}
use Rattle.table_records.specs.inside.NoRow.{Judges}
use Rattle.table_records.specs.declared.table.NoRow.{NoRow}
use Rattle.table_records.specs.declared.table.NoRow.TheVariants.{Code, Memory}
use Rattle.tail_text.specs.Checks.{look}

-- a code that is passed on
pub judges-code : {S T : Type 0} (seen : T → S) (due : Result S ℕ) (code : ℕ) (r : Result T NoRow) → IsErrAnd r (λ why. why ≡ Code code) → due ≡ Err code → Judges seen due r
judges-code seen due code (Ok t) h e = absurd h
judges-code seen due code (Err (Code c)) h e =
    let same : c ≡ code = cc h in
    rw same e
judges-code seen due code (Err Memory) h e = tt

-- a cause that is passed on
pub judges-why : {A B S T : Type 0} (seen_first : B → A) (seen : T → S) (first : Result A ℕ) (next : A → Result S ℕ) (why : NoRow) (r : Result T NoRow)
    → Judges seen_first first (Err why) → IsErrAnd r (λ given. given ≡ why) → Judges seen (look first next) r
judges-why seen_first seen first next why (Ok t) bad h = absurd h
judges-why seen_first seen first next (Code code) (Err (Code c)) bad h =
    let same : c ≡ code = cc h in
    rw (bad, same) refl
judges-why seen_first seen first next Memory (Err (Code c)) bad h = cc h
judges-why seen_first seen first next why (Err Memory) bad h = tt

-- the same where a list is looked for
pub judges-list : {E S T : Type 0} (seen : T → S) (first : Result (List E) ℕ) (next : List E → Result S ℕ) (why : NoRow) (r : Result T NoRow)
    → Judges {T = Vec E Global} (λ v. v.items) first (Err why) → IsErrAnd r (λ given. given ≡ why) → Judges seen (look first next) r
judges-list {E} seen first next why r bad h = judges-why {B = Vec E Global} (λ v. v.items) seen first next why r bad h
