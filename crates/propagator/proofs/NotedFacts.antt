-- Facts that were noted stay noted: flags are only set, and numbers only lowered. So the facts up to a place are noted once
-- the one at the place is.
use Rattle.std.proofs.Common.{◌≡◌, ◌∙◌, ℕ, ◌+◌, ◌<◌, ◌≤◌, arith, true, sym, subst, List, Bool, length, get_or, ⊎_elim}
use Rattle.std.proofs.lemmas.Bool.{cases_Bool, cases_lt, false≢true}
use Rattle.std.proofs.lemmas.List.{get_or_default}
use Rattle.branch_marks.specs.declared.fact.Fact.{Fact}
use Rattle.branch_marks.specs.declared.fact.Fact.TheVariants.{Bar, Must, Cut, Tie}
use Rattle.propagator.specs.inside.Moves.{KeepsFlags}
use Rattle.propagator.specs.inside.Suspects.{IsNoted, LowersPasses}
use Rattle.propagator.specs.inside.Touching.{is_set}

stays_set : (old new : List Bool) → KeepsFlags old new → (i : ℕ) → is_set old i ≡ true → is_set new i ≡ true
stays_set old new keeps i set = ⊎_elim (λ yes_set. yes_set) (λ clear. absurd (false≢true (sym (keeps i clear) ∙ set))) (cases_Bool (is_set new i))

noted_stays : (leave leave' arrive arrive' : List Bool) (pass pass' : List ℕ) → KeepsFlags leave leave' → KeepsFlags arrive arrive' → LowersPasses pass pass'
    → (fact : Fact) → IsNoted leave arrive pass fact → IsNoted leave' arrive' pass' fact
noted_stays leave leave' arrive arrive' pass pass' leaves arrives lowers (Bar k c) noted = (stays_set leave leave' leaves c noted.0, stays_set arrive arrive' arrives c noted.1)
noted_stays leave leave' arrive arrive' pass pass' leaves arrives lowers (Must k c) noted =
    (stays_set leave leave' leaves c noted.0, stays_set arrive arrive' arrives c noted.1, λ a lt. let le = noted.2 a lt in let less = lowers a in omega (arith, le, less))
noted_stays leave leave' arrive arrive' pass pass' leaves arrives lowers (Cut c d) noted = tt
noted_stays leave leave' arrive arrive' pass pass' leaves arrives lowers (Tie c d) noted = (stays_set leave leave' leaves c noted.0, stays_set arrive arrive' arrives d noted.1)

-- the facts from a number on up to place i, and the one at place i
pub noted_more : (facts : List Fact) (seen i : ℕ) (fact : Fact) (leave leave' arrive arrive' : List Bool) (pass pass' : List ℕ)
    → KeepsFlags leave leave' → KeepsFlags arrive arrive' → LowersPasses pass pass' → i < length facts → fact ≡ get_or facts i fact
    → ((j : ℕ) → seen ≤ j → j < i → (d : Fact) → IsNoted leave arrive pass (get_or facts j d)) → IsNoted leave' arrive' pass' fact
    → (j : ℕ) → seen ≤ j → j < i + 1 → (d : Fact) → IsNoted leave' arrive' pass' (get_or facts j d)
noted_more facts seen i fact leave leave' arrive arrive' pass pass' leaves arrives lowers within is before here j above below d = ⊎_elim
    (λ lt. noted_stays leave leave' arrive arrive' pass pass' leaves arrives lowers (get_or facts j d) (before j above lt d))
    (λ ge.
    let same : i ≡ j = omega (arith, ge, below) in
    subst (λ (n : ℕ). IsNoted leave' arrive' pass' (get_or facts n d)) same
    (subst (λ (f : Fact). IsNoted leave' arrive' pass' f) (is ∙ get_or_default facts i fact d within) here))
    (cases_lt j i)
