use Rattle.std.proofs.Common.{◌≡◌, ◌∙◌, sym, subst, rules, ◌+ℤ◌, to_z, of_z, w64, Bool, false, ℤ}
use Rattle.std.specs.Prelude.{FitsSigned}
use Rattle.std.proofs.lemmas.Int.{to_z-of_z}
use Rattle.maint_counters.specs.inside.StepTable.{added_in, clears_in}
use Rattle.maint_counters.proofs.StepRows.{goes_on}
use Rattle.maint_counters.proofs.step_table.stepped.Goals as goal

-- the value goes on by what is added
pub returns-else-cleared-clause-value : goal.returns-else-cleared-clause-value
returns-else-cleared-clause-value c =
    let value = to_z-of_z w64 c.args.value (search rules) in
    let added = to_z-of_z w64 c.added-added.result (search rules) in
    let sum_fits : FitsSigned w64 (c.args.value +ℤ c.added-added.result) = search rules in
    let sum = to_z-of_z w64 (c.args.value +ℤ c.added-added.result) sum_fits in
    let free = to_z-of_z w64 c.args.free (search rules) in
    let uncleared : clears_in c.args.row.now c.args.counter.now c.args.c c.args.free ≡ false =
    subst (λ (f : ℤ). clears_in c.args.row.now c.args.counter.now c.args.c f ≡ false) free (sym c.clears-cleared.ensures ∙ c.if-cleared.false) in
    let is_added : c.added-added.result ≡ added_in c.args.row.now c.args.free false c.args.counter.now.kind =
    subst (λ (f : ℤ). c.added-added.result ≡ added_in c.args.row.now f false c.args.counter.now.kind) free
    (subst (λ (cleared : Bool). c.added-added.result ≡ added_in c.args.row.now (to_z w64 (of_z w64 c.args.free)) cleared c.args.counter.now.kind) c.if-cleared.false c.added-added.ensures.value) in
    rw (value, added, sum)
    (goes_on c.args.row.now c.args.counter.now c.args.c c.args.free c.args.value c.added-added.result (sym c.has.ensures ∙ c.if-has.false) uncleared is_added)
