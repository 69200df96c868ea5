-- What closing the last leaf gives, by what stands before the next line. A bound leaf has to have a cover for each
-- aircraft; then its bound, from the sum of its duals and values, lowers the least one. In a tree the leaf is done and
-- the least bound stays. Elsewhere nothing can be closed, so that a line of a node has no place there.
use Rattle.std.specs.Prelude.{◌==◌, ◌+ℤ◌, not, reverse, if◌then◌else◌}
use Rattle.std.proofs.Common.{◌≡◌, ◌∙◌, ℕ, suc, Bool, true, false, List, [], ◌∷◌, length, take, Option, None, Ok, Err, refl, sym, ap, arith}
use Rattle.std.proofs.lemmas.Bool.{ne_eqb}
use Rattle.std.proofs.lemmas.List.{length-reverse}
use Rattle.tail_book.specs.Lookup.{aircraft}
use Rattle.tail_book.specs.Seen.{BookSeen}
use Rattle.tail_book.specs.Sums.{total}
use Rattle.branch_marks.specs.Bound.{rounded_up}
use Rattle.branch_marks.specs.declared.fact.Fact.{Fact}
use Rattle.cert_checker.specs.Step.{after_leaf, done_section, lower, owes}
use Rattle.cert_checker.specs.State.{State}
use Rattle.cert_checker.specs.State as section
use Rattle.cert_checker.specs.declared.state.Judging.{Judging}
use Rattle.cert_checker.specs.declared.state.Part.{Part}
use Rattle.cert_checker.specs.declared.state.Part.TheVariants.{Start, InTree, InBound, InLean, InPlan, Claimed}
use Rattle.cert_checker.specs.declared.verdict.Reason.TheVariants.{OutOfPlace}
use Rattle.cert_checker.specs.inside.Kept.{section_in, state_of}
use Rattle.cert_checker.proofs.AtNodes.{passed, stopped}
use Rattle.open_branches.specs.declared.branches.Owed.{Owed}
use Rattle.open_branches.specs.Branches.{behind_of, owed_behind, owed_of}

module _ (book : BookSeen) (judging : Judging) where
  abbrev state : State
  state = state_of judging

  abbrev closed : Option ℕ → State
  closed low = record state { section = section.InTree; leaf = None; low = low }

  pub close_short : judging.part ≡ InBound → (judging.covers == aircraft book) ≡ false → after_leaf book state ≡ Err OutOfPlace
  close_short here e = ap (λ (part : Part). done_section book state (section_in judging part)) here ∙ stopped _ OutOfPlace _ e

  pub close_bound : (low : Option ℕ) → judging.part ≡ InBound → (judging.covers == aircraft book) ≡ true
      → low ≡ lower judging.low (rounded_up (total judging.duals.items +ℤ judging.values)) → after_leaf book state ≡ Ok (closed low)
  close_bound low here e is =
      ap (λ (part : Part). done_section book state (section_in judging part)) here ∙ passed _ OutOfPlace _ e
      ∙ ap (λ (least : Option ℕ). Ok (closed least)) (sym is)

  pub close_tree : judging.part ≡ InTree → after_leaf book state ≡ Ok (closed judging.low)
  close_tree here = ap (λ (part : Part). done_section book state (section_in judging part)) here

  pub close_none : (judging.part ≡ InBound → ⊥) → (judging.part ≡ InTree → ⊥) → after_leaf book state ≡ Err OutOfPlace
  close_none no_bound no_tree = by_part judging.part refl
    where
      by_part : (part : Part) → judging.part ≡ part → done_section book state (section_in judging part) ≡ Err OutOfPlace
      by_part Start e = refl
      by_part InTree e = absurd (no_tree e)
      by_part InBound e = absurd (no_bound e)
      by_part InLean e = refl
      by_part InPlan e = refl
      by_part (Claimed claim) e = refl

-- what is owed behind a node that is not owed itself
some_left : (m : List Fact) (more : List (List Fact)) → true ≡ not (length (m ∷ more) == 0)
some_left m more = sym (ap not (ne_eqb (length (m ∷ more)) 0 (λ e. omega (arith, e))))

no_start : (judging : Judging) (part : Part) → (part ≡ Start → ⊥) → (marks : List (List Fact)) → owes (section_in judging part) marks ≡ not (length marks == 0)
no_start judging Start other marks = absurd (other refl)
no_start judging InTree other [] = refl
no_start judging InTree other (m ∷ more) = some_left m more
no_start judging InBound other [] = refl
no_start judging InBound other (m ∷ more) = some_left m more
no_start judging InLean other [] = refl
no_start judging InLean other (m ∷ more) = some_left m more
no_start judging InPlan other [] = refl
no_start judging InPlan other (m ∷ more) = some_left m more
no_start judging (Claimed claim) other [] = refl
no_start judging (Claimed claim) other (m ∷ more) = some_left m more

long_behind : (facts : List Fact) (behind : List Owed) → length (owed_behind facts behind) ≡ length behind
long_behind facts [] = refl
long_behind facts (owed ∷ more) = ap (λ (n : ℕ). suc n) (long_behind (take owed.count facts) more)

pub owes_behind : (judging : Judging) → (judging.part ≡ Start → ⊥) → judging.branches.owes ≡ false
    → not (length judging.branches.behind.items == 0) ≡ owes (section_in judging judging.part) (owed_of judging.branches)
owes_behind judging other none = sym (
    no_start judging judging.part other (owed_of judging.branches)
    ∙ ap (λ (owes : Bool). not (length (if owes then judging.branches.marks.facts ∷ behind_of judging.branches else behind_of judging.branches) == 0)) none
    ∙ ap (λ (n : ℕ). not (n == 0)) (long_behind judging.branches.marks.facts (reverse judging.branches.behind.items) ∙ length-reverse judging.branches.behind.items))
