-- A front of some facts is a front of these with more behind them. So a propagator that is kept for marks is kept for
-- marks that have grown since: what it knows is of the first n facts, which are still the first. Once all facts are
-- shut and their floors stand in the rows, all of them are such a front.
use Rattle.std.proofs.Common.{◌≡◌, ℕ, List, ◌++◌, take, arith, sym, subst, Option, None, Some}
use Rattle.std.proofs.lemmas.List.{take-append-le, length-append}
use Rattle.tail_book.specs.Seen.{BookSeen}
use Rattle.branch_marks.specs.declared.fact.Fact.{Fact}
use Rattle.branch_marks.specs.Following.{IsShut}
use Rattle.propagator.specs.KeptSeen.{PropagatorSeen}
use Rattle.floor_rows.specs.inside.FloorRow.{FloorRowSeen}
use Rattle.propagator.specs.inside.Cutting.{AreFloorsOf}
use Rattle.propagator.specs.Keeping.{KeepsFront, KeepsSeen, IsKeptFor}

module _ (book : BookSeen) (facts more : List Fact) where
  pub front_on : (rows : List FloorRowSeen) (n : ℕ) → KeepsFront book facts rows n → KeepsFront book (facts ++ more) rows n
  front_on rows n keeps =
      let few = keeps.few in
      let same : take n (facts ++ more) ≡ take n facts = take-append-le n facts more keeps.few in
      record {
        few = (let all = length-append facts more in omega (arith, few, all));
        shut = subst (λ (z : List Fact). IsShut book z) (sym same) keeps.shut;
        floors = subst (λ (z : List Fact). AreFloorsOf book z rows) (sym same) keeps.floors;
      }

  pub seen_on : (rows : List FloorRowSeen) (seen : Option ℕ) → KeepsSeen book facts rows seen → KeepsSeen book (facts ++ more) rows seen
  seen_on rows None right = tt
  seen_on rows (Some n) right = front_on rows n right

  pub kept_on : (kept : PropagatorSeen) → IsKeptFor book facts kept → IsKeptFor book (facts ++ more) kept
  kept_on kept is = record { made = is.made; right = seen_on kept.rows kept.seen is.right }
