-- Pools of a node: what is kept of a pool fits, and what is added is there.
use Rattle.std.proofs.Common.{◌≡◌, ◌+◌, ◌<◌, ℕ, Bool, true, false, inl, inr, arith, List, length, refl, sym, subst}
use Rattle.std.proofs.lemmas.Bool.{cases_order}
use Rattle.std.proofs.lemmas.List.Elements.{All-filter, filter_passes}
use Rattle.std.specs.Prelude.{All, Contains}
use Rattle.tail_book.specs.Seen.{BookSeen}
use Rattle.tail_book.specs.Lookup.{aircraft}
use Rattle.tail_book.specs.Route.{IsLegalRoute}
use Rattle.tail_book.specs.TableSeen.{CostTableSeen}
use Rattle.branch_marks.specs.declared.fact.Fact.{Fact}
use Rattle.branch_marks.specs.Pool.{Pooled, IsFittingEntry}
use Rattle.branch_marks.specs.inside.MarkTests.{FitsDecides}
use Rattle.restricted_master.specs.Keeping.{fits_entry, KeepsFitting}
use Rattle.restricted_master.specs.Pool.{HasRoutes}
use Rattle.restricted_master.specs.Seen.{PoolSeen}
use Rattle.node_leaves.specs.inside.NewRoutes.{entry_of, AddsRoute, HasAll, HasGrown}
use Rattle.node_leaves.specs.inside.FittingPool.{IsFittingPool, IsLegalPool}

-- what is kept is what was legal and fits
pub kept_fitting : FitsDecides → (table : CostTableSeen) (book : BookSeen) (marks : List Fact) (old new : PoolSeen)
    → KeepsFitting book marks old new → IsLegalPool table book old → IsFittingPool table book marks new
kept_fitting decides table book marks old new keeps legal =
    let test = fits_entry book marks in
    let stays = All-filter test (λ (e : Pooled). IsLegalRoute book e.aircraft e.route) old.entries legal.legal in
    let passes = filter_passes test old.entries in
    record {
      of_book = keeps.costs table legal.of_book;
      fitting = subst (λ (es : List Pooled). All (IsFittingEntry book marks) es) (sym keeps.routes)
          (λ i d lt. record { legal = stays i d lt; fits = (decides book marks _ _).0 (passes i d lt) });
    }

-- a pool with a route of each aircraft
pub all_routes : (book : BookSeen) (pool : PoolSeen) (routes : List (List ℕ)) → length routes ≡ aircraft book → HasAll pool routes (length routes)
    → HasRoutes book pool
all_routes book pool routes count all = λ k lt.
    let (i, less, at) = all k (omega (arith, lt, count)) in
    (i, entry_of routes k, less, at, refl)

-- one route more is in the pool, with those before it
pub all_more : (old new : PoolSeen) (routes : List (List ℕ)) (k : ℕ) (grew : Bool) → HasAll old routes k → AddsRoute old new (entry_of routes k) grew
    → HasAll new routes (k + 1)
all_more old new routes k grew all adds = λ j lt. elim (cases_order j k) [
  | inl same ↦ subst (λ (i : ℕ). Contains new.entries (entry_of routes i)) (sym same) adds.here
  | inr o ↦ elim o [
    | inl less ↦ adds.kept (entry_of routes j) (all j less)
    | inr over ↦ absurd (omega (arith, lt, over))
  ]
]

-- a pool that grows then has grown
pub grown_later : (first old new : PoolSeen) (before : Bool) → HasGrown first old before → HasGrown old new true → HasGrown first new true
grown_later first old new true one two = omega (arith, one, two)
grown_later first old new false one two = subst (λ (p : PoolSeen). length p.entries < length new.entries) one two

-- and one that does not has grown where it had before
pub grown_before : (first old new : PoolSeen) (before : Bool) → HasGrown first old before → HasGrown old new false → HasGrown first new before
grown_before first old new before one two = subst (λ (p : PoolSeen). HasGrown first p before) (sym two) one
