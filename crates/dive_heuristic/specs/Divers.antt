-- What a diver has made ready of a book: a propagator, a pricer, room for labels, and a tally.
-- For src/diver.rt, src/descent.rt and others.
use Rattle.std.specs.Prelude.{◌≡◌, ◌+◌, List, length}
use Rattle.tail_book.specs.Seen.{BookSeen}
use Rattle.tail_book.specs.TableSeen.{CostTableSeen}
use Rattle.tail_book.specs.Lookup.{activities}
use Rattle.label_store.specs.Seen.{StoreSeen}
use Rattle.branch_marks.specs.declared.fact.Fact.{Fact}
use Rattle.propagator.specs.Keeping.{IsKeptFor}
use Rattle.pricing.specs.inside.Prepared.{IsPricerOf}
use Rattle.dive_heuristic.specs.declared.diver.Diver.{Diver}

-- the store has room for the labels of the book
pub record IsStoreOf (book : BookSeen) (store : StoreSeen) : Type 0 where
  pub nodes : length store.buckets ≡ activities book
  pub width : store.width ≡ 1 + length book.rules.counters

-- the diver was made for the book and the table, and its propagator is right for these marks
pub record IsDiverFor (book : BookSeen) (table : CostTableSeen) (marks : List Fact) (diver : Diver) : Type 0 where
  pub propagator : IsKeptFor book marks diver.propagator
  pub pricer : IsPricerOf book table diver.pricer
  pub store : IsStoreOf book diver.store
  pub tally : length diver.tally.items ≡ activities book

-- it can be used for any marks
abbrev pub IsFreeFor : BookSeen → CostTableSeen → Diver → Type 0
IsFreeFor book table diver = (facts : List Fact) → IsDiverFor book table facts diver

-- it was made for the book and the table, and used for some marks or none
abbrev pub IsDiverOf : BookSeen → CostTableSeen → Diver → Type 0
IsDiverOf book table diver = (facts : List Fact) × IsDiverFor book table facts diver
