-- Surpluses as weights: where nothing costs anything, and an asked activity saves a cost unit and a brought one costs it.
-- For src/costless.rt, src/unit_duals.rt and src/surplus_pricer.rt.
use Rattle.std.specs.Prelude.{Bool, ℕ, ℤ, pos, ◌-ℤ◌, ◌+◌, ◌*◌, ◌≡◌, List, [], map, cond, length, replicate}
use Rattle.std.specs.List.{range_with_len}
use Rattle.tail_book.specs.Seen.{BookSeen}
use Rattle.tail_book.specs.TableSeen.{CostTableSeen}
use Rattle.tail_book.specs.Numbers.{contains}
use Rattle.tail_book.specs.Lookup.{activities, aircraft}
use Rattle.connection_net.specs.Net.{net_of}
use Rattle.branch_marks.specs.inside.MarkTables.{AreMarksOf}
use Rattle.pricing.specs.inside.Prepared.{IsPricerOf}
use Rattle.plan_shortage.specs.declared.surplus_pricer.SurplusPricer.{SurplusPricer}

-- the table for a book by which nothing costs anything
abbrev pub costless : BookSeen → CostTableSeen
costless book = record {
  n = activities book;
  m = aircraft book;
  fly = replicate (activities book * aircraft book) 0;
  bands = [];
  fly_max = 0;
  band_max = 0;
}

-- a cost unit, in thousandths, or nothing
abbrev pub unit_if : Bool → ℕ
unit_if test = cond test 1000 0

-- the dual of an activity: a cost unit where it is asked for, less one where it is brought
abbrev pub unit_dual : List ℕ → List ℕ → ℕ → ℤ
unit_dual asked brought a = pos (unit_if (contains asked a)) -ℤ pos (unit_if (contains brought a))

-- the same for each of n activities
abbrev pub unit_duals : List ℕ → List ℕ → ℕ → List ℤ
unit_duals asked brought n = map (unit_dual asked brought) (range_with_len 0 n)

-- the pricer is made for the book: its table is that by which nothing costs anything, it has the book's network, no fact, and room for labels
pub record IsSurplusPricerOf (book : BookSeen) (kept : SurplusPricer) : Type 0 where
  pub table : kept.table ≡ costless book
  pub net : kept.net ≡ net_of book
  pub marks : AreMarksOf book kept.marks
  pub facts : kept.marks.facts ≡ []
  pub pricer : IsPricerOf book (costless book) kept.pricer
  pub nodes : length kept.store.buckets ≡ activities book
  pub width : kept.store.width ≡ 1 + length book.rules.counters
