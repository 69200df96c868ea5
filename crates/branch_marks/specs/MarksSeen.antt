-- What contracts see of marks: the facts in their order, and the tables beside them from which questions are answered.
-- For src/marks.rt.
use Rattle.std.specs.Prelude.{ℕ, List}
use Rattle.branch_marks.specs.declared.fact.Fact.{Fact}
use Rattle.branch_marks.specs.declared.named.Named.{Named}
use Rattle.branch_marks.specs.inside.BitRows.{BitRowsSeen}
use Rattle.branch_marks.specs.declared.marks.Marks.TheInside.{Inside}

-- how many aircraft and activities the book has, the facts in the order in which they came, and the tables beside them:
-- who may fly each activity by the rules alone, and who is alive there; the Bars and the Musts of each aircraft; the Cuts of each activity; what Ties name behind
-- each activity and before it; whom Musts name
pub record MarksSeen : Type 0 where
  pub aircraft : ℕ
  pub activities : ℕ
  pub facts : List Fact
  pub allowed : BitRowsSeen
  pub alive : BitRowsSeen
  pub bars : BitRowsSeen
  pub musts : BitRowsSeen
  pub cuts : BitRowsSeen
  pub next : List Named
  pub previous : List Named
  pub carriers : List Named

-- what these fields show
abbrev pub marks_seen : Inside → MarksSeen
marks_seen t = record {
  aircraft = t.aircraft;
  activities = t.activities;
  facts = t.facts;
  allowed = t.allowed;
  alive = t.alive;
  bars = t.bars;
  musts = t.musts;
  cuts = t.cuts;
  next = t.next.items;
  previous = t.previous.items;
  carriers = t.carriers.items;
}
