-- What each step of pricing with fees is given: what is asked, and how far the labels are.
use Rattle.std.specs.Prelude.{◌≡◌, ℕ, ◌<◌, ◌≤◌, ◌+◌, length}
use Rattle.tail_book.specs.Lookup.{activities, aircraft}
use Rattle.tail_book.specs.CostTable.{costs_of}
use Rattle.maint_counters.specs.inside.StepTable.{IsStepTableOf}
use Rattle.connection_net.specs.Net.{net_of}
use Rattle.branch_marks.specs.inside.MarkTables.{AreMarksOf}
use Rattle.branch_marks.specs.Settled.{AreDuals}
use Rattle.label_store.specs.Seen.{StoreSeen}
use Rattle.quota_rows.specs.declared.quota.TheConstants.{QUOTA_LIMIT}
use Rattle.quota_rows.specs.Fees.{AreFees}
use Rattle.fee_pricing.specs.declared.asked.Asked.{Asked}
use Rattle.fee_pricing.specs.inside.Fair.{AreFair}
use Rattle.fee_pricing.specs.inside.ForAsked.{AreTrueFor, arc_for}

-- an aircraft of the book is priced by the book's own costs under these marks, duals and fees, and the tables are the book's
pub record IsAsked (asked : Asked) : Type 0 where
  pub table : asked.table.now ≡ costs_of asked.book.now
  pub net : asked.net.now ≡ net_of asked.book.now
  pub steps : IsStepTableOf asked.book.now asked.steps.now
  pub marks : AreMarksOf asked.book.now asked.marks.now
  pub duals : AreDuals asked.table.now asked.book.now asked.duals.now.values
  pub few : length asked.quotas.now ≤ QUOTA_LIMIT
  pub fees : AreFees asked.table.now asked.quotas.now asked.fees.now.values
  pub aircraft : asked.k < aircraft asked.book.now

-- so no link adds much
abbrev pub AreAskedLinksFair : Asked → Type 0
AreAskedLinksFair asked = AreFair (arc_for asked) (activities asked.book.now)

-- the store has a bucket for each activity, it and the row that is written, of this width, hold a weight and all counters,
-- and each kept row is true
pub record IsUnderWay (asked : Asked) (store : StoreSeen) (long : ℕ) : Type 0 where
  pub nodes : length store.buckets ≡ activities asked.book.now
  pub width : long ≡ 1 + length asked.book.now.rules.counters
  pub same_width : store.width ≡ long
  pub truths : AreTrueFor asked store
