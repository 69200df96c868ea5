-- What is repaired: a published plan, for the book of three tables. For src/repair_run.rt.
use Rattle.std.specs.Prelude.{Result, Ok, nat_le}
use Rattle.tail_book.specs.Seen.{BookSeen, RawPlanSeen}
use Rattle.tail_book.specs.Lookup.{activities}
use Rattle.tail_text.specs.Checks.{look, must}
use Rattle.tail_text.specs.Reading.{refusal_at}
use Rattle.tail_text.specs.declared.codes.TheConstants.{TOO_MANY}
use Rattle.tail_text.specs.declared.refusal.Refusal.{Refusal}
use Rattle.tail_text.specs.declared.refusal.Table.TheVariants.{Timetable}
use Rattle.book_maker.specs.Made.{book_of}
use Rattle.plan_repair.specs.declared.raised.TheConstants.{REPAIR_LIMIT}
use Rattle.plan_report.specs.PlanText.{plan_in}
use Rattle.tailplan.specs.FourTexts.{FourTextsSeen}

-- a book, and the published plan that is repaired for it
pub record RepairCase : Type 0 where
  pub book : BookSeen
  pub plan : RawPlanSeen

-- the refusal of a book that is too large to repair: its first activity too many, behind the header and a thousand records
abbrev pub too_large : Refusal
too_large = refusal_at TOO_MANY Timetable 1002

-- the book of the tables and the plan of its file, or the first refusal: that of the tables, then that of the plan's file, and
-- then that of a book that is too large
abbrev pub case_of : FourTextsSeen → Result RepairCase Refusal
case_of texts =
    look (book_of texts.tables.timetable texts.tables.fleet texts.tables.rules) (λ book.
    look (plan_in texts.fourth) (λ plan.
    must (nat_le (activities book) REPAIR_LIMIT) too_large (
    Ok (record { book = book; plan = plan }))))
