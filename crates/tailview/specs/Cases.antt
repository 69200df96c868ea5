-- What is judged: a plan, by the book of three tables, and what it is compared with. For src/before.rt, Answers.antt and others.
use Rattle.std.specs.Prelude.{ℕ, List, Option, None, Some, Result, Ok}
use Rattle.tail_book.specs.Seen.{BookSeen, RawPlanSeen}
use Rattle.tail_text.specs.Checks.{look}
use Rattle.tail_text.specs.declared.refusal.Refusal.{Refusal}
use Rattle.book_maker.specs.Made.{book_of}
use Rattle.plan_report.specs.PlanText.{plan_in}
use Rattle.tailview.specs.Texts.{TextsSeen}

-- a book, the plan that is judged by it, and a plan that was published before, if one is named
pub record Case : Type 0 where
  pub book : BookSeen
  pub plan : RawPlanSeen
  pub before : Option RawPlanSeen

-- the plan that was published before, if a file of one is read, or the refusal of that file
abbrev pub before_in : Option (List ℕ) → Result (Option RawPlanSeen) Refusal
before_in None = Ok None
before_in (Some bytes) = look (plan_in bytes) (λ plan. Ok (Some plan))

-- the book of the tables and the plans of their files, or the first refusal: that of the tables, then that of the plan's file,
-- and then that of the plan that was published before
abbrev pub case_of : TextsSeen → Result Case Refusal
case_of texts =
    look (book_of texts.tables.timetable texts.tables.fleet texts.tables.rules) (λ book.
    look (plan_in texts.plan) (λ plan.
    look (before_in texts.before) (λ before.
    Ok (record { book = book; plan = plan; before = before }))))
