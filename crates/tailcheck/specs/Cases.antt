-- What is judged by the book of three tables: a plan or a certificate. For Answers.antt and Promises.antt.
use Rattle.std.specs.Prelude.{ℕ, List, Option, Result, Ok}
use Rattle.tail_book.specs.Seen.{BookSeen, RawPlanSeen}
use Rattle.tail_text.specs.Checks.{look}
use Rattle.tail_text.specs.declared.refusal.Refusal.{Refusal}
use Rattle.book_maker.specs.Made.{book_of}
use Rattle.plan_report.specs.PlanText.{plan_in}
use Rattle.tailcheck.specs.Texts.{SubjectSeen, PlanBytes, CertificateBytes, TextsSeen}

-- a book, and what is judged by it: the plan of a file, or the bytes of a certificate where they are told
pub data Case : Type 0 where
  PlanCase : BookSeen → RawPlanSeen → Case
  CertificateCase : BookSeen → Option (List ℕ) → Case

-- a plan's file may be refused; no certificate is, since whatever stands in it is judged
abbrev pub case_by : BookSeen → SubjectSeen → Result Case Refusal
case_by book (PlanBytes bytes) = look (plan_in bytes) (λ plan. Ok (PlanCase book plan))
case_by book (CertificateBytes text) = Ok (CertificateCase book text)

-- the book of the tables with what is judged by it, or the first refusal: that of the tables, and then that of the plan's file
abbrev pub case_of : TextsSeen → Result Case Refusal
case_of texts = look (book_of texts.tables.timetable texts.tables.fleet texts.tables.rules) (λ book. case_by book texts.subject)
