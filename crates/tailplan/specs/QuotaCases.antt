-- What is planned under quotas: the book of three tables, and the quotas of a fourth. For src/quota_run.rt.
use Rattle.std.specs.Prelude.{◌≡◌, ◌⊎◌, List, Ok, Err}
use Rattle.tail_book.specs.Seen.{BookSeen}
use Rattle.tail_text.specs.declared.refusal.Refusal.{Refusal}
use Rattle.quota_rows.specs.QuotaTable.{QuotaRefusal, quotas_of}
use Rattle.quota_rows.specs.declared.quota.Quota.{Quota}
use Rattle.tailplan.specs.FourTexts.{FourTextsSeen}
use Rattle.tailplan.specs.WhyAnswers.{AreBook, AreNoBook}

-- a book, and the quotas that its plans have to keep
pub record QuotaCase : Type 0 where
  pub book : BookSeen
  pub quotas : List Quota

-- the tables are this book, and these are its quotas
abbrev pub IsQuotaCase : FourTextsSeen → QuotaCase → Type 0
IsQuotaCase texts case = AreBook texts.tables case.book × (quotas_of case.book texts.fourth ≡ Ok case.quotas)

-- this is the first refusal of the tables
abbrev pub HaveNoBook : FourTextsSeen → Refusal → Type 0
HaveNoBook texts refusal = AreNoBook texts.tables refusal

-- the tables are a book, and this is the first refusal of its quotas
abbrev pub HaveNoQuotas : FourTextsSeen → QuotaRefusal → Type 0
HaveNoQuotas texts refusal = (book : BookSeen) × AreBook texts.tables book × (quotas_of book texts.fourth ≡ Err refusal)

-- a table is refused, or else the quotas are
abbrev pub AreRefusedFour : FourTextsSeen → Type 0
AreRefusedFour texts = ((refusal : Refusal) × HaveNoBook texts refusal) ⊎ ((refusal : QuotaRefusal) × HaveNoQuotas texts refusal)
