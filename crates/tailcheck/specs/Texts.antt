-- The files of a run, their names, and what is read of them. For src/audited.rt, src/certified.rt and others.
use Rattle.std.specs.Prelude.{ℕ, List, Option, Some, IsTrue, option_and_then, option_map}
use Rattle.tail_outside.specs.Shown.{FilesShown}
use Rattle.run_frame.specs.TableFiles.{MayReadTables, tables_held}
use Rattle.run_frame.specs.Tables.{NamesSeen, TablesSeen}

-- what is judged beside the tables, by the name of its file: a plan or a certificate
pub data SubjectName : Type 0 where
  PlanName : List ℕ → SubjectName
  CertificateName : List ℕ → SubjectName

-- the names of the three tables, and what is judged
pub record CheckNamesSeen : Type 0 where
  pub tables : NamesSeen
  pub subject : SubjectName

-- the bytes of what is judged: those of a plan's file, or those of a certificate's where they are told, since that file is
-- read only where the tables are a book
pub data SubjectSeen : Type 0 where
  PlanBytes : List ℕ → SubjectSeen
  CertificateBytes : Option (List ℕ) → SubjectSeen

-- the bytes of the three tables, and of what is judged
pub record TextsSeen : Type 0 where
  pub tables : TablesSeen
  pub subject : SubjectSeen

-- the file of what is judged may be read
abbrev pub MayReadSubject : FilesShown → SubjectName → Type 0
MayReadSubject files (PlanName name) = IsTrue (files.lets_read name)
MayReadSubject files (CertificateName name) = IsTrue (files.lets_read name)

-- the four names may be read
abbrev pub MayReadTexts : FilesShown → CheckNamesSeen → Type 0
MayReadTexts files names = MayReadTables files names.tables × MayReadSubject files names.subject

-- what is judged, as files hold it under this name; a plan only where its file is told
abbrev pub subject_held : FilesShown → SubjectName → Option SubjectSeen
subject_held files (PlanName name) = option_map PlanBytes (files.holds name)
subject_held files (CertificateName name) = Some (CertificateBytes (files.holds name))

-- the tables that files hold under these names, and what is judged, where each of them is told
abbrev pub texts_held : FilesShown → CheckNamesSeen → Option TextsSeen
texts_held files names =
    option_and_then (λ tables. option_map (λ subject. record { tables = tables; subject = subject }) (subject_held files names.subject))
    (tables_held files names.tables)
