-- The files of a run over four of them: the three tables, and a fourth, which is a published plan or a table of quotas; their
-- names, and what is read of them. For src/four_texts.rt, src/repair_words.rt and src/quota_words.rt.
use Rattle.std.specs.Prelude.{ℕ, List, [], ◌∷◌, Option, Some, None, IsTrue, option_and_then, option_map}
use Rattle.tail_outside.specs.Shown.{FilesShown}
use Rattle.run_frame.specs.TableFiles.{MayReadTables, tables_held}
use Rattle.run_frame.specs.Tables.{NamesSeen, TablesSeen}

-- the names of the three tables and of the fourth file
pub record FourNamesSeen : Type 0 where
  pub tables : NamesSeen
  pub fourth : List ℕ

-- the bytes of the three tables and of the fourth file
pub record FourTextsSeen : Type 0 where
  pub tables : TablesSeen
  pub fourth : List ℕ

-- exactly four names stand behind the program's name and the word behind that
abbrev pub names_behind : List (List ℕ) → Option FourNamesSeen
names_behind (program ∷ word ∷ timetable ∷ fleet ∷ rules ∷ fourth ∷ []) =
    Some (record { tables = record { timetable = timetable; fleet = fleet; rules = rules }; fourth = fourth })
names_behind words = None

-- the four names may be read
abbrev pub MayReadTexts : FilesShown → FourNamesSeen → Type 0
MayReadTexts files names = MayReadTables files names.tables × IsTrue (files.lets_read names.fourth)

-- the tables and the fourth file that files hold under these names, where each of them is told
abbrev pub texts_held : FilesShown → FourNamesSeen → Option FourTextsSeen
texts_held files names =
    option_and_then (λ tables. option_map (λ fourth. record { tables = tables; fourth = fourth }) (files.holds names.fourth)) (tables_held files names.tables)
