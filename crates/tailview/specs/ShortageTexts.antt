-- The files of a shortage's picture, their names, and what is read of them. For src/shortage_texts.rt and src/shortage_words.rt.
use Rattle.std.specs.Prelude.{ℕ, Bool, List, Option, IsTrue, option_and_then, option_map}
use Rattle.tail_outside.specs.Shown.{FilesShown}
use Rattle.run_frame.specs.TableFiles.{MayReadTables, tables_held}
use Rattle.run_frame.specs.Tables.{NamesSeen, TablesSeen}

-- the names of the three tables and of the shortage's file, the airport whose curfews are shown, and whether a page is asked for
pub record ShortageNamesSeen : Type 0 where
  pub tables : NamesSeen
  pub told : List ℕ
  pub airport : Option (List ℕ)
  pub html : Bool

-- the bytes of the three tables and of the shortage's file, beside the airport, and whether a page is asked for
pub record ShortageTextsSeen : Type 0 where
  pub tables : TablesSeen
  pub told : List ℕ
  pub airport : Option (List ℕ)
  pub html : Bool

-- the four names may be read
abbrev pub MayReadShortageTexts : FilesShown → ShortageNamesSeen → Type 0
MayReadShortageTexts files names = MayReadTables files names.tables × IsTrue (files.lets_read names.told)

-- the tables and the shortage's file that files hold under these names, where each of them is told
abbrev pub shortage_held : FilesShown → ShortageNamesSeen → Option ShortageTextsSeen
shortage_held files names =
    option_and_then (λ tables. option_map (λ told. record { tables = tables; told = told; airport = names.airport; html = names.html })
    (files.holds names.told))
    (tables_held files names.tables)
