-- The files of a run, their names, and what is read of them.
use Rattle.std.specs.Prelude.{ℕ, Bool, List, Option, None, Some, IfSome, IsTrue, option_and_then, option_map}
use Rattle.tail_outside.specs.Shown.{FilesShown}
use Rattle.run_frame.specs.TableFiles.{MayReadTables, tables_held}
use Rattle.run_frame.specs.Tables.{NamesSeen, TablesSeen}

-- the names of the three tables and of the plan's file, that of a plan that was published before, the airport whose curfews
-- are shown, and whether a strip for each day and a page are asked for
pub record ViewNamesSeen : Type 0 where
  pub tables : NamesSeen
  pub plan : List ℕ
  pub before : Option (List ℕ)
  pub airport : Option (List ℕ)
  pub by_day : Bool
  pub html : Bool

-- the bytes of the three tables and of the plans' files, beside the airport, and whether a strip for each day and a page are
-- asked for
pub record TextsSeen : Type 0 where
  pub tables : TablesSeen
  pub plan : List ℕ
  pub before : Option (List ℕ)
  pub airport : Option (List ℕ)
  pub by_day : Bool
  pub html : Bool

-- the file of a plan that was published before may be read, where one is named
abbrev pub MayReadBefore : FilesShown → Option (List ℕ) → Type 0
MayReadBefore files before = IfSome before (λ name. IsTrue (files.lets_read name))

-- the names may be read
abbrev pub MayReadTexts : FilesShown → ViewNamesSeen → Type 0
MayReadTexts files names = MayReadTables files names.tables × IsTrue (files.lets_read names.plan) × MayReadBefore files names.before

-- what files hold of a plan that was published before, where that is told: nothing where no file is named
abbrev pub before_held : FilesShown → Option (List ℕ) → Option (Option (List ℕ))
before_held files None = Some None
before_held files (Some name) = option_map (λ bytes. Some bytes) (files.holds name)

-- the tables and the plans' files that files hold under these names, where each of them is told
abbrev pub texts_held : FilesShown → ViewNamesSeen → Option TextsSeen
texts_held files names =
    option_and_then (λ tables. option_and_then (λ plan. option_map (λ before.
    record { tables = tables; plan = plan; before = before; airport = names.airport; by_day = names.by_day; html = names.html })
    (before_held files names.before))
    (files.holds names.plan))
    (tables_held files names.tables)
