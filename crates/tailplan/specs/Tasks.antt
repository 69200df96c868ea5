-- What a run plans: three tables, how many nodes its search may count and in which order, and which file its certificate is
-- written to, if any, and in which version.
-- For Answers.antt, Promises.antt and others.
use Rattle.std.specs.Prelude.{ℕ, List, Option, IfSome, IsTrue, option_and_then, option_map}
use Rattle.tail_outside.specs.Shown.{FilesShown}
use Rattle.branch_tree.specs.declared.limit.Limit.{Limit}
use Rattle.cert_lines.specs.declared.version.Version.{Version}
use Rattle.certified_search.specs.declared.order.Order.{Order}
use Rattle.run_frame.specs.TableFiles.{MayReadTables, tables_held}
use Rattle.run_frame.specs.Tables.{NamesSeen, TablesSeen}

-- the names of the three tables, the limit, the order, and the version and the name of the certificate's file
pub record TaskNamesSeen : Type 0 where
  pub tables : NamesSeen
  pub limit : Limit
  pub order : Order
  pub version : Version
  pub cert : Option (List ℕ)

-- the bytes of the three tables, the limit, the order, and the version and the name of the certificate's file
pub record TaskSeen : Type 0 where
  pub tables : TablesSeen
  pub limit : Limit
  pub order : Order
  pub version : Version
  pub cert : Option (List ℕ)

-- the three names may be read, and the certificate's may be written
abbrev pub MayUseTask : FilesShown → TaskNamesSeen → Type 0
MayUseTask files names = MayReadTables files names.tables × IfSome names.cert (λ name. IsTrue (files.lets_write name))

-- the task that files hold under these names, where each of the tables is told
abbrev pub task_held : FilesShown → TaskNamesSeen → Option TaskSeen
task_held files names =
    option_map (λ tables. record { tables = tables; limit = names.limit; order = names.order; version = names.version; cert = names.cert })
    (tables_held files names.tables)

-- the name of the certificate's file, where there are names and it is among them
abbrev pub cert_in : Option TaskNamesSeen → Option (List ℕ)
cert_in given = option_and_then (λ names. names.cert) given
