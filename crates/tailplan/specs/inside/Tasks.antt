-- The names of a run of the planner as contracts see them, and the fronts of what is held. For src/words.rt.
use Rattle.std.specs.Prelude.{option_map}
use Rattle.run_frame.specs.inside.TableFiles.{fronts, names_seen}
use Rattle.tailplan.specs.Tasks.{TaskNamesSeen, TaskSeen}
use Rattle.tailplan.specs.declared.words.TaskNames.{TaskNames}

-- the names, as bytes
abbrev pub task_names_seen : TaskNames → TaskNamesSeen
task_names_seen names = record { tables = names_seen names.tables; limit = names.limit; order = names.order; version = names.version; cert = option_map (λ s. s.now) names.cert }

-- as much of the tables as is read
abbrev pub task_fronts : TaskSeen → TaskSeen
task_fronts task = record { tables = fronts task.tables; limit = task.limit; order = task.order; version = task.version; cert = task.cert }
