use Rattle.std.proofs.Common.{◌≡◌, map}
use Rattle.tail_outside.specs.inside.Sure.{file_with_room}
use Rattle.tail_outside.proofs.sure_files.SureFiles.new.Given as goal

-- the files so far have their room
abbrev pub invariant-loop-file : goal.invariant-loop-file
invariant-loop-file l = l.made.items ≡ map (file_with_room l.room) l.yielded
