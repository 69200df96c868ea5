-- What a sink over one named file shows. For src/file_sink.rt.
use Rattle.std.specs.Prelude.{ℕ, List}
use Rattle.tail_outside.specs.Shown.{FilesShown, SinkShown}

-- what a sink over the file of this name shows: the bytes of the file, where it is there and they are told
abbrev pub shown_over : FilesShown → List ℕ → SinkShown
shown_over files name = record {
  told = files.holds name;
  ceased = files.ceased name;
  faults = files.write_faults;
}
