-- What the reading of a line answers to a text that is no line: that it is bad, and not why. For src/line_reader.rt.
use Rattle.cert_lines.specs.declared.cert_line.BadLine.{BadLine}

-- the one answer
abbrev pub bad_line : BadLine
bad_line = record {}
