-- What lines are as a text. For cert_writer/src/trailer.rt.
use Rattle.std.specs.Prelude.{ℕ, List, [], ◌∷◌, ◌++◌}
use Rattle.std.specs.List.{flat_map}
use Rattle.cert_lines.specs.declared.cert_line.CertLine.{CertLine}
use Rattle.cert_lines.specs.Spelling.{spelling}

-- each line with the newline that ends it
abbrev pub cert_text : List CertLine → List ℕ
cert_text lines = flat_map (λ line. spelling line ++ 10 ∷ []) lines
