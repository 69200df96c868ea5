use Rattle.std.proofs.Common.{map}
use Rattle.std.specs.Fmt.{decimal, signed_decimal}
use Rattle.std.specs.Prelude.{codes}
use Rattle.cert_lines.proofs.WriteSteps.{front_first, label_parts}
use Rattle.cert_lines.proofs.spelling.write_label.Goals as goal

-- memory ended before the counters
pub returns-in-Err-clause-memory : goal.returns-in-Err-clause-memory
returns-in-Err-clause-memory c =
    front_first _ _ _ _ _ (label_parts (codes "label") (decimal c.args.at) (signed_decimal c.args.weight.now) (map signed_decimal c.args.counters.now)) c.in-Err.ensures.memory
