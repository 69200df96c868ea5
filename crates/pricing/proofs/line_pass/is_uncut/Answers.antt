use Rattle.std.proofs.Common.{arith}
use Rattle.pricing.proofs.line_pass.is_uncut.Goals as goal

-- a Cut would have been noted
pub returns : goal.returns
returns c = λ yes a has. let noted = c.requires.cut a c.args.b has in absurd (grind (arith, noted, yes))
