use Rattle.std.proofs.Common.{◌≢◌}
use Rattle.branch_marks.specs.declared.named.Named.TheVariants.{Nothing, One, Several}
use Rattle.branch_marks.proofs.Parts.{tie_there}
use Rattle.branch_marks.proofs.marks.Marks.has_tie.Goals as goal

pub returns-in-Nothing : goal.returns-in-Nothing
returns-in-Nothing c =
    let apart : Nothing ≢ Several = λ e. absurd (cc) in
    tie_there c.args.a c.args.b Nothing c.args.self.now.facts c.in-Nothing.ensures apart

pub returns-in-One : goal.returns-in-One
returns-in-One c =
    let apart : One c.in-One.known ≢ Several = λ e. absurd (cc) in
    tie_there c.args.a c.args.b (One c.in-One.known) c.args.self.now.facts c.in-One.ensures apart
