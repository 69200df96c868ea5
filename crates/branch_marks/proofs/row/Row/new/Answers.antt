use Rattle.branch_marks.proofs.RowsPadded.{IsPadded-over_zeros}
use Rattle.branch_marks.proofs.row.Row.new.Goals as goal

-- the numbers stand over the front of zeros
pub invariant_of-result : goal.invariant_of-result
invariant_of-result c = IsPadded-over_zeros c.args.values.now c.copy_from_slice.new.self c.copy_from_slice.ensures.after c.requires
