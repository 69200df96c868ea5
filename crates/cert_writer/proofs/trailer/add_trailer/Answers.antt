use Rattle.std.proofs.Common.{◌∙◌}
use Rattle.cert_writer.proofs.FlierLemmas.{few-fliers}
use Rattle.cert_writer.proofs.trailer.add_trailer.Goals as goal

pub add_plan-requires : goal.add_plan-requires
add_plan-requires c = few-fliers _ _ _ (c.deref-in-Optimal.ensures.value ∙ c.in_ok-fliers-in-Optimal.ensures) c.ranges.n.fits

pub add_plan-requires-in-Between : goal.add_plan-requires-in-Between
add_plan-requires-in-Between c = few-fliers _ _ _ (c.deref-in-Between-2.ensures.value ∙ c.in_ok-fliers-in-Between.ensures) c.ranges.n.fits
