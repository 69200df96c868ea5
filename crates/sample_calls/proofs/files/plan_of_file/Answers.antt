use Rattle.std.proofs.Common.{subst}
use Rattle.plan_report.specs.PlanText.{plan_in}
use Rattle.sample_calls.specs.Files.{TellsPlan}
use Rattle.sample_calls.proofs.PlanFronts.{tells_whole}
use Rattle.sample_calls.proofs.files.plan_of_file.Goals as goal

-- what was read is the file, or as much of it as is looked at
pub returns-clause-plan : goal.returns-clause-plan
returns-clause-plan g c =
    tells_whole _ _ _ c.in-Ok.ensures.bytes (subst (λ text. TellsPlan (plan_in text) c.plan_of_text.result) c.deref.ensures.value c.plan_of_text.ensures.told)
