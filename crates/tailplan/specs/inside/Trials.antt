-- Whether a verdict is a yes, as a flag of a trial tells it. For src/trial.rt.
use Rattle.std.specs.Prelude.{Bool, true, false, ◌≡◌}
use Rattle.cert_checker.specs.declared.verdict.Verdict.{Verdict}
use Rattle.cert_checker.specs.declared.verdict.Verdict.TheVariants.{Yes, No}

-- it is a yes exactly where it is accepted
abbrev pub IsYes : Bool → Verdict → Type 0
IsYes accepted (Yes claim) = accepted ≡ true
IsYes accepted (No line reason) = accepted ≡ false
