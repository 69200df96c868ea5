-- What is printed of a certificate: the claim of an accepted one, the first failure of another, or that it is too long to be judged.
use Rattle.std.specs.Prelude.{ℕ, List, ◌++◌, codes, decimal}
use Rattle.tail_book.specs.declared.claim.Claim.{Claim}
use Rattle.tail_text.specs.ClaimWords.{claim_text}
use Rattle.cert_checker.specs.Reasons.{reason_name}
use Rattle.cert_checker.specs.declared.verdict.Verdict.{Verdict}
use Rattle.cert_checker.specs.declared.verdict.Verdict.TheVariants.{Yes, No}
use Rattle.plan_report.specs.Lines.{newline}

abbrev pub yes_line : Claim → List ℕ
yes_line claim = codes "yes " ++ claim_text claim ++ newline

abbrev pub no_line : ℕ → ℕ → List ℕ
no_line line reason = codes "no " ++ decimal line ++ codes " " ++ reason_name reason ++ newline

-- the line of a verdict
abbrev pub verdict_line : Verdict → List ℕ
verdict_line (Yes claim) = yes_line claim
verdict_line (No line reason) = no_line line reason

-- the line that is printed where a certificate has more bytes than are judged
abbrev pub too_long_line : List ℕ
too_long_line = codes "toolong" ++ newline
