use Rattle.cert_checker.proofs.laws.yes_is_true.Goals as goal

pub returns : goal.returns
returns c book sound text claim told = c.accepted_claims_are_true.ensures book sound text claim (c.yes_is_accepted.ensures book text claim told)
