use Rattle.std.proofs.Common.{arith}
use Rattle.connection_net.proofs.AircraftSets.{low_meets, high_meets, none_meet, differs, differs_from}
use Rattle.connection_net.proofs.aircraft_set.AircraftSet.meets.Goals as goal

-- the low words share a bit
pub returns-then-self-other-ne0 : goal.returns-then-self-other-ne0
returns-then-self-other-ne0 c =
    ((λ _. low_meets c.args.self c.args.other c.args.third (omega arith) c.if-self-other-ne0.true), (λ _. differs_from _ _ c.if-self-other-ne0.true))

-- and where they don't, the high words decide
pub returns-else-self-other-ne0 : goal.returns-else-self-other-ne0
returns-else-self-other-ne0 c = (
  (λ h. high_meets c.args.self c.args.other c.args.third (omega arith) (differs _ _ h)),
  (λ met. differs_from _ _ (λ none. none_meet c.args.self c.args.other c.args.third c.if-self-other-ne0.false none met.0 met.1)),
)
