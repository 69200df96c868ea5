use Rattle.std.proofs.Common.{[]}
use Rattle.network_tests.proofs.tests.propagation.chance.kept.follow_three.Goals as goal

pub loop-turn-init : goal.loop-turn-init
loop-turn-init c = (c.requires.kept []).made
