use Rattle.std.proofs.Common.{◌<◌, ◌+◌, arith}
use Rattle.cert_checker.proofs.node_tests.is_dead.Goals as goal

-- the floors up to the activity are there, its own with them
pub is_dead-requires-clause-floor : goal.is_dead-requires-clause-floor
is_dead-requires-clause-floor c =
    let here : c.args.a < c.args.a + 1 = omega arith in
    c.put.ensures.floors c.args.a here
