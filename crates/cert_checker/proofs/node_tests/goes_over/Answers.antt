use Rattle.std.proofs.Common.{◌<◌, ◌+◌, arith}
use Rattle.cert_checker.proofs.node_tests.goes_over.Goals as goal

-- the floors up to the activity are there, its own with them
pub may_go_over-requires-clause-floor : goal.may_go_over-requires-clause-floor
may_go_over-requires-clause-floor c =
    let here : c.args.a < c.args.a + 1 = omega arith in
    c.put.ensures.floors c.args.a here
