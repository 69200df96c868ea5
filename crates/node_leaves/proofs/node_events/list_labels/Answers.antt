use Rattle.std.proofs.Common.{[], ◌<◌, length, arith}
use Rattle.pricing.specs.Rows.{label_of}
use Rattle.node_leaves.proofs.Lists.{lists_then, bucket_more}
use Rattle.node_leaves.proofs.node_events.list_labels.Goals as goal

-- the labels of the next bucket come behind those before it
pub loop-a-preserved : goal.loop-a-preserved
loop-a-preserved c =
    let buckets = c.args.store.now.buckets in
    let less : c.loop-a.a < length buckets = omega (arith, c.requires.nodes, c.loop-a-test.true) in
    lists_then c.args.events.now.items c.loop-a.events.items c.list_bucket.new.events.items _ _ _ (bucket_more (label_of c.args.store.now) buckets c.loop-a.a [] less)
    c.loop-a.invariant c.in_ok-list_bucket.ensures
