use Rattle.std.proofs.Common.{◌≡◌, vec_capacity}
use Rattle.label_store.specs.Buckets.{stays_beside}
use Rattle.label_store.specs.inside.Packing.{IsPacked}
use Rattle.label_store.proofs.Compaction.{Compacts}
use Rattle.label_store.proofs.bucket.drop_covered.Given as goal

-- what stays stands at the front, in the room that there was, and each number has the values of its row beside it
abbrev pub invariant-loop-q : goal.invariant-loop-q
invariant-loop-q l = record {
  moved : Compacts (stays_beside l.rows.rows l.row) l.initial.bucket.items l.bucket.items l.kept l.q;
  packed : IsPacked l.rows.width l.rows.rows l.bucket.items l.values.items;
  room : vec_capacity l.bucket ≡ vec_capacity l.initial.bucket;
  room_of_values : vec_capacity l.values ≡ vec_capacity l.initial.values;
}
