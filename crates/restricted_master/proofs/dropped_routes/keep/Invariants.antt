use Rattle.restricted_master.specs.Keeping.{fits_entry}
use Rattle.restricted_master.specs.inside.Flat.{pooled_in}
use Rattle.restricted_master.proofs.Compaction.{Compacts}
use Rattle.restricted_master.proofs.dropped_routes.keep.Given as goal

-- what stays stands at the front
abbrev pub invariant-loop-q : goal.invariant-loop-q
invariant-loop-q l =
    Compacts (λ entry. fits_entry l.book l.marks.facts (pooled_in l.activities entry))
    (record { start = 0; end = 0; aircraft = 0; hash = 0; cost = 0 }) l.initial.entries.items l.entries.items l.kept l.q
