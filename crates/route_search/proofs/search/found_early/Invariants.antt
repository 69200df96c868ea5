use Rattle.std.proofs.Common.{◌≡◌, length}
use Rattle.label_store.specs.inside.Growth.{IsAsWide}
use Rattle.route_search.proofs.search.found_early.Given as goal

-- there is room as before
abbrev pub invariant-loop-look : goal.invariant-loop-look
invariant-loop-look l = record {
  wide : IsAsWide l.fn.store l.store;
  row : length l.row ≡ length l.fn.row;
}
