use Rattle.std.proofs.Common.{◌≡◌, ◌≤◌, ◌++◌, length, reverse}
use Rattle.best_first.specs.inside.Links.{facts_at}
use Rattle.best_first.proofs.links.facts_to.Given as goal

-- those that are read, the last first, stand behind the others
abbrev pub invariant-back : goal.invariant-back
invariant-back l = record {
  within : l.at ≤ length l.links;
  facts : facts_at l.links l.end ≡ facts_at l.links l.at ++ reverse l.facts.items;
}

abbrev pub decreases-back : goal.decreases-back
decreases-back l = l.at
