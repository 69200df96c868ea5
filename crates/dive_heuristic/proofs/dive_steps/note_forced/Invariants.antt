use Rattle.std.proofs.Common.{◌≡◌, ◌++◌, map, take}
use Rattle.dive_heuristic.specs.declared.answer.DiveStep.TheVariants.{Forced}
use Rattle.dive_heuristic.proofs.dive_steps.note_forced.Given as goal

-- the first facts are noted
abbrev pub invariant-loop-fact : goal.invariant-loop-fact
invariant-loop-fact l = l.steps.items ≡ l.initial.steps.items ++ map Forced (take l.fact-index l.facts)
