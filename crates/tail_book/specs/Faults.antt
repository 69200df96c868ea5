-- When a count of faults has risen. For tail_outside/src/mem_files.rt, tail_outside/src/mem_sink.rt and others.
use Rattle.std.specs.Prelude.{ℕ, ◌≡◌, ◌⊎◌, ◌^◌, ◌-◌, ◌<◌}

-- a count rose; one that stands at the greatest number of its type counts as risen
abbrev pub HasRisen : ℕ → ℕ → Type 0
HasRisen old new = (old < new) ⊎ (new ≡ 2 ^ 64 - 1)
