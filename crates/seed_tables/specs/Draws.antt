-- Numbers that look like chance: a linear congruential generator of 64 bits.
use Rattle.std.specs.Prelude.{ℕ, zero, suc, ◌+◌, ◌*◌, ◌/◌, ◌%◌, ◌^◌}

-- the state behind a state: Knuth's multiplier, modulo 2 ^ 64
unfoldable pub next : ℕ → ℕ
next x = (x * 6_364_136_223_846_793_005 + 1_442_695_040_888_963_407) % 2 ^ 64

-- the number below q that a state gives, from its upper bits, since the low ones repeat soon
unfoldable pub drawn : ℕ → ℕ → ℕ
drawn x q = (x / 2 ^ 33) % q

-- the state so many draws later
unfoldable pub after : ℕ → ℕ → ℕ
after zero x = x
after (suc more) x = after more (next x)
