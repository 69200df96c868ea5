-- The hash of a route and its aircraft: equal routes of one aircraft have the same, and few others do.
-- For src/hashing.rt, src/index.rt and others.
use Rattle.std.specs.Prelude.{ℕ, ◌+◌, ◌*◌, ◌%◌, ◌^◌, List, [], ◌∷◌}
use Rattle.restricted_master.specs.declared.hashing.TheConstants.{FACTOR}

-- a hash with one number more
unfoldable pub mixed : ℕ → ℕ → ℕ
mixed hash number = (hash * FACTOR + number + 1) % 2 ^ 32

-- a hash with the numbers of a route, and the hash of an aircraft's route
unfoldable pub hash_from : ℕ → List ℕ → ℕ
hash_from hash [] = hash
hash_from hash (a ∷ rest) = hash_from (mixed hash a) rest

abbrev pub hash_of : ℕ → List ℕ → ℕ
hash_of k route = hash_from (mixed 0 k) route
