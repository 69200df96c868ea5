use Rattle.std.proofs.Common.{◌≡◌, drop}
use Rattle.restricted_master.specs.inside.Hash.{hash_from, hash_of}
use Rattle.restricted_master.proofs.hashing.hash_of.Given as goal

-- what is left is missing
abbrev pub invariant-loop-q : goal.invariant-loop-q
invariant-loop-q l = hash_from l.hash (drop l.q l.route) ≡ hash_of l.k l.route
