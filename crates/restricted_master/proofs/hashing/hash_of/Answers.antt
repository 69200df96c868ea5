use Rattle.std.proofs.Common.{◌≡◌, ◌+◌, ◌∙◌, ◌∷◌, [], ℕ, List, get_or, drop, sym, ap, refl, arith}
use Rattle.std.proofs.lemmas.List.{drop_all, drop_more}
use Rattle.restricted_master.specs.inside.Hash.{hash_from, mixed}
use Rattle.restricted_master.proofs.hashing.hash_of.Goals as goal

opened : (hash a : ℕ) (rest : List ℕ) → hash_from hash (a ∷ rest) ≡ hash_from (mixed hash a) rest
unfolding hash_from
opened hash a rest = refl

closed : (hash : ℕ) → hash_from hash [] ≡ hash
unfolding hash_from
closed hash = refl

-- one number more
pub loop-q-preserved : goal.loop-q-preserved
loop-q-preserved c =
    ap (λ (h : ℕ). hash_from h (drop (c.loop-q.q + 1) c.args.route.now)) c.mixed-hash-in-loop-q.ensures
    ∙ sym (opened c.loop-q.hash (get_or c.args.route.now c.loop-q.q 0) (drop (c.loop-q.q + 1) c.args.route.now))
    ∙ sym (ap (hash_from c.loop-q.hash) (drop_more c.args.route.now c.loop-q.q 0 c.loop-q-test.true)) ∙ c.loop-q.invariant

-- nothing is left
pub returns : goal.returns
returns c =
    sym (closed c.loop-q.hash) ∙ sym (ap (hash_from c.loop-q.hash) (drop_all c.loop-q.q c.args.route.now (omega arith))) ∙ c.loop-q.invariant
