use Rattle.std.proofs.Common.{◌≡◌, ◌≤◌, ◌%◌, ◌∙◌, ℕ, List, arith, ap, subst, length}
use Rattle.branch_marks.specs.Pool.{Pooled}
use Rattle.restricted_master.specs.Lists.{list_at}
use Rattle.restricted_master.specs.Seen.{PoolSeen}
use Rattle.restricted_master.specs.declared.index.TheConstants.{LISTS}
use Rattle.restricted_master.specs.inside.Hash.{hash_of}
use Rattle.restricted_master.specs.inside.Index.{IsIndexed}
use Rattle.restricted_master.proofs.Indexing.{not_listed, not_there}
use Rattle.restricted_master.proofs.pool.Pool.find.Goals as goal

-- the route is none of those that are listed
pub loop-i-init : goal.loop-i-init
loop-i-init c =
    let pair : Pooled = record { aircraft = c.args.k; route = c.args.route.now } in
    let lists = c.self.inside.lists.items in
    let same : c.list_at-numbers.result.now ≡ list_at lists (hash_of c.args.k c.args.route.now % LISTS) =
    c.list_at-numbers.ensures ∙ ap (λ (xs : List (List ℕ)). list_at xs (c.hash_of-hash.result % LISTS)) c.deref.ensures.value
    ∙ ap (λ (h : ℕ). list_at lists (h % LISTS)) c.hash_of-hash.ensures in
    let all : length c.list_at-numbers.result.now ≤ c.loop-q.q = omega (arith, c.loop-q-test.false) in
    not_listed c.args.self.now lists c.self.inside.listed pair c.list_at-numbers.result.now c.loop-q.q
    (subst (λ (s : PoolSeen). IsIndexed s lists c.self.inside.listed) c.self.view_is c.self.invariant.1) same all c.loop-q.invariant

-- nor one of the others
pub returns : goal.returns
returns c =
    not_there c.args.self.now (record { aircraft = c.args.k; route = c.args.route.now }) c.loop-i.i
    (omega (arith, c.loop-i-test.false, c.loop-i.auto, c.count-i-end.ensures)) c.loop-i.invariant
