use Rattle.std.proofs.Common.{◌≡◌, ◌∙◌, ◌<◌, ◌^◌, ◌++◌, ◌∷◌, [], ℕ, List, length, sym, ap, subst, refl, rules}
use Rattle.std.proofs.lemmas.List.{length-append, length-map}
use Rattle.std.specs.Prelude.{Contains}
use Rattle.restricted_master.specs.Seen.{PoolSeen}
use Rattle.restricted_master.specs.declared.entry.Entry.{Entry}
use Rattle.restricted_master.specs.inside.Flat.{pool_of, pooled_in}
use Rattle.restricted_master.specs.inside.Index.{IsIndexed}
use Rattle.restricted_master.proofs.FlatPool.{put_flat, put_seen}
use Rattle.restricted_master.proofs.Indexing.{put_indexed}
use Rattle.restricted_master.proofs.pool.Pool.put.Goals as goal

-- the activities of the route, and its entry, are added
pub invariant_of-self-2 : goal.invariant_of-self-2
invariant_of-self-2 c =
    let all = c.put_all.ensures ∙ ap (λ (xs : List ℕ). xs ++ c.args.route.now) c.in_ok-reserve.ensures.items in
    let more = c.put.ensures ∙ ap (λ (es : List Entry). es ++ record { start = c.len-start.result; end = c.len.result; aircraft = c.args.k; hash = c.hash_of.result; cost = c.args.cost } ∷ []) c.in_ok-reserve-2.ensures.items in
    let start : c.len-start.result ≡ length c.self.inside.activities.items = search rules in
    let read : c.len.result ≡ length c.put_all.new.activities.items = search rules in
    let end = read ∙ ap length all ∙ length-append c.self.inside.activities.items c.args.route.now in
    let seen : PoolSeen = pool_of c.self.inside.activities.items c.self.inside.entries.items in
    let one_more = put_seen c.self.inside.activities.items c.args.route.now c.put_all.new.activities.items c.self.inside.entries.items c.put.new.entries.items
    c.len-start.result c.len.result c.args.k c.hash_of.result c.args.cost c.self.invariant.0 all start end c.hash_of.ensures more seen refl in (
      put_flat c.self.inside.activities.items c.args.route.now c.put_all.new.activities.items c.self.inside.entries.items c.put.new.entries.items
          c.len-start.result c.len.result c.args.k c.hash_of.result c.args.cost c.self.invariant.0 all start end c.hash_of.ensures more
          (subst (λ (n : ℕ). n < 2 ^ 32) (sym (ap (λ (s : PoolSeen). length s.entries) c.self.view_is) ∙ length-map c.self.inside.entries.items (pooled_in c.self.inside.activities.items)) c.requires.few)
          (subst (λ (s : PoolSeen). ¬ Contains s.entries (record { aircraft = c.args.k; route = c.args.route.now })) (sym c.self.view_is) c.requires.new),
      subst (λ (s : PoolSeen). IsIndexed s c.self.inside.lists.items c.self.inside.listed) (sym one_more)
          (put_indexed seen.entries seen.costs (seen.costs ++ c.args.cost ∷ []) (record { aircraft = c.args.k; route = c.args.route.now }) c.self.inside.lists.items c.self.inside.listed c.self.invariant.1),
    )

pub returns-clause-put : goal.returns-clause-put
returns-clause-put c =
    let all = c.put_all.ensures ∙ ap (λ (xs : List ℕ). xs ++ c.args.route.now) c.in_ok-reserve.ensures.items in
    let more = c.put.ensures ∙ ap (λ (es : List Entry). es ++ record { start = c.len-start.result; end = c.len.result; aircraft = c.args.k; hash = c.hash_of.result; cost = c.args.cost } ∷ []) c.in_ok-reserve-2.ensures.items in
    let start : c.len-start.result ≡ length c.self.inside.activities.items = search rules in
    let read : c.len.result ≡ length c.put_all.new.activities.items = search rules in
    let end = read ∙ ap length all ∙ length-append c.self.inside.activities.items c.args.route.now in
    put_seen c.self.inside.activities.items c.args.route.now c.put_all.new.activities.items c.self.inside.entries.items c.put.new.entries.items
    c.len-start.result c.len.result c.args.k c.hash_of.result c.args.cost c.self.invariant.0 all start end c.hash_of.ensures more c.args.self.now c.self.view_is
