use Rattle.std.proofs.Common.{◌∙◌, [], List, ℕ, ap, ap₂, length, rules}
use Rattle.std.proofs.lemmas.List.{length-replicate}
use Rattle.restricted_master.specs.declared.entry.Entry.{Entry}
use Rattle.restricted_master.specs.declared.index.TheConstants.{LISTS}
use Rattle.restricted_master.specs.inside.Flat.{IsFlat, pool_of}
use Rattle.restricted_master.proofs.Indexing.{none_indexed}
use Rattle.restricted_master.proofs.pool.Pool.new.Goals as goal

-- no route is in a list yet
pub invariant_of-result : goal.invariant_of-result
invariant_of-result c =
    let flat : IsFlat c.new-activities.result.items c.new-entries.result.items = search rules in
    let nothing : List ℕ = [] in
    (flat, none_indexed _ c.in_ok-lists.lists.items (ap (λ (ls : List (List ℕ)). length ls) c.in_ok-lists.ensures ∙ length-replicate LISTS nothing))

pub returns : goal.returns
returns c = ap₂ (λ (xs : List ℕ) (es : List Entry). pool_of xs es) c.new-activities.ensures.items c.new-entries.ensures.items
