use Rattle.std.proofs.Common.{◌<◌, ℕ, [], length, set, sym, ap, ◌∙◌, subst}
use Rattle.std.specs.Prelude.{IfSome, IfOk, Option}
use Rattle.std.proofs.lemmas.List.{get_or_default}
use Rattle.label_store.specs.Seen.{StoreSeen}
use Rattle.label_store.specs.Store.{store_of}
use Rattle.label_store.specs.Offers.{Offers}
use Rattle.label_store.proofs.OneBucket.{store_after, packed_after, offered_of}
use Rattle.label_store.proofs.store.Store.offer.Goals as goal

-- whatever the answer is, the store is one still
pub invariant_of-self : goal.invariant_of-self
invariant_of-self c =
    let buckets = c.self.inside.buckets.items in
    let place : c.args.node < length buckets = subst (λ (s : StoreSeen). c.args.node < length s.buckets) (sym c.self.view_is) c.requires.node in
    let is = c.bucket.view_is ∙ c.index_mut-bucket.ensures.value ∙ get_or_default buckets c.args.node c.index_mut-bucket.result.now [] place in
    let from : IfSome c.narrowed.result (λ j. j < length c.self.inside.rows.rows) =
    subst (λ (p : Option ℕ). IfSome p (λ j. j < length c.self.inside.rows.rows)) (sym c.narrowed.ensures)
    (subst (λ (s : StoreSeen). IfSome c.args.parent (λ j. j < length s.rows)) (sym c.self.view_is) c.requires.parent) in
    let wide = c.requires.width ∙ sym (ap (λ (s : StoreSeen). s.width) c.self.view_is) in
    record {
      sound =
          store_after c.self.inside.rows c.offer_to.new.rows buckets c.bucket.inside.0.items c.offer_to.new.bucket.items c.args.node c.narrowed.result c.args.row.now
          is c.offers_keep_stores.ensures c.offer_to.result place c.self.invariant.sound from wide
          c.offer_to.ensures.offered c.offer_to.ensures.same_rows c.offer_to.ensures.same_bucket;
      values =
          packed_after c.self.inside.rows c.offer_to.new.rows c.bucket.inside.0.items c.offer_to.new.bucket.items c.args.node c.narrowed.result c.args.row.now
          c.offer_to.result buckets c.self.inside.packed.items c.offer_to.new.values.items c.offer_to.ensures.offered c.offer_to.ensures.same_rows
          c.self.invariant.sound c.self.invariant.values place c.offer_to.ensures.packed;
    }

-- the offer to the bucket is one to the store
pub returns-clause-offered : goal.returns-clause-offered
returns-clause-offered c =
    let buckets = c.self.inside.buckets.items in
    let place : c.args.node < length buckets = subst (λ (s : StoreSeen). c.args.node < length s.buckets) (sym c.self.view_is) c.requires.node in
    let is = c.bucket.view_is ∙ c.index_mut-bucket.ensures.value ∙ get_or_default buckets c.args.node c.index_mut-bucket.result.now [] place in
    let later = store_of c.offer_to.new.rows (set buckets c.args.node c.offer_to.new.bucket.items) in
    subst (λ (s : StoreSeen). IfOk c.offer_to.result (λ offered. Offers s later c.args.node c.args.parent c.args.row.now offered)) c.self.view_is
    (subst (λ (p : Option ℕ). IfOk c.offer_to.result (λ offered. Offers (store_of c.self.inside.rows buckets) later c.args.node p c.args.row.now offered)) c.narrowed.ensures
    (offered_of c.self.inside.rows c.offer_to.new.rows buckets c.bucket.inside.0.items c.offer_to.new.bucket.items c.args.node c.narrowed.result c.args.row.now
    is c.offer_to.result c.offer_to.ensures.offered))
