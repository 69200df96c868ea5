use Rattle.std.proofs.Common.{◌≡◌, rules}
use Rattle.plan_audit.proofs.NameLemmas.{key-new}
use Rattle.plan_audit.proofs.book_names.names_of_tails.Goals as goal

-- the name is new
pub loop-tail-preserved : goal.loop-tail-preserved
loop-tail-preserved c =
    let name : c.tail.inside.name ≡ c.tail-item.result.name = search rules in
    key-new (λ x. x.name) c.args.tails.now c.loop-tail.tail-index c.tail-item.result c.tail.inside.name c.loop-tail.set.keys c.insert_full.new.self.keys
    c.loop-tail-test.true c.tail-item.is c.requires name c.loop-tail.invariant c.in_ok-insert_full.ensures.keys
