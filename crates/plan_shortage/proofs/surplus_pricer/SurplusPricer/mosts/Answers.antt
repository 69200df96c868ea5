use Rattle.std.proofs.Common.{rules, ◌≡◌, ◌∙◌, ◌++◌, ℤ, [], ◌∷◌, length, arith, ap, refl, subst, w64, to_z, of_z}
use Rattle.tail_book.specs.Seen.{BookSeen}
use Rattle.tail_book.specs.Lookup.{aircraft}
use Rattle.plan_shortage.proofs.MoreMosts.{one_longer, one_more}
use Rattle.plan_shortage.proofs.surplus_pricer.SurplusPricer.mosts.Goals as goal

-- the most of aircraft k comes behind those before it
pub loop-k-preserved : goal.loop-k-preserved
loop-k-preserved c =
    let inv = c.loop-k.invariant in
    let most = c.in_ok-most.most in
    let mosts = c.loop-k.mosts.items in
    let fits : to_z w64 (of_z w64 most) ≡ most = search rules in
    let pushed : c.push.new.self.items ≡ mosts ++ most ∷ [] = c.in_ok-push.ensures.items ∙ ap (λ (z : ℤ). mosts ++ z ∷ []) fits in
    record {
      count = one_longer mosts c.push.new.self.items c.loop-k.k most inv.count pushed;
      each = one_more c.args.book.now c.args.asked.now c.args.brought.now mosts c.push.new.self.items c.loop-k.k most inv.count pushed inv.each c.in_ok-most.ensures.most;
      kept = c.in_ok-most.ensures.kept;
    }

-- all aircraft have theirs
pub returns-clause-mosts : goal.returns-clause-mosts
returns-clause-mosts c =
    let inv = c.loop-k.invariant in
    let tails : length c.book.inside.tails.items ≡ aircraft c.args.book.now =
    subst (λ (b : BookSeen). length c.book.inside.tails.items ≡ aircraft b) c.book.view_is refl in
    let all : c.loop-k.k ≡ aircraft c.args.book.now = omega (arith, tails) in
    record { one_each = omega (arith, inv.count, all); each = λ j less. inv.each j (omega (arith, less, all)) }
