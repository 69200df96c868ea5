use Rattle.std.proofs.Common.{◌≡◌, ◌<◌, ◌++◌, ◌∷◌, [], get_or, length, pos, rules}
use Rattle.plan_picture.specs.Shares.{followed}
use Rattle.plan_picture.proofs.Followed.{countable-more, followed-more}
use Rattle.plan_picture.proofs.shares.all_followed.Goals as goal

-- one value further on
pub loop-value-preserved : goal.loop-value-preserved
loop-value-preserved c =
    let within : c.loop-value.value-index < length c.args.values.now = search rules in
    let value : c.followed.result ≡ followed (get_or c.args.values.now c.loop-value.value-index (pos 0)) = search rules in
    let pushed : c.push.new.self.items ≡ c.loop-value.all.items ++ c.followed.result ∷ [] = search rules in
    record {
      values = rw (pushed, value) (followed-more c.args.values.now c.loop-value.all.items c.loop-value.value-index within c.loop-value.invariant.values);
      range = rw pushed (countable-more c.loop-value.all.items c.followed.result c.loop-value.invariant.range c.followed.ensures.range);
    }
