use Rattle.std.proofs.Common.{◌≡◌, ◌∙◌, ℕ, List, [], subst, slice_index_or}
use Rattle.std.proofs.lemmas.List.{get_or_read}
use Rattle.dive_heuristic.specs.inside.Flown.{TalliesRoute}
use Rattle.dive_heuristic.proofs.Tallies.{tally_more}
use Rattle.dive_heuristic.proofs.tally.note_routes.Goals as goal

pub loop-k-preserved : goal.loop-k-preserved
loop-k-preserved c =
    let same : c.deref.result.now ≡ slice_index_or c.args.routes.now c.loop-k.k [] =
    c.deref.ensures.value ∙ c.route.view_is ∙ get_or_read c.args.routes.now c.loop-k.k c.index-routes-k.result c.loop-k-test.true c.index-routes-k.is [] in
    record {
      count = c.note_route.ensures.count ∙ c.loop-k.invariant.count;
      times = tally_more c.times_with_one_more_route.ensures c.loop-k.tally c.note_route.new.tally c.args.routes.now c.loop-k.k c.loop-k-test.true
          (subst (λ (route : List ℕ). TalliesRoute c.loop-k.tally c.note_route.new.tally route) same c.note_route.ensures) c.loop-k.invariant.times;
    }
