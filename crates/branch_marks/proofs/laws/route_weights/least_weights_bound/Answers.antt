use Rattle.branch_marks.proofs.laws.route_weights.least_weights_bound.Goals as goal

pub returns : goal.returns
returns c table book sound marks duals values same least =
    c.low_weights_bound.ensures table book sound marks duals values same (record { one_each = least.one_each; each = λ k hk. (least.each k hk).least })
