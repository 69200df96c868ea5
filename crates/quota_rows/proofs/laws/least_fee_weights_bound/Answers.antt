use Rattle.quota_rows.proofs.laws.least_fee_weights_bound.Goals as goal

pub returns : goal.returns
returns c table book sound quotas marks duals fees values same least low =
    c.low_fee_weights_bound.ensures table book sound quotas marks duals fees values same least
    (record { one_each = low.one_each; each = λ k hk. (low.each k hk).least })
