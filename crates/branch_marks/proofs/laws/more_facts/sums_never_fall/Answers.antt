use Rattle.branch_marks.proofs.laws.more_facts.sums_never_fall.Goals as goal

-- least weights are low, so the law of bounds tells it of the weights behind the two sums
pub returns : goal.returns
returns c table book fewer more among duals old new before after =
    let (here, are_least, is_old) = before in
    let (there, are_new, is_new) = after in
    rw (is_old, is_new) (c.bounds_never_fall.ensures table book fewer more among duals here there
    (record { one_each = are_least.one_each; each = λ k hk. (are_least.each k hk).least }) are_new)
