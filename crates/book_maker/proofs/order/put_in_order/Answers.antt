use Rattle.std.proofs.Common.{rules}
use Rattle.std.proofs.lemmas.List.Sorted.{answers_always}
use Rattle.book_maker.proofs.OrderLemmas.{in_order-from_sort}
use Rattle.book_maker.proofs.order.put_in_order.Goals as goal

-- each call of the closure gives start and id
pub returns : goal.returns
returns c =
    in_order-from_sort _ _ c.requires c.in_ok-sort_by_key.ensures.permutation
    (c.in_ok-sort_by_key.ensures.sorted (λ a. (a.start, a.id)) (answers_always _ _ _ (λ f a r f' k. search rules)))
