use Rattle.std.proofs.Common.{◌≡◌, ◌∙◌, ℕ, List, [], rules, sym, subst}
use Rattle.std.proofs.lemmas.List.{length-replicate}
use Rattle.tail_book.specs.Lookup.{activities}
use Rattle.label_store.specs.Seen.{StoreSeen}
use Rattle.dive_heuristic.specs.Divers.{IsStoreOf}
use Rattle.dive_heuristic.proofs.diver.room_for.Goals as goal

-- it has a bucket for each activity
pub returns : goal.returns
returns c =
    let empty : List ℕ = [] in
    let count : c.len-n.result ≡ activities c.args.book.now = search rules in
    subst (λ (store : StoreSeen). IsStoreOf c.args.book.now store) (sym c.in_ok-store.ensures)
    (record { nodes = length-replicate c.len-n.result empty ∙ count; width = search rules })
