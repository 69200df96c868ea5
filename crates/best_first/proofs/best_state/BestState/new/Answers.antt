use Rattle.std.proofs.Common.{◌≡◌, [], List, rules, sym, subst}
use Rattle.best_first.specs.declared.links.Link.{Link}
use Rattle.best_first.specs.declared.slots.Slot.{Slot}
use Rattle.best_first.specs.inside.Slots.{AreSlots}
use Rattle.best_first.proofs.SlotPlaces.{root_slots}
use Rattle.best_first.proofs.best_state.BestState.new.Goals as goal

-- each part is right for the book as it is made
pub returns-clause-state : goal.returns-clause-state
returns-clause-state c = record {
  net = search rules;
  marks = search rules;
  routes = c.in_ok-routes.ensures c.args.table.now c.args.book.now;
  best = search rules;
  prices = search rules;
  diver = ([], c.in_ok-tools.ensures.diver []);
}

pub returns-clause-slots : goal.returns-clause-slots
returns-clause-slots c =
    let table = c.args.table.now in let book = c.args.book.now in let target = c.none-best.result.target in
    let links : c.new-links.result.items ≡ [] = search rules in
    subst (λ (l : List Link). AreSlots table book l c.in_ok-slots.slots.items 0 target) (sym links)
    (subst (λ (s : List Slot). AreSlots table book [] s 0 target) (sym c.in_ok-slots.ensures) (root_slots c.zeros_are_duals.ensures table book target))
