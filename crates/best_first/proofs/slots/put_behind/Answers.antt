use Rattle.std.proofs.Common.{◌≡◌, ◌∙◌, ◌+◌, List, ◌∷◌, refl, rules, ap}
use Rattle.std.specs.List.{insert}
use Rattle.best_first.specs.declared.slots.Slot.{Slot}
use Rattle.best_first.proofs.SlotEdits.{insert_behind}
use Rattle.best_first.proofs.slots.put_behind.Goals as goal

-- the second, and then the first before it
pub returns : goal.returns
returns c = λ before here behind is long.
    let p = c.args.p in
    let one : c.insert.new.self.items ≡ insert c.args.slots.now.items (p + 1) c.args.second = search rules in
    let two : c.insert-2.new.self.items ≡ insert c.insert.new.self.items (p + 1) c.args.first = search rules in
    two
    ∙ ap (λ (xs : List Slot). insert xs (p + 1) c.args.first)
    (one ∙ ap (λ (xs : List Slot). insert xs (p + 1) c.args.second) is ∙ insert_behind before here behind p (p + 1) c.args.second long refl)
    ∙ insert_behind before here (c.args.second ∷ behind) p (p + 1) c.args.first long refl
