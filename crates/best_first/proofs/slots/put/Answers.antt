use Rattle.std.proofs.Common.{◌≡◌, List, ◌∷◌, ◌++◌, sym, subst, slice_set}
use Rattle.best_first.specs.declared.slots.Slot.{Slot}
use Rattle.best_first.proofs.SlotEdits.{set_between}
use Rattle.best_first.proofs.slots.put.Goals as goal

pub returns : goal.returns
returns c = λ before old behind is long.
    subst (λ (xs : List Slot). slice_set xs c.args.p c.args.slot ≡ before ++ c.args.slot ∷ behind) (sym is)
    (set_between before old behind c.args.p c.args.slot long)
