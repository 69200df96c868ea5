use Rattle.std.proofs.Common.{◌≡◌, ◌++◌, append_assoc}
use Rattle.std.proofs.lemmas.Result.{on_ok_weaker}
use Rattle.plan_picture.specs.Bars.{moved_class}
use Rattle.plan_picture.proofs.bars.add_class.Goals as goal

-- what is appended is its pieces
pub returns : goal.returns
returns c = on_ok_weaker c.add_moved_class.result
    (λ (last : c.add_moved_class.new.line ≡ c.add_red_class.new.line ++ moved_class c.args.before). rw (last, c.in_ok-add_red_class.ensures, c.in_ok-add_kind_class.ensures)
    (simp append_assoc)) c.add_moved_class.ensures
