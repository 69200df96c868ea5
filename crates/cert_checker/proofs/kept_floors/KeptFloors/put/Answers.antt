use Rattle.std.proofs.Common.{◌≤◌, arith}
use Rattle.cert_checker.proofs.KeptFloors.{floors_kept}
use Rattle.cert_checker.proofs.kept_floors.KeptFloors.put.Goals as goal

pub returns-then-n-self-clause-kept : goal.returns-then-n-self-clause-kept
returns-then-n-self-clause-kept c = c.take_up.ensures.floors c.args.book.now c.args.marks.now.facts c.requires.kept

pub returns-then-n-self-clause-floors : goal.returns-then-n-self-clause-floors
returns-then-n-self-clause-floors c =
    let is = c.take_up.ensures.floors c.args.book.now c.args.marks.now.facts c.requires.kept in
    let made : c.args.n ≤ c.take_up.new.self.right = omega arith in
    floors_kept c.args.book.now c.args.marks.now.facts c.take_up.new.self c.args.k c.args.n is c.take_up.ensures.aircraft made

pub put_from-requires-clause-row : goal.put_from-requires-clause-row
put_from-requires-clause-row c = (c.take_up.ensures.floors c.args.book.now c.args.marks.now.facts c.requires.kept).row

pub put_from-requires-clause-before : goal.put_from-requires-clause-before
put_from-requires-clause-before c =
    let floors = c.take_up.new.self in
    let is = c.take_up.ensures.floors c.args.book.now c.args.marks.now.facts c.requires.kept in
    let all : floors.right ≤ floors.right = omega arith in
    floors_kept c.args.book.now c.args.marks.now.facts floors c.args.k floors.right is c.take_up.ensures.aircraft all
