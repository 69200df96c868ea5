use Rattle.std.proofs.Common.{◌≡◌, to_z, of_z, w64, true, rules, sym}
use Rattle.std.proofs.lemmas.Int.{to_z-of_z}
use Rattle.timetable_reader.specs.Timetable.{is_span}
use Rattle.timetable_reader.proofs.ActivityLemmas.{is_span-least, is_span-most}
use Rattle.timetable_reader.proofs.timetable.end_of.Goals as goal

-- the test has passed
pub returns-clause-least : goal.returns-clause-least
returns-clause-least c =
    let same : to_z w64 (of_z w64 c.in_ok-end.end) ≡ c.in_ok-end.end = to_z-of_z w64 c.in_ok-end.end (search rules) in
    let begins : to_z w64 (of_z w64 c.args.start) ≡ c.args.start = to_z-of_z w64 c.args.start c.ranges.start in
    let passed : is_span c.args.start c.in_ok-end.end ≡ true = sym (rw (begins, same) at c.if-not-is_span.ensures) in
    rw same (is_span-least c.args.start c.in_ok-end.end passed)

pub returns-clause-most : goal.returns-clause-most
returns-clause-most c =
    let same : to_z w64 (of_z w64 c.in_ok-end.end) ≡ c.in_ok-end.end = to_z-of_z w64 c.in_ok-end.end (search rules) in
    let begins : to_z w64 (of_z w64 c.args.start) ≡ c.args.start = to_z-of_z w64 c.args.start c.ranges.start in
    let passed : is_span c.args.start c.in_ok-end.end ≡ true = sym (rw (begins, same) at c.if-not-is_span.ensures) in
    rw same (is_span-most c.args.start c.in_ok-end.end passed)
