use Rattle.std.proofs.Common.{◌≡◌, rules, to_z, of_z, w64}
use Rattle.std.proofs.lemmas.Int.{to_z-of_z}
use Rattle.timetable_reader.proofs.ActivityLemmas.{is_whole-ground, is_whole-in_flight}
use Rattle.timetable_reader.proofs.timetable.activity_of.Goals as goal

-- each part is good by its own reader, and the record as a whole
pub invariant_of-result : goal.invariant_of-result
invariant_of-result c =
    let leg = c.in_ok-leg.leg in
    let marks = c.in-Ok.marks in
    let good = c.in_ok-leg.ensures.sound in
    let listed = c.in-Ok.ensures.sound in
    let whole = c.in-Ok.ensures.read.resets.whole in
    let s : to_z w64 (of_z w64 leg.start) ≡ leg.start = to_z-of_z w64 leg.start (search rules) in
    let e : to_z w64 (of_z w64 leg.end) ≡ leg.end = to_z-of_z w64 leg.end (search rules) in
    rw (s, e) (record {
      id = good.id;
      from = good.from;
      to = good.to;
      start = good.start;
      end = good.end;
      least = good.least;
      most = good.most;
      types = c.in_ok-types.ensures.grammar;
      tags = listed.tags;
      tail = listed.tail;
      resets = listed.resets;
      ground = is_whole-ground leg.flight leg.from leg.to marks.resets.items whole;
      in_flight = is_whole-in_flight leg.flight leg.from leg.to marks.resets.items whole;
    })
