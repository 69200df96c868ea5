use Rattle.std.proofs.Common.{false, refl}
use Rattle.std.proofs.lemmas.Bool.{both_ways}
use Rattle.connection_net.proofs.Links.{none_turns, flown_from_meeting, meeting_from_flown}
use Rattle.connection_net.proofs.link_table.is_flown_on.Goals as goal

-- where no turn is in time
pub returns-in-None : goal.returns-in-None
returns-in-None c =
    ((λ h. absurd (both_ways false refl h)), (λ flown. absurd (none_turns c.args.book.now c.args.before.now c.args.after.now c.every_book_is_sound.ensures c.in-None.ensures flown)))

-- an aircraft of all three sets is one that may fly both and turns in time
pub returns-in-Some : goal.returns-in-Some
returns-in-Some c =
    let sound = c.every_book_is_sound.ensures in (
      (λ h. let met = c.meets.ensures.0 h in flown_from_meeting c.args.book.now c.args.before.now c.args.after.now c.in-Some.stop c.turned_at.result sound c.in-Some.ensures c.turned_at.ensures met.0 met.1),
      (λ flown. c.meets.ensures.1 (meeting_from_flown c.args.book.now c.args.before.now c.args.after.now c.in-Some.stop c.turned_at.result sound c.in-Some.ensures c.turned_at.ensures flown)),
    )
