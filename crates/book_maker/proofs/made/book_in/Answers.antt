use Rattle.std.proofs.Common.{◌≡◌, Ok}
use Rattle.book_maker.specs.Made.{activities_in, tails_in}
use Rattle.book_maker.specs.Tags.{tags_of}
use Rattle.book_maker.proofs.MadeLemmas.{book_sound, ids_differ, rules_in-found}
use Rattle.book_maker.proofs.made.book_in.Goals as goal

-- the ids differ, since no entry repeats one
pub put_in_order-requires : goal.put_in_order-requires
put_in_order-requires c =
    let tails : tails_in c.args.rules.now (tags_of c.args.tails.now c.args.activities.now) c.args.tails.now ≡ Ok c.in_ok-tails.tails.items =
    rw (c.in_ok-rules.ensures.known, c.requires.tags) at c.in_ok-tails.ensures.found in
    let activities : activities_in c.args.rules.now c.args.tails.now (tags_of c.args.tails.now c.args.activities.now) c.args.activities.now ≡ Ok c.in_ok-activities.activities.items =
    rw (c.in_ok-tails.ensures.known, c.in_ok-rules.ensures.known, c.requires.tags) at c.in_ok-activities.ensures.found in
    ids_differ c.args.activities.now c.args.tails.now c.args.rules.now c.in_ok-rules.rules c.in_ok-tails.tails.items c.in_ok-activities.activities.items tails activities

-- the book is sound
pub invariant_of-result : goal.invariant_of-result
invariant_of-result c =
    let tails : tails_in c.args.rules.now (tags_of c.args.tails.now c.args.activities.now) c.args.tails.now ≡ Ok c.in_ok-tails.tails.items =
    rw (c.in_ok-rules.ensures.known, c.requires.tags) at c.in_ok-tails.ensures.found in
    let activities : activities_in c.args.rules.now c.args.tails.now (tags_of c.args.tails.now c.args.activities.now) c.args.activities.now ≡ Ok c.in_ok-activities.activities.items =
    rw (c.in_ok-tails.ensures.known, c.in_ok-rules.ensures.known, c.requires.tags) at c.in_ok-activities.ensures.found in
    let found = rules_in-found c.args.rules.now c.in_ok-rules.rules c.in_ok-rules.ensures.sound c.in_ok-rules.ensures.found in
    rw c.in_ok-put_in_order.ensures
    (book_sound c.args.activities.now c.args.tails.now c.args.rules.now c.in_ok-rules.rules c.in_ok-tails.tails.items c.in_ok-activities.activities.items tails activities
    found.sound c.args.known.now (found.many c.args.known.now) c.in_ok-tails.ensures.sound c.in_ok-activities.ensures.sound c.requires.few_tails c.requires.few_activities)
