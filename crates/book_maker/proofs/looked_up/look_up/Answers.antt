use Rattle.std.proofs.Common.{subst, sym}
use Rattle.std.proofs.lemmas.List.{take_all}
use Rattle.std.proofs.lemmas.List.Elements.{All-more}
use Rattle.book_maker.proofs.EntryLemmas.{entry-bad, entry-end, entry-good, names-end, names-next}
use Rattle.book_maker.proofs.looked_up.look_up.Goals as goal

-- the first entry that is refused decides
pub returns-in-Err-Code-clause-found : goal.returns-in-Err-Code-clause-found
returns-in-Err-Code-clause-found g c =
    let bad = rw c.in-Err-Code.field-0-is at c.in-Err-Code.ensures.value in
    rw c.in-Err-Code.field-0-is (entry-bad _ _ _ _ _ _ _ _ c.loop-i.invariant.left c.loop-i.invariant.names c.index-entries-i.result c.loop-i-test.true c.index-entries-i.is c.in-Err-Code.code bad)

-- what an entry gives joins what is found
pub loop-i-preserved : goal.loop-i-preserved
loop-i-preserved g c =
    let items = rw c.if-is_err.ensures.negation at c.push.ensures.items in
    record {
      left = rw (items, c.in-Ok.ensures.names) (entry-good _ _ _ _ _ _ _ _ c.loop-i.invariant.left c.loop-i.invariant.names c.index-entries-i.result c.loop-i-test.true c.index-entries-i.is c.in-Ok.entry c.in-Ok.ensures.value);
      names = rw c.in-Ok.ensures.names (names-next _ _ _ _ _ _ _ _ c.loop-i.invariant.left c.loop-i.invariant.names c.index-entries-i.result c.loop-i-test.true c.index-entries-i.is);
      sound = All-more g.E.Entry.is_sound c.args.entries.now c.loop-i.i c.index-entries-i.result c.loop-i-test.true c.loop-i.invariant.sound
          (subst g.E.Entry.is_sound c.index-entries-i.is c.in-Ok.ensures.sound);
    }

-- behind the last entry all is found
pub returns-clause-found : goal.returns-clause-found
returns-clause-found g c = entry-end _ _ _ _ _ _ _ _ c.loop-i.invariant.left c.loop-i.invariant.names c.loop-i-test.false

pub returns-clause-names : goal.returns-clause-names
returns-clause-names g c = sym (names-end _ _ _ _ _ _ _ _ c.loop-i.invariant.left c.loop-i.invariant.names c.loop-i-test.false)

pub returns-clause-sound : goal.returns-clause-sound
returns-clause-sound g c = rw (take_all c.loop-i.i c.args.entries.now c.loop-i-test.false) at c.loop-i.invariant.sound
