use Rattle.std.proofs.Common.{◌≡◌, ◌+◌, [], All, drop, take}
use Rattle.tail_text.specs.inside.Joined.{joined}
use Rattle.book_maker.specs.LookedUp.{looked_up_from, looked_up_in}
use Rattle.book_maker.specs.inside.LookedUp.{names_after}
use Rattle.book_maker.proofs.looked_up.look_up.Given as goal

-- what is found so far stands before what the entries give that are left, behind names that are those so far
abbrev pub invariant-loop-i : goal.invariant-loop-i
invariant-loop-i g l = record {
  left : looked_up_in l.table l.first g.E.Entry.own_name (g.E.Entry.uses l.known) l.entries
      ≡ joined l.found.items (looked_up_from l.table g.E.Entry.own_name (g.E.Entry.uses l.known) (l.first + l.i) l.names.keys (drop l.i l.entries));
  names : names_after g.E.Entry.own_name [] l.entries ≡ names_after g.E.Entry.own_name l.names.keys (drop l.i l.entries);
  sound : All g.E.Entry.is_sound (take l.i l.entries);
}
