-- A node more in the list of slots. Its place was the first open one; its own slot takes that place's, with a slot for each branch behind it.
-- A branch's facts are those of the node and one that is new, since its pair was undecided, and more facts let no bound fall: so all that
-- is known of an open place holds of it. Less can grow from two branches than from their parent's place.
use Rattle.std.proofs.Common.{◌≡◌, ◌∙◌, ◌≤◌, ◌<◌, ◌+◌, ℕ, ℤ, zero, suc, pos, true, false, List, [], ◌∷◌, ◌++◌, length, map, take, drop, Option, Some, None, refl, sym, ap, subst, arith, append_assoc, append-nil}
use Rattle.std.specs.Prelude.{All}
use Rattle.std.proofs.lemmas.List.{map-append, length-take-le}
use Rattle.std.proofs.lemmas.List.Elements.{All-nil, All-cons, All-head, All-push, All-map, All-from_get_or}
use Rattle.tail_book.specs.Seen.{BookSeen}
use Rattle.tail_book.specs.TableSeen.{CostTableSeen, DualsSeen}
use Rattle.branch_marks.specs.declared.fact.Fact.{Fact}
use Rattle.branch_marks.specs.declared.fact.Pair.{Pair}
use Rattle.branch_marks.specs.Bound.{bound_of}
use Rattle.branch_marks.specs.Branches.{first_branch, second_branch, IsUndecided, UndecidedPairsAreOfBook}
use Rattle.branch_marks.specs.Facts.{IsFactOf}
use Rattle.branch_marks.specs.FactTests.{has_fact}
use Rattle.branch_marks.specs.Following.{FollowInTurn, IsShut, FollowingFactsAreNew, FollowingFactsAreOfBook}
use Rattle.branch_marks.specs.Settled.{AreDuals}
use Rattle.branch_marks.specs.inside.BranchTests.{undecided, UndecidedDecides, FactsLeaveNoMore, BranchesLeaveFewer}
use Rattle.branch_marks.specs.inside.FactTests.{HasFactDecides}
use Rattle.branch_marks.specs.inside.MoreFacts.{AmongMore, SumsNeverFall}
use Rattle.branch_marks.specs.inside.Once.{AreOnce}
use Rattle.dive_heuristic.specs.declared.answer.Dive.{Dive}
use Rattle.node_leaves.specs.Place.{Open, open_place}
use Rattle.node_leaves.specs.Node as tree
use Rattle.open_branches.proofs.BranchLists.{new_branches}
use Rattle.branch_tree.specs.Step.{IsLagrangianBound}
use Rattle.branch_tree.specs.inside.SearchParts.{tripled, room}
use Rattle.branch_tree.proofs.Room.{lighter}
use Rattle.best_first.specs.declared.rank.Rank.{Rank}
use Rattle.best_first.specs.declared.links.Link.{Link}
use Rattle.best_first.specs.declared.slots.KeptEnd.{KeptEnd}
use Rattle.best_first.specs.declared.slots.KeptEnd.TheVariants.{Hole, Stuck, Bounded, Split}
use Rattle.best_first.specs.declared.slots.Kept.{Kept}
use Rattle.best_first.specs.declared.slots.Slot.{Slot}
use Rattle.best_first.specs.inside.Links.{AreLinks, facts_at, IsLinked}
use Rattle.best_first.specs.Rank.{IsBefore}
use Rattle.best_first.specs.Order.{Standing}
use Rattle.best_first.specs.BestTree.{Owed, owed_root, Laid}
use Rattle.best_first.specs.inside.Slots.{IsFair, IsKeptEnd, opened_from, IsHeld, IsPast, IsSlotAt, kept_count, slot_standing, AreCountedSo, AreSlots, slot_room, room_of, slot_at}
use Rattle.best_first.specs.inside.BestParts.{IsNext, IsShutAt, IsOneMore}
use Rattle.best_first.specs.inside.Visits.{OpensBranches}
use Rattle.best_first.proofs.FactChains.{still_facts, still_within}
use Rattle.best_first.proofs.Layers.{laid_cons, laid_cut, laid_each, laid_first, laid_none, laid_replaced, laid_weaker, Each}
use Rattle.best_first.proofs.Orders.{all_right, one_more, opened_places}
use Rattle.best_first.proofs.PlaceFacts.{once_more, once_steps, of_book_steps}
use Rattle.best_first.proofs.SlotEdits.{cut_at, rest_is}

tripled_some : (n : ℕ) → 0 < tripled n
tripled_some zero = omega arith
tripled_some (suc n) = let more = tripled_some n in omega (arith, more)

room_then : (book : BookSeen) (links : List Link) (one other : List Slot) → room_of book links (one ++ other) ≡ room_of book links one + room_of book links other
unfolding room_of
room_then book links [] other = omega arith
room_then book links (slot ∷ one) other = let rest = room_then book links one other in omega (arith, rest)

room_cons : (book : BookSeen) (links : List Link) (slot : Slot) (slots : List Slot)
    → room_of book links (slot ∷ slots) ≡ slot_room book links slot.end slot.kept + room_of book links slots
unfolding room_of
room_cons book links slot slots = refl

room_none : (book : BookSeen) (links : List Link) → room_of book links [] ≡ 0
unfolding room_of
room_none book links = refl

-- links were added
module _ (old new more : List Link) (same : new ≡ old ++ more) where
  slot_room_same : (book : BookSeen) (end : ℕ) (kept : Option Kept) → end ≤ length old → slot_room book new end kept ≡ slot_room book old end kept
  slot_room_same book end None within = ap (λ (f : List Fact). tripled (undecided book f)) (still_facts old new more same end within)
  slot_room_same book end (Some kept) within = refl

  room_same : (Stands : Owed → Slot → List Owed → Type 0) (is : (here : Owed) (slot : Slot) (opened : List Owed) → Stands here slot opened → slot.end ≤ length old)
      → (book : BookSeen) (slots : List Slot) → Each Stands (λ slot. slot.end ≤ length old) is slots → room_of book new slots ≡ room_of book old slots
  unfolding room_of
  room_same Stands is book [] each = refl
  room_same Stands is book (slot ∷ slots) each =
      let one = slot_room_same book slot.end slot.kept each.0 in let rest = room_same Stands is book slots each.1 in omega (arith, one, rest)

  module _ (table : CostTableSeen) (book : BookSeen) where
    held_still : (here : Open) (duals : List ℤ) (kept : Option Kept) (opened : List Owed) → IsHeld table book old here duals kept opened
        → IsHeld table book new here duals kept opened
    held_still here duals None opened is = is
    held_still here duals (Some kept) opened is =
        let there = still_facts old new more same kept.last is.within in
        record {
          steps = is.steps;
          closed = there ∙ is.closed;
          within = still_within old new more same kept.last is.within;
          follow = is.follow;
          shut = subst (λ (m : List Fact). IsShut book m) (sym there) is.shut;
          target = is.target;
          in_box = is.in_box;
          ending = subst (λ (m : List Fact). IsKeptEnd table book m duals kept.target kept.end) (sym there) is.ending;
          opens = is.opens ∙ ap (λ (m : List Fact). opened_from m duals kept.end (kept.number + 1)) (sym there);
        }

    slot_still : (here : Owed) (slot : Slot) (opened : List Owed) → IsSlotAt table book old here slot opened → IsSlotAt table book new here slot opened
    slot_still here slot opened is = record {
      fair = is.fair;
      rank = is.rank;
      within = still_within old new more same slot.end is.within;
      marks = still_facts old new more same slot.end is.within ∙ is.marks;
      held = held_still here.place slot.duals.values slot.kept opened is.held;
    }

abbrev pub no_slot : Slot
no_slot = record { rank = record { bound = pos 0; since = 0; second = false }; end = 0; duals = record { values = [] }; kept = None }

pub held_none : (table : CostTableSeen) (book : BookSeen) (links : List Link) (here : Open) (duals : List ℤ) (kept : Option Kept) (opened : List Owed)
    → kept ≡ None → IsHeld table book links here duals kept opened → (duals ≡ here.duals) × (opened ≡ [])
held_none table book links here duals kept opened none is = subst (λ (k : Option Kept). IsHeld table book links here duals k opened) none is

count_none : (kept : Option Kept) → kept_count kept ≡ None → kept ≡ None
count_none None is = refl
count_none (Some kept) is = cc

module _ (among : AmongMore) (sums : SumsNeverFall) (table : CostTableSeen) (book : BookSeen) (marks : List Fact) (once : AreOnce marks)
    (of_book : All (IsFactOf book) marks) (duals : DualsSeen) (in_box : AreDuals table book duals.values) (bound : ℤ)
    (is : IsLagrangianBound table book marks duals.values bound) (since : ℕ) where
  -- what is known of a branch of a node with these marks, duals and bound
  fair_branch : (fact : Fact) (rank : Rank) → rank.bound ≡ bound → has_fact marks fact ≡ false → IsFactOf book fact
      → IsFair table book (record { place = open_place (marks ++ fact ∷ []) duals.values; rank = rank })
  fair_branch fact rank same new of = record {
    once = once_more marks fact once new;
    of_book = All-push (IsFactOf book) marks fact of_book of;
    duals = in_box;
    floor = λ sum here.
        let less = (sums table book marks (marks ++ fact ∷ []) (among.added marks (fact ∷ [])) duals.values is.0 sum is.1 here).bound in
        subst (λ (z : ℤ). bound_of z ≤ bound_of sum) (sym (same ∙ is.2)) less;
  }

module _ (no_more : FactsLeaveNoMore) (fewer : BranchesLeaveFewer) (among : AmongMore) (sums : SumsNeverFall) (has : HasFactDecides)
    (decides : UndecidedDecides) (pairs : UndecidedPairsAreOfBook) (are_new : FollowingFactsAreNew) (are_of : FollowingFactsAreOfBook)
    (table : CostTableSeen) (book : BookSeen) where
  -- a node without branches, in place of the open slot
  module _ (old new more : List Link) (same : new ≡ old ++ more) (links : AreLinks new) (slots : List Slot) (n target next p : ℕ) (lower : next ≤ target)
      (are : AreSlots table book old slots n target) (is_next : IsNext slots n target p) (last : ℕ) (last_within : last ≤ length new)
      (duals : DualsSeen) (in_box : AreDuals table book duals.values) (marks : List Fact) (last_is : facts_at new last ≡ marks)
      (shut : IsShutAt table book (facts_at old (slot_at slots p).end) marks next) (end : KeptEnd)
      (ended : IsKeptEnd table book marks duals.values next end) where
    abbrev here : Slot
    here = slot_at slots p

    abbrev node : Slot
    node = record {
      rank = (slot_at slots p).rank;
      end = (slot_at slots p).end;
      duals = duals;
      kept = Some (record { number = n; target = next; last = last; end = end });
    }

    abbrev before : List Slot
    before = take p slots

    abbrev behind : List Slot
    behind = drop (p + 1) slots

    pub parted : slots ≡ before ++ here ∷ behind
    parted = cut_at slots p _ is_next.first.0

    pub part_long : length before ≡ p
    part_long = let less = is_next.first.0 in length-take-le p slots (omega (arith, less))

    none : here.kept ≡ None
    none = is_next.first.1

    -- the slots before and behind it
    laid_parts : Laid (IsSlotAt table book old) (owed_root book ∷ []) (before ++ here ∷ behind) []
    laid_parts = subst (λ (s : List Slot). Laid (IsSlotAt table book old) (owed_root book ∷ []) s []) parted are.laid

    abbrev EndsWithin : List Slot → Type 0
    EndsWithin xs = Each (IsSlotAt table book old) (λ slot. slot.end ≤ length old) (λ at slot opened is. is.within) xs

    all_within : EndsWithin before × EndsWithin behind
    all_within =
        let cut = laid_cut (IsSlotAt table book old) (owed_root book ∷ []) before (here ∷ behind) [] laid_parts in
        let first = laid_first (IsSlotAt table book old) cut.0 here behind [] cut.2 in (
          laid_each (IsSlotAt table book old) (λ slot. slot.end ≤ length old) (λ at slot opened is. is.within) (owed_root book ∷ []) before cut.0 cut.1,
          laid_each (IsSlotAt table book old) (λ slot. slot.end ≤ length old) (λ at slot opened is. is.within) (first.opened ++ first.rest) behind [] first.behind,
        )

    some_place : (at : Owed) × (opened : List Owed) × IsSlotAt table book old at here opened
    some_place =
        let cut = laid_cut (IsSlotAt table book old) (owed_root book ∷ []) before (here ∷ behind) [] laid_parts in
        let first = laid_first (IsSlotAt table book old) cut.0 here behind [] cut.2 in
        (first.here, first.opened, first.stands)

    -- what is known of the marks of the node
    pub marks_once : AreOnce marks
    marks_once =
        let is = some_place.2 in
        subst AreOnce (sym shut.closed) (once_steps has are_new are_of book (facts_at old here.end) shut.steps shut.follow (subst AreOnce (sym is.marks) is.fair.once))

    pub marks_of_book : All (IsFactOf book) marks
    marks_of_book =
        let is = some_place.2 in
        subst (λ (m : List Fact). All (IsFactOf book) m) (sym shut.closed) (of_book_steps has are_new are_of book (facts_at old here.end) shut.steps shut.follow
        (subst (λ (m : List Fact). All (IsFactOf book) m) (sym is.marks) is.fair.of_book))

    -- the node stands where the open slot stood
    node_stands : (at : Owed) (opened : List Owed) → IsSlotAt table book new at here opened
        → IsSlotAt table book new at node (opened_from marks duals.values end (n + 1))
    node_stands at opened is =
        let there : facts_at old here.end ≡ at.place.marks = sym (still_facts old new more same here.end some_place.2.within) ∙ is.marks in
        record {
          fair = is.fair;
          rank = is.rank;
          within = is.within;
          marks = is.marks;
          held = record {
            steps = shut.steps;
            closed = last_is ∙ shut.closed ∙ ap (λ (m : List Fact). m ++ shut.steps) there;
            within = last_within;
            follow = subst (λ (m : List Fact). FollowInTurn book m shut.steps) there shut.follow;
            shut = subst (λ (m : List Fact). IsShut book m) (sym last_is) shut.shut;
            target = shut.is_target;
            in_box = in_box;
            ending = subst (λ (m : List Fact). IsKeptEnd table book m duals.values next end) (sym last_is) ended;
            opens = ap (λ (m : List Fact). opened_from m duals.values end (n + 1)) (sym last_is);
          };
        }

    old_room : room_of book old slots ≡ room_of book old before + (tripled (undecided book (facts_at old here.end)) + room_of book old behind)
    old_room =
        let one = ap (λ (s : List Slot). room_of book old s) parted in
        let two = room_then book old before (here ∷ behind) in
        let three = room_cons book old here behind in
        let four = ap (λ (k : Option Kept). slot_room book old here.end k) none in
        omega (arith, one, two, three, four)

    new_room : (nodes : List Slot) → room_of book new (before ++ (nodes ++ behind))
        ≡ room_of book old before + (room_of book new nodes + room_of book old behind)
    new_room nodes =
        let one = room_then book new before (nodes ++ behind) in
        let two = room_then book new nodes behind in
        let three = room_same old new more same (IsSlotAt table book old) (λ at slot opened is. is.within) book before all_within.0 in
        let four = room_same old new more same (IsSlotAt table book old) (λ at slot opened is. is.within) book behind all_within.1 in
        omega (arith, one, two, three, four)

    was_standings : map slot_standing slots ≡ map slot_standing before ++ record { rank = here.rank; counted = None } ∷ map slot_standing behind
    was_standings =
        ap (λ (s : List Slot). map slot_standing s) parted ∙ map-append slot_standing before (here ∷ behind)
        ∙ ap (λ (k : Option Kept). map slot_standing before ++ record { rank = here.rank; counted = kept_count k } ∷ map slot_standing behind) none

    counted_was : AreCountedSo n target (map slot_standing before ++ record { rank = here.rank; counted = None } ∷ map slot_standing behind)
    counted_was = subst (λ (s : List Standing). AreCountedSo n target s) was_standings are.counted

    here_since : here.rank.since ≤ n
    here_since =
        let Q = λ (one : Standing). IsPast n target one.rank one.counted in
        All-head Q (record { rank = here.rank; counted = None }) (map slot_standing behind)
        (all_right Q (map slot_standing before) (record { rank = here.rank; counted = None } ∷ map slot_standing behind) counted_was.past)

    first_was : All (λ (one : Standing). one.counted ≡ None → ¬ IsBefore one.rank here.rank)
        (map slot_standing before ++ record { rank = here.rank; counted = None } ∷ map slot_standing behind)
    first_was =
        let C = λ (one : Standing). one.counted ≡ None → ¬ IsBefore one.rank here.rank in
        subst (λ (s : List Standing). All C s) was_standings
        (All-map C slot_standing slots
        (All-from_get_or (λ (s : Slot). C (slot_standing s)) slots no_slot (λ q less empty. is_next.first.2 q less (count_none (slot_at slots q).kept empty))))

    -- the order with the node and what it opens
    counted_with : (opened : List Slot) (ranks : List Rank) → map slot_standing opened ≡ opened_places ranks → All (λ (r : Rank). r.since ≡ n + 1) ranks
        → AreCountedSo (n + 1) next (map slot_standing (before ++ ((node ∷ opened) ++ behind)))
    counted_with opened ranks are_places later =
        let is : map slot_standing (before ++ ((node ∷ opened) ++ behind))
        ≡ map slot_standing before ++ ((slot_standing node ∷ opened_places ranks) ++ map slot_standing behind) =
        map-append slot_standing before ((node ∷ opened) ++ behind)
        ∙ ap (λ (s : List Standing). map slot_standing before ++ slot_standing node ∷ s)
        (map-append slot_standing opened behind ∙ ap (λ (s : List Standing). s ++ map slot_standing behind) are_places) in
        subst (λ (s : List Standing). AreCountedSo (n + 1) next s) (sym is)
        (one_more n target next lower here.rank ranks later is_next.room (map slot_standing before) (map slot_standing behind) here_since counted_was first_was)

    -- and the slots
    slots_with : (opened : List Slot) (ranks : List Rank) → map slot_standing opened ≡ opened_places ranks → All (λ (r : Rank). r.since ≡ n + 1) ranks
        → Laid (IsSlotAt table book new) (opened_from marks duals.values end (n + 1)) opened []
        → (after : List Slot) → after ≡ before ++ ((node ∷ opened) ++ behind) → AreSlots table book new after (n + 1) next
    slots_with opened ranks are_places later laid after is =
        let Stands = IsSlotAt table book new in
        let takes : (at : Owed) (o : List Owed) → IsSlotAt table book new at here o
        → (o ≡ []) × Laid (IsSlotAt table book new) (at ∷ []) (node ∷ opened) [] = λ at o stands. (
          (held_none table book new at.place here.duals.values here.kept o none stands.held).1,
          laid_cons Stands at [] node opened (opened_from marks duals.values end (n + 1)) [] (node_stands at o stands)
              (subst (λ (o : List Owed). Laid Stands o opened []) (sym (append-nil (opened_from marks duals.values end (n + 1)))) laid),
        ) in
        record {
          chained = links;
          laid = subst (λ (s : List Slot). Laid Stands (owed_root book ∷ []) s []) (sym is)
              (laid_replaced Stands (owed_root book ∷ []) before here behind (node ∷ opened) [] takes
              (laid_weaker (IsSlotAt table book old) Stands (slot_still old new more same table book) (owed_root book ∷ []) (before ++ here ∷ behind) [] laid_parts));
          counted = subst (λ (s : List Slot). AreCountedSo (n + 1) next (map slot_standing s)) (sym is) (counted_with opened ranks are_places later);
        }

    -- a leaf
    pub leaf_more : (after : List Slot) → opened_from marks duals.values end (n + 1) ≡ [] → after ≡ before ++ node ∷ behind
        → IsOneMore table book old slots new after n next
    leaf_more after empty is = record {
      grown = slots_with [] [] refl (All-nil (λ (r : Rank). r.since ≡ n + 1))
          (subst (λ (o : List Owed). Laid (IsSlotAt table book new) o [] []) (sym empty) (laid_none (IsSlotAt table book new) [])) after is;
      less =
          let was = old_room in let now = new_room (node ∷ []) in let one = room_cons book new node [] in let zero_room = room_none book new in
          let some = tripled_some (undecided book (facts_at old here.end)) in
          let same_room = ap (λ (s : List Slot). room_of book new s) is in
          omega (arith, was, now, one, zero_room, some, same_room);
    }

    -- a split, with two slots for its branches
    pub split_more : (first second : Slot) (after : List Slot) (ranks : List Rank) → first.kept ≡ None → second.kept ≡ None
        → ranks ≡ first.rank ∷ second.rank ∷ [] → All (λ (r : Rank). r.since ≡ n + 1) ranks
        → Laid (IsSlotAt table book new) (opened_from marks duals.values end (n + 1)) (first ∷ second ∷ []) []
        → tripled (undecided book (facts_at new first.end)) + tripled (undecided book (facts_at new second.end)) < tripled (undecided book (facts_at old here.end))
        → after ≡ before ++ node ∷ first ∷ second ∷ behind → IsOneMore table book old slots new after n next
    split_more first second after ranks one_none other_none are_ranks later laid room is =
        let places : map slot_standing (first ∷ second ∷ []) ≡ opened_places ranks =
        ap (λ (k : Option Kept). record { rank = first.rank; counted = kept_count k } ∷ slot_standing second ∷ []) one_none
        ∙ ap (λ (k : Option Kept). record { rank = first.rank; counted = None } ∷ record { rank = second.rank; counted = kept_count k } ∷ []) other_none
        ∙ ap (λ (r : List Rank). opened_places r) (sym are_ranks) in
        record {
          grown = slots_with (first ∷ second ∷ []) ranks places later laid after is;
          less =
              let was = old_room in let now = new_room (node ∷ first ∷ second ∷ []) in let one = room_cons book new node (first ∷ second ∷ []) in
              let two = room_cons book new first (second ∷ []) in let three = room_cons book new second [] in let zero_room = room_none book new in
              let four = ap (λ (k : Option Kept). slot_room book new first.end k) one_none in
              let five = ap (λ (k : Option Kept). slot_room book new second.end k) other_none in
              let same_room = ap (λ (s : List Slot). room_of book new s) is in
              omega (arith, was, now, one, two, three, zero_room, four, five, room, same_room);
        }

  -- less can grow from two branches
  two_room : (marks steps : List Fact) (pair : Pair) (duals : List ℤ) (routes : List (List ℕ)) (dive : Dive) → FollowInTurn book marks steps
      → IsUndecided book (marks ++ steps) pair
      → tripled (undecided book ((marks ++ steps) ++ first_branch pair ∷ [])) + tripled (undecided book ((marks ++ steps) ++ second_branch pair ∷ []))
      < tripled (undecided book marks)
  unfolding room
  two_room marks steps pair duals routes dive follow is =
      let at = open_place marks duals in
      let node : tree.Node = record { target = 0; steps = steps; ending = tree.Split pair duals routes dive } in
      let less = lighter no_more fewer table book (at ∷ []) at [] node (tree.branches (marks ++ steps) (tree.Split pair duals routes dive) ++ []) refl
      (record { steps = follow; ending = is }) refl in
      omega (arith, less)

  -- what opening both branches needs
  module _ (marks : List Fact) (once : AreOnce marks) (of_book : All (IsFactOf book) marks) (duals : DualsSeen) (in_box : AreDuals table book duals.values)
      (pair : Pair) (is : IsUndecided book marks pair) (bound : ℤ) (bounds : IsLagrangianBound table book marks duals.values bound) (since : ℕ)
      (links : List Link) (first second : ℕ) (first_within : first ≤ length links) (second_within : second ≤ length links)
      (first_is : facts_at links first ≡ marks ++ first_branch pair ∷ []) (second_is : facts_at links second ≡ marks ++ second_branch pair ∷ []) where
    abbrev first_slot : Slot
    first_slot = record { rank = record { bound = bound; since = since; second = false }; end = first; duals = duals; kept = None }

    abbrev second_slot : Slot
    second_slot = record { rank = record { bound = bound; since = since; second = true }; end = second; duals = duals; kept = None }

    pub laid_branches : Laid (IsSlotAt table book links) (opened_from marks duals.values (Split pair bound) since) (first_slot ∷ second_slot ∷ []) []
    laid_branches =
        let fresh = new_branches decides has pairs book marks pair ((decides book marks pair).1 is) in
        let Stands = IsSlotAt table book links in
        let one : Owed = record { place = open_place (marks ++ first_branch pair ∷ []) duals.values; rank = first_slot.rank } in
        let other : Owed = record { place = open_place (marks ++ second_branch pair ∷ []) duals.values; rank = second_slot.rank } in
        let first_stands : Stands one first_slot [] = record {
          fair = fair_branch among sums table book marks once of_book duals in_box bound bounds since (first_branch pair) first_slot.rank refl fresh.first_new fresh.first_of_book;
          rank = refl;
          within = first_within;
          marks = first_is;
          held = (refl, refl);
        } in
        let second_stands : Stands other second_slot [] = record {
          fair = fair_branch among sums table book marks once of_book duals in_box bound bounds since (second_branch pair) second_slot.rank refl fresh.second_new fresh.second_of_book;
          rank = refl;
          within = second_within;
          marks = second_is;
          held = (refl, refl);
        } in
        laid_cons Stands one (other ∷ []) first_slot (second_slot ∷ []) [] [] first_stands
        (laid_cons Stands other [] second_slot [] [] [] second_stands (laid_none Stands []))

  -- the step on the open slot p, after which the marks are these; links were added for what they have more
  module _ (old middle : List Link) (slots : List Slot) (n target next p : ℕ) (lower : next ≤ target) (are : AreSlots table book old slots n target)
      (is_next : IsNext slots n target p) (last : ℕ) (duals : DualsSeen) (in_box : AreDuals table book duals.values) (marks : List Fact)
      (shut : IsShutAt table book (facts_at old (slot_at slots p).end) marks next) (known : ℕ)
      (known_is : known ≡ length (facts_at old (slot_at slots p).end)) (linked : IsLinked old middle (slot_at slots p).end (drop known marks) last) where
    last_at : facts_at middle last ≡ marks
    last_at = linked.is ∙ rest_is (facts_at old (slot_at slots p).end) shut.steps marks known shut.closed known_is

    abbrev kept_node : KeptEnd → Slot
    kept_node end = record {
      rank = (slot_at slots p).rank;
      end = (slot_at slots p).end;
      duals = duals;
      kept = Some (record { number = n; target = next; last = last; end = end });
    }

    -- the node was put in the place of the slot
    abbrev IsPut : List Slot → List Slot → KeptEnd → Type 0
    IsPut was after end = (before : List Slot) (o : Slot) (behind : List Slot) → was ≡ before ++ o ∷ behind → length before ≡ p → after ≡ before ++ kept_node end ∷ behind

    long : length (take p slots) ≡ p
    long = let less = is_next.first.0 in length-take-le p slots (omega (arith, less))

    pub leaf_all : (end : KeptEnd) → IsKeptEnd table book marks duals.values next end → opened_from marks duals.values end (n + 1) ≡ []
        → (after : List Slot) → IsPut slots after end → IsOneMore table book old slots middle after n next
    leaf_all end ended empty after put =
        leaf_more old middle linked.more linked.same linked.links slots n target next p lower are is_next last linked.within duals in_box marks last_at shut end ended
        after empty (put (take p slots) (slot_at slots p) (drop (p + 1) slots) (cut_at slots p no_slot is_next.first.0) long)

    pub split_all : (pair : Pair) (bound : ℤ) → IsKeptEnd table book marks duals.values next (Split pair bound) → (new : List Link) (opened after : List Slot)
        → OpensBranches middle new slots opened p last duals pair bound (n + 1) → IsPut opened after (Split pair bound)
        → IsOneMore table book old slots new after n next
    split_all pair bound ended new opened after opens put =
        let here = slot_at slots p in
        let more = linked.more ++ opens.more in
        let same : new ≡ old ++ more = opens.same ∙ ap (λ (l : List Link). l ++ opens.more) linked.same ∙ append_assoc old linked.more opens.more in
        let last_new = still_facts middle new opens.more opens.same last linked.within ∙ last_at in
        let last_within = still_within middle new opens.more opens.same last linked.within in
        let once = marks_once old new more same opens.links slots n target next p lower are is_next last last_within duals in_box marks last_new shut (Split pair bound) ended in
        let of_book = marks_of_book old new more same opens.links slots n target next p lower are is_next last last_within duals in_box marks last_new shut (Split pair bound) ended in
        let first_is : facts_at new opens.first ≡ marks ++ first_branch pair ∷ [] = opens.first_is ∙ ap (λ (m : List Fact). m ++ first_branch pair ∷ []) last_at in
        let second_is : facts_at new opens.second ≡ marks ++ second_branch pair ∷ [] = opens.second_is ∙ ap (λ (m : List Fact). m ++ second_branch pair ∷ []) last_at in
        let first : Slot = record { rank = record { bound = bound; since = n + 1; second = false }; end = opens.first; duals = duals; kept = None } in
        let second : Slot = record { rank = record { bound = bound; since = n + 1; second = true }; end = opens.second; duals = duals; kept = None } in
        let laid = laid_branches marks once of_book duals in_box pair ended.0 bound ended.1 (n + 1) new opens.first opens.second opens.first_within opens.second_within
        first_is second_is in
        let R = λ (r : Rank). r.since ≡ n + 1 in
        let later : All R (first.rank ∷ second.rank ∷ []) = All-cons R first.rank (second.rank ∷ []) refl (All-cons R second.rank [] refl (All-nil R)) in
        let less = two_room (facts_at old here.end) shut.steps pair duals.values ended.2.0 ended.2.1 shut.follow
        (subst (λ (m : List Fact). IsUndecided book m pair) shut.closed ended.0) in
        let one = ap (λ (m : List Fact). tripled (undecided book m)) (first_is ∙ ap (λ (m : List Fact). m ++ first_branch pair ∷ []) shut.closed) in
        let other = ap (λ (m : List Fact). tripled (undecided book m)) (second_is ∙ ap (λ (m : List Fact). m ++ second_branch pair ∷ []) shut.closed) in
        let parted = opens.opened (take p slots) here (drop (p + 1) slots) (cut_at slots p no_slot is_next.first.0) long in
        split_more old new more same opens.links slots n target next p lower are is_next last last_within duals in_box marks last_new shut (Split pair bound) ended
        first second after (first.rank ∷ second.rank ∷ []) refl refl refl later laid (omega (arith, less, one, other))
        (put (take p slots) here (first ∷ second ∷ drop (p + 1) slots) parted long)

-- an end that is no split opens nothing
pub opens_nothing : (marks : List Fact) (duals : List ℤ) (end : KeptEnd) (since : ℕ) → ((pair : Pair) (bound : ℤ) → end ≡ Split pair bound → ⊥)
    → opened_from marks duals end since ≡ []
opens_nothing marks duals (Hole a) since not = refl
opens_nothing marks duals (Stuck k) since not = refl
opens_nothing marks duals Bounded since not = refl
opens_nothing marks duals (Split pair bound) since not = absurd (not pair bound refl)
