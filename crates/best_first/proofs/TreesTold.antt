-- The slots that were told, one more each time, and the tree that they are in the end. A stop behind some of them is the stop at
-- the places that are owed then. Where the tree grew until no open place can hold a cheaper plan, no bound is left; so a bound that
-- is left comes at the limit.
use Rattle.std.proofs.Common.{◌≡◌, ◌∙◌, ◌≤◌, ◌<◌, ◌+◌, ℕ, List, [], ◌∷◌, ◌++◌, length, map, take, drop, Option, Some, None, inl, inr, refl, sym, ap, subst, append_assoc, append-nil, add-one, drop-cons, arith}
use Rattle.std.specs.Prelude.{All, Contains}
use Rattle.std.proofs.lemmas.List.{drop_all, map-append, take_all, take_more}
use Rattle.std.proofs.lemmas.List.Elements.{All-append, All-contains_itself, All-get_or, All-head, All-weaker}
use Rattle.tail_book.specs.Seen.{BookSeen}
use Rattle.tail_book.specs.TableSeen.{CostTableSeen}
use Rattle.tail_book.specs.declared.outcome.Outcome.{Outcome}
use Rattle.branch_marks.specs.declared.event.Event.{Event}
use Rattle.branch_marks.specs.LogShown.{LogShown}
use Rattle.branch_marks.specs.TreeLog.{IsLater, Notes}
use Rattle.node_leaves.specs.Growth.{Grows}
use Rattle.node_leaves.specs.Node.{Node, IsShownNode}
use Rattle.node_leaves.specs.NodeEvents.{events_of, node_events}
use Rattle.node_leaves.specs.Place.{Open, root}
use Rattle.node_leaves.specs.Stops.{StopsIn}
use Rattle.node_leaves.specs.Target.{IsBest}
use Rattle.node_leaves.proofs.Cuts.{notes_none, notes_then}
use Rattle.node_leaves.proofs.Runs.{events_none, events_push}
use Rattle.branch_tree.specs.declared.limit.Limit.{Limit}
use Rattle.branch_tree.specs.Closing.{IsLeftAt, IsLowest}
use Rattle.branch_tree.specs.SearchTree.{HasReached, IsWithin, IsOutcomeOf}
use Rattle.branch_tree.specs.inside.SearchParts.{outcome_for}
use Rattle.branch_tree.proofs.LeastLeft.{no_nodes}
use Rattle.branch_tree.proofs.Stopping.{stops_before, stops_then}
use Rattle.best_first.specs.declared.links.Link.{Link}
use Rattle.best_first.specs.declared.slots.Slot.{Slot}
use Rattle.best_first.specs.declared.rank.Rank.{Rank}
use Rattle.best_first.specs.Order.{AreInOrder, Count, IsOver, IsPruned, Standing, numbers_of}
use Rattle.best_first.specs.BestTree.{Owed, owed_root, Laid, Turn, StandsAt, IsTurnAt, closing_node, closing_of, count_in, nodes_of, standing_of, IsDone}
use Rattle.best_first.specs.BestSearch.{IsBestSearched}
use Rattle.best_first.specs.inside.Slots.{AreSlots, IsPast, IsSlot, IsSlotAt, slot_at, slot_standing}
use Rattle.best_first.specs.inside.BestParts.{IsCountedOut}
use Rattle.best_first.specs.inside.Tellings.{AreTold, AreToldTo, IsSlotTold}
use Rattle.best_first.proofs.Layers.{laid_end, laid_first, laid_none, laid_one, laid_then, IsFirst}
use Rattle.best_first.proofs.NodesKept.{no_slot}
use Rattle.best_first.proofs.Orders.{all_left, all_right}
use Rattle.best_first.proofs.TreesGrown.{grows_under, places, turn_opens}

closing_push : (tree : List Turn) (turn : Turn) → closing_of (tree ++ turn ∷ []) ≡ closing_of tree ++ closing_node turn.number turn.node
unfolding closing_of
closing_push [] turn = append-nil (closing_node turn.number turn.node)
closing_push (one ∷ tree) turn =
    ap (λ (ns : List Node). closing_node one.number one.node ++ ns) (closing_push tree turn)
    ∙ sym (append_assoc (closing_node one.number one.node) (closing_of tree) (closing_node turn.number turn.node))

closing_none : closing_of [] ≡ []
unfolding closing_of
closing_none = refl

module _ (table : CostTableSeen) (book : BookSeen) (final : ℕ) where
  abbrev P : Standing → Type 0
  P one = IsPruned final one.rank one.counted

  abbrev IsNotLeft : Node → Type 0
  IsNotLeft node = (bound : ℕ) → ¬ IsLeftAt final node.ending bound

  shown_turn : (here : Open) (turn : Turn) (number : Option ℕ) (opened : List Owed) → IsTurnAt table book final here number turn.bound turn.node opened
      → IsShownNode table book here turn.node
  shown_turn here turn None opened is = is.0.shown
  shown_turn here turn (Some number) opened is = is.0.shown

  -- the nodes that were told are shown, and lead to the places that are owed
  pub tree_shown : (tree : List Turn) (owed : List Owed) → Laid (StandsAt table book final) (owed_root book ∷ []) tree owed
      → Grows (IsShownNode table book) (root book ∷ []) (nodes_of tree) (places owed)
  tree_shown tree owed laid =
      grows_under table book final (IsShownNode table book) (Contains tree)
      (λ here turn opened is among. (shown_turn here.place turn turn.number opened is.is, turn_opens table book final here.place turn.number turn.bound turn.node opened is.is))
      (owed_root book ∷ []) tree owed laid (All-contains_itself tree)

  module _ (links : List Link) (slots : List Slot) where
    pub told_none : (log : LogShown) → Laid (IsSlotAt table book links) (owed_root book ∷ []) slots [] → AreToldTo table book final links slots 0 None log log
    told_none log laid = record {
      tree = [];
      owed = owed_root book ∷ [];
      laid = laid_none (StandsAt table book final) (owed_root book ∷ []);
      left = laid;
      same = refl;
      lowest = subst (λ (ns : List Node). IsLowest final ns None) (sym closing_none) (no_nodes final);
      pruned = λ all. subst (λ (ns : List Node). IsLowest final ns None) (sym closing_none) (no_nodes final);
      told = subst (λ (due : List Event). Notes log log due) (sym events_none) (notes_none log);
    }

    module _ (p : ℕ) (less : p < length slots) (low : Option ℕ) (old between : LogShown) (told : AreToldTo table book final links slots p low old between) where
      next : IsFirst (IsSlotAt table book links) told.owed (slot_at slots p) (drop (p + 1) slots) []
      next =
          let cut : drop p slots ≡ slot_at slots p ∷ drop (p + 1) slots =
          drop-cons slots p no_slot less ∙ ap (λ (n : ℕ). slot_at slots p ∷ drop n slots) (sym (add-one p)) in
          laid_first (IsSlotAt table book links) told.owed (slot_at slots p) (drop (p + 1) slots) []
          (subst (λ (s : List Slot). Laid (IsSlotAt table book links) told.owed s []) cut told.left)

      pub next_slot : IsSlot table book links (slot_at slots p)
      next_slot = let first = next in (first.here, first.opened, first.stands)

      before : map slot_standing (take (p + 1) slots) ≡ map slot_standing (take p slots) ++ slot_standing (slot_at slots p) ∷ []
      before = ap (λ (s : List Slot). map slot_standing s) (take_more slots p no_slot less) ∙ map-append slot_standing (take p slots) (slot_at slots p ∷ [])

      -- one slot more
      pub told_more : (new : LogShown) (least : Option ℕ) → IsLater between new → IsSlotTold table book final links (slot_at slots p) low least between new
          → AreToldTo table book final links slots (p + 1) least old new
      told_more new least later one =
          let Stands = StandsAt table book final in
          let turn = one.turn in
          let first = next in
          let tree = told.tree ++ turn ∷ [] in
          record {
            tree = tree;
            owed = first.opened ++ first.rest;
            laid = laid_then Stands (owed_root book ∷ []) told.tree told.owed (turn ∷ []) (first.opened ++ first.rest) told.laid
                (subst (λ (o : List Owed). Laid Stands o (turn ∷ []) (first.opened ++ first.rest)) (sym first.is)
                (laid_one Stands first.here first.rest turn first.opened (one.stands first.here first.opened first.stands)));
            left = first.behind;
            same = map-append standing_of told.tree (turn ∷ []) ∙ ap (λ (s : List Standing). s ++ standing_of turn ∷ []) told.same
                ∙ ap (λ (s : Standing). map slot_standing (take p slots) ++ s ∷ []) one.same ∙ sym before;
            lowest = subst (λ (ns : List Node). IsLowest final ns least) (sym (closing_push told.tree turn)) (one.lowest (closing_of told.tree) told.lowest);
            pruned = λ all.
                let parts = subst (λ (s : List Standing). All P s) before all in
                let head = All-head P (slot_standing (slot_at slots p)) [] (all_right P (map slot_standing (take p slots)) (slot_standing (slot_at slots p) ∷ []) parts) in
                subst (λ (ns : List Node). All IsNotLeft ns) (sym (closing_push told.tree turn))
                (All-append IsNotLeft (closing_of told.tree) (closing_node turn.number turn.node)
                (told.pruned (all_left P (map slot_standing (take p slots)) (slot_standing (slot_at slots p) ∷ []) parts)) (one.pruned head));
            told = subst (λ (due : List Event). Notes old new due)
                (sym (ap (λ (ns : List Node). events_of ns) (map-append (λ (t : Turn). t.node) told.tree (turn ∷ [])) ∙ events_push (nodes_of told.tree) turn.node))
                (notes_then old between new (events_of (nodes_of told.tree)) (node_events turn.node) later told.told one.told);
          }

      -- a stop at the next slot
      pub told_stops : (new : LogShown) → IsLater between new
          → ((here : Owed) (opened : List Owed) → IsSlotAt table book links here (slot_at slots p) opened → StopsIn between new table book (here.place ∷ []))
          → StopsIn old new table book (root book ∷ [])
      told_stops new later stops =
          let first = next in
          let there : places told.owed ≡ (first.here.place ∷ []) ++ places first.rest = ap (λ (o : List Owed). places o) first.is in
          let one = stops_before table book between new (first.here.place ∷ []) (places first.rest) (stops first.here first.opened first.stands) in
          stops_then table book old between new (root book ∷ []) (nodes_of told.tree) (places told.owed) later (tree_shown told.tree told.owed told.laid) told.told
          (subst (λ (o : List Open). StopsIn between new table book o) (sym there) one)

    pub told_all : (low : Option ℕ) (old new : LogShown) → AreToldTo table book final links slots (length slots) low old new → AreTold table book final slots low old new
    told_all low old new told =
        let none : told.owed ≡ [] =
        laid_end (IsSlotAt table book links) told.owed [] (subst (λ (s : List Slot). Laid (IsSlotAt table book links) told.owed s []) (drop_all (length slots) slots (omega arith)) told.left) in
        record {
          tree = told.tree;
          laid = subst (λ (o : List Owed). Laid (StandsAt table book final) (owed_root book ∷ []) told.tree o) none told.laid;
          same = told.same ∙ ap (λ (s : List Slot). map slot_standing s) (take_all (length slots) slots (omega arith));
          lowest = told.lowest;
          pruned = λ all. told.pruned (subst (λ (s : List Slot). All P (map slot_standing s)) (sym (take_all (length slots) slots (omega arith))) all);
          told = told.told;
        }

-- a bound that is left is one where none is
none_and_some : (final : ℕ) (nodes : List Node) (least : ℕ) → IsLowest final nodes None → IsLowest final nodes (Some least) → ⊥
none_and_some final nodes least none lowest =
    let N = λ (node : Node). (bound : ℕ) → ¬ IsLeftAt final node.ending bound in
    let any = lowest.0 in
    subst N any.3 (All-get_or N nodes any.0 any.1 any.2 none) least any.4

is_over : (n final : ℕ) (rank : Rank) (counted : Option Count) → IsPast n final rank counted → IsOver final counted
is_over n final rank None past = tt
is_over n final rank (Some count) past = past.1

module _ (table : CostTableSeen) (book : BookSeen) (limit : Limit) (links : List Link) (slots : List Slot) (n final : ℕ)
    (are : AreSlots table book links slots n final) (within : IsWithin limit n) (out : IsCountedOut limit slots n final) (low : Option ℕ)
    (old new : LogShown) (told : AreTold table book final slots low old new) where
  count_is : count_in told.tree ≡ n
  count_is = ap (λ (s : List Standing). length (numbers_of s)) told.same ∙ are.counted.count

  over : All (λ (one : Standing). IsOver final one.counted) (map standing_of told.tree)
  over =
      subst (λ (s : List Standing). All (λ (one : Standing). IsOver final one.counted) s) (sym told.same)
      (All-weaker (λ (one : Standing). IsPast n final one.rank one.counted) (λ (one : Standing). IsOver final one.counted)
      (λ one past. is_over n final one.rank one.counted past) (map slot_standing slots) are.counted.past)

  done : IsDone limit final told.tree
  done = elim out [
    | inl at ↦ inl (subst (λ (c : ℕ). HasReached limit c) (sym count_is) at)
    | inr all ↦ inr (
      subst (λ (c : ℕ). 1 ≤ c) (sym count_is) all.0,
      subst (λ (s : List Standing). All (λ (one : Standing). IsPruned final one.rank one.counted) s) (sym told.same) all.1,
    )
  ]

  -- where a bound is left, as many nodes were counted as the limit allows
  at_limit : (least : ℕ) → IsLowest final (closing_of told.tree) (Some least) → HasReached limit n
  at_limit least lowest = elim out [
    | inl at ↦ at
    | inr all ↦ absurd (none_and_some final (closing_of told.tree) least (told.pruned all.1) lowest)
  ]

  answered : (plan : Option (List (List ℕ))) (least : Option ℕ) → IsBest table book plan final → IsLowest final (closing_of told.tree) least
      → IsOutcomeOf table book limit (count_in told.tree) (closing_of told.tree) final (outcome_for plan final least n)
  answered (Some plan) None best lowest = (best, refl, lowest)
  answered None None best lowest = (best, lowest)
  answered (Some plan) (Some least) best lowest = (best, refl, lowest, at_limit least lowest, count_is)
  answered None (Some least) best lowest = (best, lowest, at_limit least lowest, count_is)

  pub best_searched : (plan : Option (List (List ℕ))) (outcome : Outcome) → outcome ≡ outcome_for plan final low n → IsBest table book plan final
      → IsBestSearched table book limit old new outcome
  best_searched plan outcome is best = record {
    tree = told.tree;
    is = record {
      final = final;
      laid = told.laid;
      numbered = λ i less. subst (λ (s : List Standing). Contains (numbers_of s) i) (sym told.same) (are.counted.each i (subst (λ (c : ℕ). i < c) count_is less));
      ordered = subst AreInOrder (sym told.same) are.counted.ordered;
      over = over;
      within = subst (λ (c : ℕ). IsWithin limit c) (sym count_is) within;
      done = done;
      answered = subst (λ (o : Outcome). IsOutcomeOf table book limit (count_in told.tree) (closing_of told.tree) final o) (sym is)
          (answered plan low best told.lowest);
    };
    told = told.told;
  }
