-- A slot, told as a node of the tree. An open one becomes a closing node of its place, and one with a node that node: it stands
-- wherever the slot does, since the facts up to the slot's end are those of the place.
use Rattle.std.proofs.Common.{◌≡◌, ◌∙◌, ◌+◌, ℕ, ℤ, pos, List, [], ◌∷◌, ◌++◌, length, map, drop, Option, Some, None, ◌≤◌, refl, sym, ap, subst, append-nil, arith}
use Rattle.std.specs.Prelude.{All, Any}
use Rattle.std.proofs.Math.Seq.{drop-append_seam}
use Rattle.std.proofs.lemmas.List.{length-append, get_or_append_left}
use Rattle.std.proofs.lemmas.List.Elements.{All-nil, All-cons, All-push}
use Rattle.tail_book.specs.Seen.{BookSeen}
use Rattle.tail_book.specs.TableSeen.{CostTableSeen}
use Rattle.branch_marks.specs.declared.event.Event.{Event}
use Rattle.branch_marks.specs.declared.fact.Fact.{Fact}
use Rattle.branch_marks.specs.Bound.{bound_of, lagrangian, Passes}
use Rattle.branch_marks.specs.Facts.{IsFactOf}
use Rattle.branch_marks.specs.Following.{FollowInTurn, IsShut, FollowingFactsAreNew, FollowingFactsAreOfBook}
use Rattle.branch_marks.specs.LogShown.{LogShown}
use Rattle.branch_marks.specs.Settled.{AreDuals, IsSum}
use Rattle.branch_marks.specs.inside.FactTests.{HasFactDecides}
use Rattle.branch_marks.specs.inside.Once.{AreOnce}
use Rattle.branch_marks.specs.TreeLog.{IsLater, Notes, NotesFront, TellsNothing}
use Rattle.node_leaves.specs.declared.leaf.PricedLeaf.{PricedLeaf}
use Rattle.node_leaves.specs.Node.{Ending, Node, closed_marks, IsShownEnding}
use Rattle.node_leaves.specs.Node as tree
use Rattle.node_leaves.specs.NodeEvents.{ending_events, node_events, step_events}
use Rattle.node_leaves.specs.Place.{Open, open_place}
use Rattle.node_leaves.specs.Priced.{IsPriced}
use Rattle.node_leaves.specs.Stops.{StopsIn}
use Rattle.node_leaves.specs.inside.Leaf.{AnswersLeaf, IsCutAtLeaf, IsLeafPriced}
use Rattle.node_leaves.proofs.Cuts.{notes_then}
use Rattle.branch_tree.specs.Closing.{IsClosing, IsLeftAt, IsLowest}
use Rattle.branch_tree.specs.Counted.{IsEndOf}
use Rattle.branch_tree.proofs.LeastLeft.{closing_events, is_closing}
use Rattle.branch_tree.proofs.NodeStops.{end_stops, steps_stop}
use Rattle.best_first.specs.declared.links.Link.{Link}
use Rattle.best_first.specs.declared.rank.Rank.{Rank}
use Rattle.best_first.specs.declared.slots.Kept.{Kept}
use Rattle.best_first.specs.declared.slots.Slot.{Slot}
use Rattle.best_first.specs.inside.Links.{facts_at}
use Rattle.best_first.specs.Order.{IsPruned}
use Rattle.best_first.specs.BestTree.{Owed, Turn, StandsAt, HasBound, opened_by}
use Rattle.best_first.specs.inside.Slots.{IsHeld, IsKeptAt, IsKeptEnd, IsSlot, IsSlotAt, kept_bound, kept_count}
use Rattle.best_first.specs.inside.Tellings.{IsEndTold, IsSlotTold}
use Rattle.best_first.proofs.Endings.{passes_up}
use Rattle.best_first.proofs.EndsTold.{notes_nothing}
use Rattle.best_first.proofs.NodesKept.{held_none}
use Rattle.best_first.proofs.PlaceFacts.{of_book_steps, once_steps}
use Rattle.best_first.proofs.SlotEdits.{rest_is}

-- a place is its marks and its duals
place_is : (here : Open) (marks : List Fact) (duals : List ℤ) → here.marks ≡ marks → here.duals ≡ duals → here ≡ open_place marks duals
place_is here marks duals one two = ap (λ (m : List Fact). open_place m here.duals) one ∙ ap (λ (d : List ℤ). open_place marks d) two

-- what holds of one of some holds of one of more
any_before : {X : Type 0} (P : X → Type 0) (xs ys : List X) → Any P xs → Any P (xs ++ ys)
any_before P xs ys any =
    let e = length-append xs ys in
    (any.0, any.1, omega (arith, e, any.2), get_or_append_left xs ys any.1 any.0 any.2 ∙ any.3, any.4)

-- one more node, with a bound that reaches the target or with none, changes nothing
still_lowest : (final : ℕ) (nodes : List Node) (node : Node) → ((bound : ℕ) → ¬ IsLeftAt final node.ending bound) → (low : Option ℕ)
    → IsLowest final nodes low → IsLowest final (nodes ++ node ∷ []) low
still_lowest final nodes node not None lowest = All-push (λ (n : Node). (bound : ℕ) → ¬ IsLeftAt final n.ending bound) nodes node lowest not
still_lowest final nodes node not (Some low) lowest = (
  any_before (λ (n : Node). IsLeftAt final n.ending low) nodes (node ∷ []) lowest.0,
  All-push (λ (n : Node). (bound : ℕ) → IsLeftAt final n.ending bound → low ≤ bound) nodes node lowest.1 (λ bound left. absurd (not bound left)),
)

module _ (table : CostTableSeen) (book : BookSeen) (final : ℕ) (links : List Link) (slot : Slot) where
  -- the place of an open slot
  module _ (none : slot.kept ≡ None) where
    abbrev pub own_place : Open
    own_place = open_place (facts_at links slot.end) slot.duals.values

    pub open_at : (here : Owed) (opened : List Owed) → IsSlotAt table book links here slot opened → (here.place ≡ own_place) × (opened ≡ [])
    open_at here opened at =
        let held = held_none table book links here.place slot.duals.values slot.kept opened none at.held in
        (place_is here.place (facts_at links slot.end) slot.duals.values (sym at.marks) (sym held.0), held.1)

    -- an end that bounds is at least the bound under which the place was opened, so nothing is left where that reaches the target
    not_left : (ending : Ending) → IsPriced table book own_place ending → IsSlot table book links slot → Passes (bound_of slot.rank.bound) final
        → (bound : ℕ) → ¬ IsLeftAt final ending bound
    not_left (tree.Hole a) priced is passes bound left = left
    not_left (tree.Stuck k family) priced is passes bound left = left
    not_left (tree.Split pair duals routes dive) priced is passes bound left = left
    not_left (tree.Bounded duals covers) priced is passes bound left =
        let at = is.2 in let here = is.0 in
        let same = (open_at here is.1 at).0 in
        let sum = lagrangian duals (map (λ cover. cover.value) covers) in
        let under : IsSum table book own_place.marks duals sum = (map (λ cover. cover.value) covers, priced.1, refl) in
        let sums : IsSum table book here.place.marks here.place.duals sum =
        subst (λ (p : Open). IsSum table book p.marks p.duals sum) (sym same) (subst (λ (d : List ℤ). IsSum table book own_place.marks d sum) priced.0 under) in
        let less = at.fair.floor sum sums in
        left.0 (passes_up (bound_of slot.rank.bound) (bound_of sum) final (subst (λ (r : Rank). bound_of r.bound ≤ bound_of sum) (sym at.rank) less) passes)

    abbrev closing_turn : Ending → Turn
    closing_turn ending =
        record { rank = slot.rank; number = None; bound = pos 0; node = record { target = final; steps = []; ending = ending } }

    abbrev leaf_node : Ending → Node
    leaf_node ending = record { target = final; steps = []; ending = ending }

    pub closing_told : IsSlot table book links slot → (low least : Option ℕ) (old new : LogShown) (ending : Ending)
        → IsShownEnding table book own_place.marks ending → IsPriced table book own_place ending
        → ((nodes : List Node) → IsLowest final nodes low → IsLowest final (nodes ++ leaf_node ending ∷ []) least)
        → Notes old new (ending_events ending) → IsSlotTold table book final links slot low least old new
    closing_told is low least old new ending shown priced lower told =
        let N = λ (node : Node). (bound : ℕ) → ¬ IsLeftAt final node.ending bound in
        let turn = closing_turn ending in
        record {
          turn = turn;
          same = ap (λ (k : Option Kept). record { rank = slot.rank; counted = kept_count k }) (sym none);
          stands = λ here opened at.
              let same = open_at here opened at in
              record {
                rank = at.rank;
                is = (
                  subst (λ (p : Open). IsClosing table book final p turn.node) (sym same.0) (is_closing table book final own_place ending shown priced),
                  same.1,
                );
              };
          lowest = lower;
          pruned = λ pruned.
              All-cons N turn.node [] (not_left ending priced is (subst (λ (k : Option Kept). IsPruned final slot.rank (kept_count k)) none pruned)) (All-nil N);
          told = subst (λ (due : List Event). Notes old new due) (closing_events table book final ending) told;
        }

    pub priced_told : IsSlot table book links slot → (low least : Option ℕ) (answer : PricedLeaf) (old new : LogShown)
        → ((nodes : List Node) (node : Node) → IsLowest final nodes low → AnswersLeaf node.ending answer → IsLowest final (nodes ++ node ∷ []) least)
        → (marks : List Fact) → marks ≡ facts_at links slot.end → IsLeafPriced table book (open_place marks slot.duals.values) old new answer
        → IsSlotTold table book final links slot low least old new
    priced_told is low least answer old new lower marks same priced =
        let there = subst (λ (m : List Fact). IsLeafPriced table book (open_place m slot.duals.values) old new answer) same priced in
        closing_told is low least old new there.ending there.shown there.priced (λ nodes lowest. lower nodes (leaf_node there.ending) lowest there.answers) there.told

    pub priced_stops : (old new : LogShown) (marks : List Fact) → marks ≡ facts_at links slot.end
        → StopsIn old new table book (open_place marks slot.duals.values ∷ []) → (here : Owed) (opened : List Owed)
        → IsSlotAt table book links here slot opened → StopsIn old new table book (here.place ∷ [])
    priced_stops old new marks same stops here opened at =
        subst (λ (p : Open). StopsIn old new table book (p ∷ [])) (sym (open_at here opened at).0)
        (subst (λ (m : List Fact). StopsIn old new table book (open_place m slot.duals.values ∷ [])) same stops)

    -- where nothing is told and the place was opened under a bound that reaches the target, nothing is priced
    pub unpriced_told : IsSlot table book links slot → Passes (bound_of slot.rank.bound) final → (low : Option ℕ) (log : LogShown) → TellsNothing log
        → ((ending : Ending) × IsShownEnding table book own_place.marks ending × IsPriced table book own_place ending)
        → IsSlotTold table book final links slot low low log log
    unpriced_told is passes low log nothing some =
        closing_told is low low log log some.0 some.1 some.2
        (λ nodes lowest. still_lowest final nodes (leaf_node some.0) (not_left some.0 some.2 is passes) low lowest)
        (notes_nothing log (ending_events some.0) nothing)

  -- a slot with a node
  module _ (kept : Kept) (some : slot.kept ≡ Some kept) where
    pub kept_at : (here : Owed) (opened : List Owed) → IsSlotAt table book links here slot opened
        → IsKeptAt table book links here.place.marks slot.duals.values kept opened
    kept_at here opened at = subst (λ (k : Option Kept). IsHeld table book links here.place slot.duals.values k opened) some at.held

    abbrev last : List Fact
    last = facts_at links kept.last

    -- what is known of its facts, its end, and its steps, which lie behind the facts of its place
    module _ (is : IsSlot table book links slot) where
      abbrev pub own : IsKeptAt table book links is.0.place.marks slot.duals.values kept is.1
      own = kept_at is.0 is.1 is.2

      pub last_within : kept.last ≤ length links
      last_within = own.within

      pub duals_in_box : AreDuals table book slot.duals.values
      duals_in_box = own.in_box

      pub end_kept : (marks : List Fact) → marks ≡ facts_at links kept.last → IsKeptEnd table book marks slot.duals.values kept.target kept.end
      end_kept marks same = subst (λ (m : List Fact). IsKeptEnd table book m slot.duals.values kept.target kept.end) (sym same) own.ending

      pub own_closed : facts_at links kept.last ≡ facts_at links slot.end ++ own.steps
      own_closed = own.closed ∙ ap (λ (m : List Fact). m ++ own.steps) (sym is.2.marks)

      pub own_follow : FollowInTurn book (facts_at links slot.end) own.steps
      own_follow = subst (λ (m : List Fact). FollowInTurn book m own.steps) (sym is.2.marks) own.follow

      module _ (known : ℕ) (long : known ≡ length (facts_at links slot.end)) where
        pub steps_behind : facts_at links kept.last ≡ facts_at links slot.end ++ drop known (facts_at links kept.last)
        steps_behind = sym (rest_is (facts_at links slot.end) own.steps (facts_at links kept.last) known own_closed long)

        pub steps_follow : FollowInTurn book (facts_at links slot.end) (drop known (facts_at links kept.last))
        steps_follow =
            let rest : drop known (facts_at links kept.last) ≡ own.steps =
            ap (λ (fs : List Fact). drop known fs) own_closed ∙ ap (λ (k : ℕ). drop k (facts_at links slot.end ++ own.steps)) long
            ∙ drop-append_seam (facts_at links slot.end) own.steps in
            subst (λ (fs : List Fact). FollowInTurn book (facts_at links slot.end) fs) (sym rest) own_follow

      module _ (has : HasFactDecides) (are_new : FollowingFactsAreNew) (are_of : FollowingFactsAreOfBook) where
        pub last_once : AreOnce (facts_at links kept.last)
        last_once = subst AreOnce (sym own.closed) (once_steps has are_new are_of book is.0.place.marks own.steps own.follow is.2.fair.once)

        pub last_of_book : All (IsFactOf book) (facts_at links kept.last)
        last_of_book =
            subst (λ (m : List Fact). All (IsFactOf book) m) (sym own.closed)
            (of_book_steps has are_new are_of book is.0.place.marks own.steps own.follow is.2.fair.of_book)

    -- stops in its steps and at its end
    module _ (steps : List Fact) (follow : FollowInTurn book (facts_at links slot.end) steps) (old : LogShown) (here : Owed) (opened : List Owed)
        (at : IsSlotAt table book links here slot opened) where
      abbrev there_follow : FollowInTurn book here.place.marks steps
      there_follow = subst (λ (m : List Fact). FollowInTurn book m steps) at.marks follow

      pub kept_steps_stop : (new : LogShown) → NotesFront old new (step_events steps) → StopsIn old new table book (here.place ∷ [])
      kept_steps_stop new front = steps_stop table book here.place old new (record { steps = steps; follow = there_follow; front = front })

      pub kept_end_stop : facts_at links kept.last ≡ facts_at links slot.end ++ steps → (between new : LogShown) → Notes old between (step_events steps)
          → IsLater between new → (marks : List Fact) → marks ≡ facts_at links kept.last → IsCutAtLeaf table book marks between new
          → StopsIn old new table book (here.place ∷ [])
      kept_end_stop closed between new told later marks same cut =
          end_stops table book here.place old between new (facts_at links kept.last) later
          (record { steps = steps; marks = closed ∙ ap (λ (m : List Fact). m ++ steps) at.marks; follow = there_follow; told = told })
          (subst (λ (m : List Fact). IsCutAtLeaf table book m between new) same cut)

    module _ (steps : List Fact) (closed : facts_at links kept.last ≡ facts_at links slot.end ++ steps)
        (follow : FollowInTurn book (facts_at links slot.end) steps) (old between new : LogShown)
        (end : IsEndTold table book (facts_at links kept.last) slot.duals.values kept.target kept.end between new)
        (steps_told : Notes old between (step_events steps)) (later : IsLater between new) where
      abbrev turn : Turn
      turn = record {
        rank = slot.rank;
        number = Some kept.number;
        bound = kept_bound kept.end;
        node = record { target = kept.target; steps = steps; ending = end.ending };
      }

      node_told : Notes old new (node_events turn.node)
      unfolding node_events
      node_told = notes_then old between new (step_events steps) (ending_events end.ending) later steps_told end.told

      kept_stands : (here : Owed) (opened : List Owed) → IsSlotAt table book links here slot opened → StandsAt table book final here turn opened
      kept_stands here opened at =
          let is = kept_at here opened at in
          let marks : facts_at links kept.last ≡ here.place.marks ++ steps = closed ∙ ap (λ (m : List Fact). m ++ steps) at.marks in
          record {
            rank = at.rank;
            is = (
              record {
                shown = record {
                  steps = subst (λ (m : List Fact). FollowInTurn book m steps) at.marks follow;
                  ending = subst (λ (m : List Fact). IsShownEnding table book m end.ending) marks end.shown;
                };
                shut = subst (λ (m : List Fact). IsShut book m) marks is.shut;
                target = is.target;
                ending = subst (λ (m : List Fact). IsEndOf table book m kept.target end.ending) marks end.right;
              },
              subst (λ (m : List Fact). HasBound table book m end.ending (kept_bound kept.end)) marks end.bounds,
              is.opens ∙ end.opens (kept.number + 1)
                  ∙ ap (λ (m : List Fact). opened_by m end.ending (kept_bound kept.end) (kept.number + 1)) marks,
            );
          }

      pub kept_told : (low : Option ℕ) → IsSlotTold table book final links slot low low old new
      kept_told low =
          let N = λ (node : Node). (bound : ℕ) → ¬ IsLeftAt final node.ending bound in
          record {
            turn = turn;
            same = ap (λ (k : Option Kept). record { rank = slot.rank; counted = kept_count k }) (sym some);
            stands = kept_stands;
            lowest = λ nodes lowest. subst (λ (ns : List Node). IsLowest final ns low) (sym (append-nil nodes)) lowest;
            pruned = λ pruned. All-nil N;
            told = node_told;
          }
