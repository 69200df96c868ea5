-- What a sink holds of a certificate after each of its parts: the header, the events of the search, the plan and the
-- claim. Each part comes behind the ones before, so where one fails the sink holds a front of what was due: of a begun
-- tree while the search runs, and of the whole certificate once it has ended.
use Rattle.std.proofs.Common.{◌≡◌, ◌∙◌, inl, inr, Bool, false, ℕ, List, [], ◌∷◌, ◌++◌, map, Option, Some, None, refl, sym, ap, subst, append_assoc}
use Rattle.std.proofs.lemmas.List.{append-nil, map-append}
use Rattle.std.proofs.lemmas.List.Elements.{All-nil}
use Rattle.std.specs.Prelude.{All}
use Rattle.tail_book.specs.Lookup.{activities}
use Rattle.tail_book.specs.Seen.{BookSeen}
use Rattle.tail_book.specs.declared.outcome.Outcome.{Outcome}
use Rattle.tail_book.specs.CostTable.{costs_of}
use Rattle.tail_book.specs.inside.Sound.{IsBook}
use Rattle.tail_outside.specs.Outside.{Adds, AddsFront}
use Rattle.tail_outside.specs.Shown.{SinkShown}
use Rattle.branch_marks.specs.TreeLog.{IsCut}
use Rattle.branch_marks.specs.declared.event.Event.{Event}
use Rattle.node_leaves.specs.Begun.{BegunTree, IsBegunTree}
use Rattle.node_leaves.specs.Growth.{Grows}
use Rattle.node_leaves.specs.Node.{Node}
use Rattle.node_leaves.specs.NodeEvents.{begun_events, events_of}
use Rattle.node_leaves.specs.Place.{root}
use Rattle.branch_tree.specs.declared.limit.Limit.{Limit}
use Rattle.cert_lines.specs.declared.cert_line.CertLine.{CertLine}
use Rattle.cert_lines.specs.declared.cert_line.CertLine.TheVariants as line
use Rattle.cert_lines.specs.declared.version.Version.{Version}
use Rattle.cert_lines.specs.declared.version.Version.TheVariants.{Full, Lean}
use Rattle.cert_lines.specs.Grammar.{IsLine}
use Rattle.cert_lines.specs.Text.{cert_text}
use Rattle.cert_lines.specs.Version.{number_of_version}
use Rattle.cert_checker.specs.Certificate.{header_of}
use Rattle.cert_writer.specs.CertText.{IsKept, IsTornAt, TellsAt, event_text, log_over}
use Rattle.cert_writer.specs.EventLines.{event_lines, in_cover_behind, lean_lines}
use Rattle.cert_writer.specs.Trailer.{trailer_lines}
use Rattle.cert_writer.proofs.Lines.{lean_join, text_append}
use Rattle.certified_search.specs.OrderedTree.{IsTreeIn}
use Rattle.certified_search.specs.SearchText.{SearchTreesAreAccepted, search_text}
use Rattle.certified_search.specs.declared.order.Order.{Order}
use Rattle.certified_search.specs.inside.Header.{AreNumbersOf}
use Rattle.certified_search.specs.Written.{IsCertificateOf, IsFrontOfDue}

-- the lines of more events, behind those that were told
abbrev lines_behind : Version → List Event → List Event → List CertLine
lines_behind Full told rest = map line.Event rest
lines_behind Lean told rest = lean_lines (in_cover_behind false told) rest

more_lines : (version : Version) (told rest : List Event) → event_lines version (told ++ rest) ≡ event_lines version told ++ lines_behind version told rest
more_lines Full told rest = map-append line.Event told rest
more_lines Lean told rest = lean_join false told rest

more_events : (version : Version) (header : CertLine) (told rest : List Event)
    → event_text version header (told ++ rest) ≡ event_text version header told ++ cert_text (lines_behind version told rest)
more_events version header told rest =
    ap (λ (lines : List CertLine). cert_text (header ∷ lines)) (more_lines version told rest) ∙ text_append (header ∷ event_lines version told) (lines_behind version told rest)

-- where nothing is told of what was added, nothing was
added : (old : Option (List ℕ)) (new : Option (List ℕ)) (before piece : List ℕ) → old ≡ Some before → Adds old new piece → new ≡ Some (before ++ piece)
added old new before piece is adds = subst (λ (o : Option (List ℕ)). Adds o new piece) is adds

front_added : (old : Option (List ℕ)) (new : Option (List ℕ)) (before piece : List ℕ) → old ≡ Some before → AddsFront old new piece → AddsFront (Some before) new piece
front_added old new before piece is adds = subst (λ (o : Option (List ℕ)). AddsFront o new piece) is adds

-- no event was told, so a label would be no cover's, and no lines stand behind the header
kept_none : (version : Version) (in_cover : Bool) → in_cover ≡ false → IsKept version in_cover []
kept_none Full in_cover outside = tt
kept_none Lean in_cover outside = outside

none_told : (version : Version) (header : CertLine) → event_text version header [] ≡ cert_text (header ∷ [])
none_told Full header = refl
none_told Lean header = refl

none_spelled : (version : Version) → All IsLine (event_lines version [])
none_spelled Full = All-nil IsLine
none_spelled Lean = All-nil IsLine

-- the header was written
pub begun_tells : (version : Version) (in_cover : Bool) (header : CertLine) (old new : SinkShown) → in_cover ≡ false → old.told ≡ Some []
    → Adds old.told new.told (cert_text (header ∷ [])) → TellsAt version in_cover header new [] []
begun_tells version in_cover header old new outside empty adds = record {
  kept = kept_none version in_cover outside;
  taken = cert_text (header ∷ []);
  bytes = added old.told new.told [] (cert_text (header ∷ [])) empty adds;
  text = none_told version header ∙ sym (append-nil (cert_text (header ∷ [])));
  spelled = none_spelled version;
}

-- the same, where the log has the numbers of the header that was written
pub begun_tells_as : (version : Version) (in_cover : Bool) (written header : CertLine) (old new : SinkShown) (waiting : List ℕ) → in_cover ≡ false → written ≡ header → waiting ≡ []
    → old.told ≡ Some [] → Adds old.told new.told (cert_text (written ∷ [])) → TellsAt version in_cover header new waiting []
begun_tells_as version in_cover written header old new waiting outside same none empty adds =
    subst (λ (left : List ℕ). TellsAt version in_cover header new left []) (sym none)
    (begun_tells version in_cover header old new outside empty (subst (λ (first : CertLine). Adds old.told new.told (cert_text (first ∷ []))) same adds))

-- the header of a log of this version and these numbers
abbrev pub header_at : Version → ℕ → ℕ → ℕ → CertLine
header_at version n m c = line.Header (number_of_version version) n m c

-- the same version and numbers make the same header
pub same_header : (version later : Version) (n m c n_later m_later c_later : ℕ) → later ≡ version → n_later ≡ n → m_later ≡ m → c_later ≡ c
    → header_at version n m c ≡ header_at later n_later m_later c_later
same_header version later n m c n_later m_later c_later same same_n same_m same_c = rw (same, same_n, same_m, same_c) refl

-- those of the book make its header
pub book_header : (version later : Version) (book : BookSeen) (n m c : ℕ) → later ≡ version → AreNumbersOf book n m c → header_at later n m c ≡ header_of (number_of_version version) book
book_header version later book n m c same numbers = rw (same, numbers.0, numbers.1, numbers.2) refl

-- what a log tells whose version and header are those of the book's certificate
pub tells_as : (book : BookSeen) (version later : Version) (in_cover : Bool) (first : CertLine) (sink : SinkShown) (waiting : List ℕ) (told : List Event) → later ≡ version
    → first ≡ header_of (number_of_version version) book → TellsAt later in_cover first sink waiting told
    → TellsAt version in_cover (header_of (number_of_version version) book) sink waiting told
tells_as book version later in_cover first sink waiting told same same_first tells =
    subst (λ (now : Version). TellsAt now in_cover (header_of (number_of_version version) book) sink waiting told) same
    (subst (λ (one : CertLine). TellsAt later in_cover one sink waiting told) same_first tells)

module _ (book : BookSeen) (limit : Limit) (order : Order) (version : Version) where
  -- no node was visited
  no_tree : BegunTree
  no_tree = record { nodes = []; part = None }

  is_no_tree : IsBegunTree (costs_of book) book no_tree
  unfolding Grows no_tree
  is_no_tree = record { left = root book ∷ []; grown = refl; part = tt }

  header : CertLine
  header = header_of (number_of_version version) book

  none_begun : begun_events no_tree ≡ []
  unfolding events_of no_tree
  none_begun = refl

  header_due : event_text version header (begun_events no_tree) ≡ cert_text (header ∷ [])
  header_due = ap (λ (due : List Event). event_text version header due) none_begun ∙ none_told version header

  pub none_is_front : IsFrontOfDue book limit order version []
  unfolding header
  none_is_front = inr (record { begun = no_tree; is = is_no_tree; front = (cert_text (header ∷ []), header_due) })

  -- a front of the header was written
  pub header_front : (old new : Option (List ℕ)) → old ≡ Some [] → AddsFront old new (cert_text (header_of (number_of_version version) book ∷ []))
      → (text : List ℕ) × (new ≡ Some text) × IsFrontOfDue book limit order version text
  unfolding header
  header_front old new empty adds =
      let (part, rest, split, bytes) = front_added old new [] (cert_text (header ∷ [])) empty adds in
      (part, bytes, inr (record { begun = no_tree; is = is_no_tree; front = (rest, header_due ∙ split) }))

  -- the search stopped
  module _ (in_cover : Bool) (sink : SinkShown) (waiting : List ℕ) (begun : BegunTree) (is : IsBegunTree (costs_of book) book begun) where
    told_front : (front rest : List Event) → begun_events begun ≡ front ++ rest → TellsAt version in_cover header sink waiting front
        → (text : List ℕ) × (sink.told ≡ Some text) × IsFrontOfDue book limit order version text
    unfolding header
    told_front front rest split tells = (
      tells.taken,
      tells.bytes,
      inr (record {
        begun = begun;
        is = is;
        front = (
          waiting ++ cert_text (lines_behind version front rest),
          ap (λ (due : List Event). event_text version header due) split ∙ more_events version header front rest
              ∙ ap (λ (text : List ℕ). text ++ cert_text (lines_behind version front rest)) tells.text ∙ append_assoc tells.taken waiting (cert_text (lines_behind version front rest)),
        );
      }),
    )

    torn_front : (front : List Event) (next : Event) (later : List Event) → begun_events begun ≡ front ++ next ∷ later → IsTornAt version in_cover header sink front next
        → (text : List ℕ) × (sink.told ≡ Some text) × IsFrontOfDue book limit order version text
    unfolding header
    torn_front front next later split torn = (
      torn.taken,
      torn.bytes,
      inr (record {
        begun = begun;
        is = is;
        front = (
          torn.rest ++ cert_text (lines_behind version (front ++ next ∷ []) later),
          ap (λ (due : List Event). event_text version header due) (split ∙ sym (append_assoc front (next ∷ []) later))
              ∙ more_events version header (front ++ next ∷ []) later
              ∙ ap (λ (text : List ℕ). text ++ cert_text (lines_behind version (front ++ next ∷ []) later)) torn.text
              ∙ append_assoc torn.taken torn.rest (cert_text (lines_behind version (front ++ next ∷ []) later)),
        );
      }),
    )

    cut_front : IsCut (log_over version in_cover header sink waiting) [] (begun_events begun) → (text : List ℕ) × (sink.told ≡ Some text) × IsFrontOfDue book limit order version text
    cut_front cut = elim cut.state [
      | inl tells ↦ told_front cut.front cut.rest cut.split tells
      | inr torn ↦ torn_front cut.front torn.0 torn.1 (cut.split ∙ ap (λ (rest : List Event). cut.front ++ rest) torn.2) torn.3
    ]

    pub cut_front_as : (later : Version) (first : CertLine) → later ≡ version → first ≡ header_of (number_of_version version) book
        → IsCut (log_over later in_cover first sink waiting) [] (begun_events begun) → (text : List ℕ) × (sink.told ≡ Some text) × IsFrontOfDue book limit order version text
    unfolding header
    cut_front_as later first same same_first cut =
        cut_front (subst (λ (now : Version). IsCut (log_over now in_cover header sink waiting) [] (begun_events begun)) same
        (subst (λ (one : CertLine). IsCut (log_over later in_cover one sink waiting) [] (begun_events begun)) same_first cut))

  -- the search ended
  module _ (sound : IsBook book) (law : SearchTreesAreAccepted) (outcome : Outcome) (nodes : List Node) (is : IsTreeIn order (costs_of book) book limit outcome nodes)
      (in_cover : Bool) (old new : SinkShown) (waiting : List ℕ) (tells : TellsAt version in_cover (header_of (number_of_version version) book) old waiting (events_of nodes)) where
    trailer : List ℕ
    trailer = cert_text (trailer_lines (activities book) outcome)

    whole : List ℕ
    whole = tells.taken ++ (waiting ++ trailer)

    whole_is : whole ≡ search_text version book (events_of nodes) outcome
    unfolding whole trailer
    whole_is = sym (text_append (header_of (number_of_version version) book ∷ event_lines version (events_of nodes)) (trailer_lines (activities book) outcome)
        ∙ ap (λ (text : List ℕ). text ++ trailer) tells.text ∙ append_assoc tells.taken waiting trailer)

    whole_certificate : IsCertificateOf book limit order version outcome whole
    whole_certificate = record {
      nodes = nodes;
      is = is;
      spelled = whole_is;
      accepted = rw whole_is (law book sound limit order version outcome nodes is tells.spelled);
    }

    pub written : Adds old.told new.told (waiting ++ cert_text (trailer_lines (activities book) outcome)) → (text : List ℕ) × (new.told ≡ Some text) × IsCertificateOf book limit order version outcome text
    unfolding whole trailer
    written adds = (whole, added old.told new.told tells.taken (waiting ++ trailer) tells.bytes adds, whole_certificate)

    pub written_front : AddsFront old.told new.told (waiting ++ cert_text (trailer_lines (activities book) outcome))
        → (text : List ℕ) × (new.told ≡ Some text) × IsFrontOfDue book limit order version text
    unfolding whole trailer
    written_front adds =
        let (part, rest, split, bytes) = front_added old.told new.told tells.taken (waiting ++ trailer) tells.bytes adds in (
          tells.taken ++ part,
          bytes,
          inl (record {
            outcome = outcome;
            whole = whole;
            is = whole_certificate;
            front = (rest, ap (λ (piece : List ℕ). tells.taken ++ piece) split ∙ sym (append_assoc tells.taken part rest));
          }),
        )
