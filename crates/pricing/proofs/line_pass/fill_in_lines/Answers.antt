use Rattle.std.proofs.Common.{◌≡◌, ◌∙◌, ◌<◌, ℕ, ℤ, List, w64, to_z, of_z, FitsSigned, rules, arith, ap, length, get_or, subst, sym}
use Rattle.std.specs.Vec.{with_items}
use Rattle.std.proofs.lemmas.Int.{to_z-of_z}
use Rattle.std.proofs.lemmas.List.{get_or_default, with_items_is}
use Rattle.tail_book.specs.Lookup.{start_of}
use Rattle.pricing.specs.declared.airport.AirportLines.{AirportLines}
use Rattle.pricing.specs.declared.stand.Stand.{Stand}
use Rattle.pricing.specs.declared.window.Window.{Window}
use Rattle.pricing.specs.inside.Airports.{stand_at}
use Rattle.pricing.specs.inside.Waiting.{AreEntered, IsWaiting}
use Rattle.pricing.proofs.Busy.{airports_with, are_busy_stay, busy_later, busy_with, turn_forward}
use Rattle.pricing.proofs.line_pass.fill_in_lines.Goals as goal

pub fill_open-requires-clause-waiting : goal.fill_open-requires-clause-waiting
fill_open-requires-clause-waiting c =
    let book = c.args.asked.now.book.now in
    let marks = c.args.asked.now.marks.now.facts in
    let store = c.args.store.now in
    let port = c.port_of-port.result in
    let airport = get_or c.args.airports.now port c.index-airports-port.result in
    let start = start_of book c.args.b in
    let inside : port < length c.args.airports.now = search rules in
    let fits_turn : FitsSigned w64 c.turn_at.result = search rules in
    let fits_start : FitsSigned w64 c.start_of.result = search rules in
    let turn = to_z-of_z w64 c.turn_at.result fits_turn ∙ c.turn_at.ensures.value in
    let moment = to_z-of_z w64 c.start_of.result fits_start ∙ c.start_of.ensures.value in
    let here = busy_later book marks c.args.asked.now.k c.args.floor port c.args.before start store airport c.requires.earlier (c.requires.busy port c.index-airports-port.result inside) in
    subst (λ (ws : List Window). IsWaiting book marks (record { port = port; floor = c.args.floor; turn = to_z w64 (of_z w64 c.turn_at.result); moment = to_z w64 (of_z w64 c.start_of.result) }) ws store airport.waiting)
    (sym c.deref.ensures.value)
    (subst (λ (t : ℤ). IsWaiting book marks (record { port = port; floor = c.args.floor; turn = t; moment = to_z w64 (of_z w64 c.start_of.result) }) airport.windows.items store airport.waiting) (sym turn)
    (subst (λ (m : ℤ). IsWaiting book marks (record { port = port; floor = c.args.floor; turn = (stand_at book c.args.asked.now.k c.args.floor start port).turn; moment = m }) airport.windows.items store airport.waiting) (sym moment)
    here.waiting))

pub fill_open-requires-clause-entered : goal.fill_open-requires-clause-entered
fill_open-requires-clause-entered c =
    let book = c.args.asked.now.book.now in
    let marks = c.args.asked.now.marks.now.facts in
    let store = c.args.store.now in
    let port = c.port_of-port.result in
    let airport = get_or c.args.airports.now port c.index-airports-port.result in
    let start = start_of book c.args.b in
    let inside : port < length c.args.airports.now = search rules in
    let fits_turn : FitsSigned w64 c.turn_at.result = search rules in
    let fits_start : FitsSigned w64 c.start_of.result = search rules in
    let turn = to_z-of_z w64 c.turn_at.result fits_turn ∙ c.turn_at.ensures.value in
    let moment = to_z-of_z w64 c.start_of.result fits_start ∙ c.start_of.ensures.value in
    let here = busy_later book marks c.args.asked.now.k c.args.floor port c.args.before start store airport c.requires.earlier (c.requires.busy port c.index-airports-port.result inside) in
    let stand : Stand = record { port = port; floor = c.args.floor; turn = to_z w64 (of_z w64 c.turn_at.result); moment = to_z w64 (of_z w64 c.start_of.result) } in
    subst (λ (ws : List Window). AreEntered book marks stand ws c.deref-2.result.now store airport.waiting c.deref_mut.result.now) (sym c.deref.ensures.value)
    (subst (λ (fs : List ℕ). AreEntered book marks stand airport.windows.items fs store airport.waiting c.deref_mut.result.now) (sym c.deref-2.ensures.value)
    (subst (λ (es : List ℕ). AreEntered book marks stand airport.windows.items airport.flights.items store airport.waiting es) (sym c.deref_mut.ensures.value)
    (subst (λ (t : ℤ). AreEntered book marks (record { port = port; floor = c.args.floor; turn = t; moment = to_z w64 (of_z w64 c.start_of.result) }) airport.windows.items airport.flights.items store airport.waiting airport.entered.items) (sym turn)
    (subst (λ (m : ℤ). AreEntered book marks (record { port = port; floor = c.args.floor; turn = (stand_at book c.args.asked.now.k c.args.floor start port).turn; moment = m }) airport.windows.items airport.flights.items store airport.waiting airport.entered.items) (sym moment)
    here.entered))))

-- only what waits at the airport has changed
pub returns-in_err-fill_open-clause-airports : goal.returns-in_err-fill_open-clause-airports
returns-in_err-fill_open-clause-airports c =
    let port = c.port_of-port.result in
    let inside : port < length c.args.airports.now = search rules in
    let airport = get_or c.args.airports.now port c.index-airports-port.result in
    let one : AirportLines = record { flights = airport.flights; grounds = airport.grounds; windows = airport.windows; entered = with_items airport.entered c.fill_open.new.entered; waiting = c.fill_open.new.waiting } in
    let count : length c.fill_open.new.entered ≡ length airport.entered.items = c.fill_open.ensures.count ∙ ap (λ (es : List ℕ). length es) c.deref_mut.ensures.value in
    let size = airport.entered.ok.0 in
    let full : (with_items airport.entered c.fill_open.new.entered).items ≡ c.fill_open.new.entered = with_items_is airport.entered c.fill_open.new.entered (omega (arith, count, size)) in
    airports_with c.args.asked.now.table.now.bands c.args.asked.now.book.now c.args.airports.now port one c.requires.airports inside (λ d.
    record {
      flights = ap (λ (a : AirportLines). a.flights.items) (get_or_default c.args.airports.now port c.index-airports-port.result d inside);
      grounds = ap (λ (a : AirportLines). a.grounds.items) (get_or_default c.args.airports.now port c.index-airports-port.result d inside);
      windows = ap (λ (a : AirportLines). a.windows.items) (get_or_default c.args.airports.now port c.index-airports-port.result d inside);
      width = c.fill_open.ensures.roomy.width ∙ ap (λ (a : AirportLines). a.waiting.keys.width) (get_or_default c.args.airports.now port c.index-airports-port.result d inside);
      nodes = c.fill_open.ensures.roomy.nodes ∙ ap (λ (a : AirportLines). length a.waiting.keys.buckets) (get_or_default c.args.airports.now port c.index-airports-port.result d inside);
      count = ap (λ (es : List ℕ). length es) full ∙ count ∙ ap (λ (a : AirportLines). length a.entered.items) (get_or_default c.args.airports.now port c.index-airports-port.result d inside);
    })

pub returns-clause-airports : goal.returns-clause-airports
returns-clause-airports c =
    let port = c.port_of-port.result in
    let inside : port < length c.args.airports.now = search rules in
    let airport = get_or c.args.airports.now port c.index-airports-port.result in
    let one : AirportLines = record { flights = airport.flights; grounds = airport.grounds; windows = airport.windows; entered = with_items airport.entered c.fill_open.new.entered; waiting = c.fill_open.new.waiting } in
    let count : length c.fill_open.new.entered ≡ length airport.entered.items = c.fill_open.ensures.count ∙ ap (λ (es : List ℕ). length es) c.deref_mut.ensures.value in
    let size = airport.entered.ok.0 in
    let full : (with_items airport.entered c.fill_open.new.entered).items ≡ c.fill_open.new.entered = with_items_is airport.entered c.fill_open.new.entered (omega (arith, count, size)) in
    airports_with c.args.asked.now.table.now.bands c.args.asked.now.book.now c.args.airports.now port one c.requires.airports inside (λ d.
    record {
      flights = ap (λ (a : AirportLines). a.flights.items) (get_or_default c.args.airports.now port c.index-airports-port.result d inside);
      grounds = ap (λ (a : AirportLines). a.grounds.items) (get_or_default c.args.airports.now port c.index-airports-port.result d inside);
      windows = ap (λ (a : AirportLines). a.windows.items) (get_or_default c.args.airports.now port c.index-airports-port.result d inside);
      width = c.fill_open.ensures.roomy.width ∙ ap (λ (a : AirportLines). a.waiting.keys.width) (get_or_default c.args.airports.now port c.index-airports-port.result d inside);
      nodes = c.fill_open.ensures.roomy.nodes ∙ ap (λ (a : AirportLines). length a.waiting.keys.buckets) (get_or_default c.args.airports.now port c.index-airports-port.result d inside);
      count = ap (λ (es : List ℕ). length es) full ∙ count ∙ ap (λ (a : AirportLines). length a.entered.items) (get_or_default c.args.airports.now port c.index-airports-port.result d inside);
    })

-- the others are busy as before, and this one is
pub returns-clause-busy : goal.returns-clause-busy
returns-clause-busy c =
    let book = c.args.asked.now.book.now in
    let marks = c.args.asked.now.marks.now.facts in
    let store = c.fill_open.new.store in
    let port = c.port_of-port.result in
    let airport = get_or c.args.airports.now port c.index-airports-port.result in
    let start = start_of book c.args.b in
    let inside : port < length c.args.airports.now = search rules in
    let fits_turn : FitsSigned w64 c.turn_at.result = search rules in
    let fits_start : FitsSigned w64 c.start_of.result = search rules in
    let turn = to_z-of_z w64 c.turn_at.result fits_turn ∙ c.turn_at.ensures.value in
    let moment = to_z-of_z w64 c.start_of.result fits_start ∙ c.start_of.ensures.value in
    let stand : Stand = record { port = port; floor = c.args.floor; turn = to_z w64 (of_z w64 c.turn_at.result); moment = to_z w64 (of_z w64 c.start_of.result) } in
    let waiting = subst (λ (ws : List Window). IsWaiting book marks stand ws store c.fill_open.new.waiting) c.deref.ensures.value c.in_ok-fill_open.ensures.waiting in
    let entered = subst (λ (ws : List Window). AreEntered book marks stand ws airport.flights.items store c.fill_open.new.waiting c.fill_open.new.entered) c.deref.ensures.value
    (subst (λ (fs : List ℕ). AreEntered book marks stand c.deref.result.now fs store c.fill_open.new.waiting c.fill_open.new.entered) c.deref-2.ensures.value c.in_ok-fill_open.ensures.entered) in
    let one : AirportLines = record { flights = airport.flights; grounds = airport.grounds; windows = airport.windows; entered = with_items airport.entered c.fill_open.new.entered; waiting = c.fill_open.new.waiting } in
    let count : length c.fill_open.new.entered ≡ length airport.entered.items = c.fill_open.ensures.count ∙ ap (λ (es : List ℕ). length es) c.deref_mut.ensures.value in
    let size = airport.entered.ok.0 in
    let full : (with_items airport.entered c.fill_open.new.entered).items ≡ c.fill_open.new.entered = with_items_is airport.entered c.fill_open.new.entered (omega (arith, count, size)) in
    busy_with book marks c.args.asked.now.k c.args.floor start store c.args.airports.now port one inside
    (are_busy_stay book c.every_book_is_sound.ensures marks c.args.asked.now.k c.args.floor (turn_forward book c.every_book_is_sound.ensures c.args.asked.now.k c.requires.asked.aircraft) c.args.b c.requires.activity
    c.args.before c.requires.earlier c.args.store.now store c.every_store_is_sound.ensures c.requires.state.nodes c.in_ok-fill_open.ensures.grows c.args.airports.now c.requires.busy)
    (record {
      waiting = subst (λ (m : ℤ). IsWaiting book marks (record { port = port; floor = c.args.floor; turn = (stand_at book c.args.asked.now.k c.args.floor start port).turn; moment = m }) airport.windows.items store c.fill_open.new.waiting) moment
          (subst (λ (t : ℤ). IsWaiting book marks (record { port = port; floor = c.args.floor; turn = t; moment = to_z w64 (of_z w64 c.start_of.result) }) airport.windows.items store c.fill_open.new.waiting) turn waiting);
      entered = subst (λ (es : List ℕ). AreEntered book marks (stand_at book c.args.asked.now.k c.args.floor start port) airport.windows.items airport.flights.items store c.fill_open.new.waiting es) (sym full)
          (subst (λ (m : ℤ). AreEntered book marks (record { port = port; floor = c.args.floor; turn = (stand_at book c.args.asked.now.k c.args.floor start port).turn; moment = m }) airport.windows.items airport.flights.items store c.fill_open.new.waiting c.fill_open.new.entered) moment
          (subst (λ (t : ℤ). AreEntered book marks (record { port = port; floor = c.args.floor; turn = t; moment = to_z w64 (of_z w64 c.start_of.result) }) airport.windows.items airport.flights.items store c.fill_open.new.waiting c.fill_open.new.entered) turn entered));
    })
