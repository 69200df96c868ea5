use Rattle.std.proofs.Common.{◌≡◌, ◌≤ℤ◌, ◌<◌, ◌+◌, ◌∙◌, ℕ, ℤ, List, rules, arith, length, subst, sym, inl, inr, to_z, of_z, w64, FitsSigned, ◌≤◌}
use Rattle.std.proofs.lemmas.Int.{to_z-of_z}
use Rattle.tail_book.specs.Lookup.{activities, start_of}
use Rattle.pricing.specs.declared.airport.AirportLines.{AirportLines}
use Rattle.pricing.specs.inside.Airports.{AreAirports, AreBusy}
use Rattle.pricing.proofs.Busy.{alike_airports, fresh_are_busy, starts_rise}
use Rattle.label_store.proofs.Growing.{wide_trans}
use Rattle.pricing.proofs.Filling.{filled_one_more}
use Rattle.pricing.proofs.line_pass.fill_lines.Goals as goal

-- one bucket more is done
pub loop-b-preserved : goal.loop-b-preserved
loop-b-preserved c =
    let inv = c.loop-b.invariant in
    let book = c.args.asked.now.book.now in
    let marks = c.args.asked.now.marks.now.facts in
    let bands = c.args.asked.now.table.now.bands in
    let b = c.loop-b.b in
    let few : b < activities book = search rules in
    let node : b < length c.loop-b.store.buckets = omega (arith, few, inv.wide.nodes, c.requires.state.nodes) in
    let long : length c.fill_at.new.row ≡ length c.args.row.now = search rules in
    let old = c.fill_at.new.airports in
    let new = c.pass_must-floor.new.airports in
    let airports : AreAirports bands book new = alike_airports bands book old new c.pass_must-floor.ensures.alike c.in_ok-fill_at.ensures.airports in
    let busy : AreBusy book marks c.args.asked.now.k c.pass_must-floor.result (start_of book b) c.fill_at.new.store new = elim c.pass_must-floor.ensures.lines [
      | inl same ↦ subst (λ (all : List AirportLines). AreBusy book marks c.args.asked.now.k c.pass_must-floor.result (start_of book b) c.fill_at.new.store all) (sym same.1)
          (subst (λ (f : ℕ). AreBusy book marks c.args.asked.now.k f (start_of book b) c.fill_at.new.store old) (sym same.0) c.in_ok-fill_at.ensures.busy)
      | inr fresh ↦ fresh_are_busy bands book marks c.args.asked.now.k c.pass_must-floor.result (start_of book b) c.fill_at.new.store new airports fresh
    ] in
    let fits : FitsSigned w64 c.start_of-before.result = search rules in
    let moment : to_z w64 (of_z w64 c.start_of-before.result) ≡ start_of book b = to_z-of_z w64 c.start_of-before.result fits ∙ c.start_of-before.ensures.value in
    record {
      state = c.in_ok-fill_at.ensures.state;
      wide = wide_trans c.args.store.now c.loop-b.store c.fill_at.new.store inv.wide c.in_ok-fill_at.ensures.wide;
      filled = filled_one_more c.args.asked.now.table.now book marks c.args.asked.now.k c.args.asked.now.duals.now.values c.loop-b.store c.fill_at.new.store b
          c.every_store_is_sound.ensures node c.in_ok-fill_at.ensures.grows inv.filled c.in_ok-fill_at.ensures.filled;
      airports = airports;
      busy = subst (λ (m : ℤ). AreBusy book marks c.args.asked.now.k c.pass_must-floor.result m c.fill_at.new.store new) (sym moment) busy;
      earlier = λ lt. subst (λ (m : ℤ). m ≤ℤ start_of book (b + 1)) (sym moment) (starts_rise book c.every_book_is_sound.ensures b (b + 1) (omega arith) lt);
      floor = c.pass_must-floor.ensures.floor;
      row = long;
    }

-- all are done
pub returns-clause-filled : goal.returns-clause-filled
returns-clause-filled c =
    let done : activities c.args.asked.now.book.now ≤ c.loop-b.b = search rules in
    λ b lt. c.loop-b.invariant.filled b (omega (arith, lt, done))
