use Rattle.fullest_plan.proofs.route_seeker.RouteSeeker.new.Goals as goal

-- the search stays one of the book, however wary it is
pub returns : goal.returns
returns c =
    let search = c.in_ok-search.ensures in
    record {
      table = c.in_ok-table.ensures;
      net = c.in_ok-net.ensures;
      marks = c.in_ok-marks.ensures.marks;
      search = record { steps = search.steps; added = search.added; behind = search.behind; row = search.row; nodes = search.nodes; width = search.width };
    }
