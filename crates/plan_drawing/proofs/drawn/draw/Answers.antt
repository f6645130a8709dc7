use Rattle.plan_drawing.proofs.drawn.draw.Goals as goal

pub returns : goal.returns
returns c =
    let solution = c.solve.new.self in
    let certified = c.solve.ensures.certified in
    record {
      paths = solution.plan;
      table = solution.gains;
      first = certified.first;
      rising = certified.rising;
      gains = c.solve.ensures.gains;
      drawn = c.in_ok-text.ensures;
      some = c.has_paths.ensures;
    }
