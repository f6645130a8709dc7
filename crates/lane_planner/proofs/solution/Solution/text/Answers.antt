use Rattle.std.proofs.Common.{◌∙◌, drop, length, arith}
use Rattle.lane_planner.proofs.PutPieces.{cut_off}
use Rattle.lane_planner.proofs.solution.Solution.text.Goals as goal

pub returns : goal.returns
returns c =
    let put = c.put_at_front-len.ensures in
    let left = drop (length c.put_at_front-len.new.buffer) c.in_ok-text.text.items in
    (c.truncate.ensures.items ∙ cut_off left c.in_ok-text.text.len put.put (omega (arith, c.as_mut_slice.ensures.len, c.in_ok-text.ensures.len, put.small)) (omega (arith, c.in_ok-text.ensures.len, put.small)), put.read_back)
