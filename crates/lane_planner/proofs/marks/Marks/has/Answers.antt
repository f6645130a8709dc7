use Rattle.std.proofs.Common.{ℕ, ◌/◌, ◌%◌, List, get_or, nat_eq, ap, ◌∙◌}
use Rattle.std.proofs.lemmas.Nat.Bits.{shr_and_one}
use Rattle.lane_planner.specs.Marks.{is_marked}
use Rattle.lane_planner.proofs.marks.Marks.has.Goals as goal

pub returns : goal.returns
returns c =
    let place = c.args.place in
    ap (λ b. nat_eq b 1) (shr_and_one (get_or c.self.inside.bytes (place / 8) 0) (place % 8)) ∙ ap (λ (marks : List ℕ). is_marked marks place) c.self.view_is
