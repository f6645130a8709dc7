use Rattle.std.proofs.Common.{ℕ, ◌||◌, List, nat_eq, ap, ◌∙◌, arith}
use Rattle.lane_planner.specs.Marks.{is_marked}
use Rattle.lane_planner.proofs.MarkBits.{set_at}
use Rattle.lane_planner.proofs.marks.Marks.mark.Goals as goal

pub returns : goal.returns
returns c = λ other. set_at c.self.inside.bytes c.args.place other (omega (arith, c.self.invariant, c.requires)) ∙ ap (λ (marks : List ℕ). nat_eq other c.args.place || is_marked marks other) c.self.view_is
