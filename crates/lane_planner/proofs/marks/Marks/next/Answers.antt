use Rattle.std.proofs.Common.{ℕ, List, ap, ◌∙◌, arith}
use Rattle.lane_planner.specs.Marks.{is_marked}
use Rattle.lane_planner.proofs.MarkBits.{none_in_byte}
use Rattle.lane_planner.proofs.marks.Marks.next.Goals as goal

pub returns-then-byte-eq0-clause-none : goal.returns-then-byte-eq0-clause-none
returns-then-byte-eq0-clause-none c = λ other past low marked.
    none_in_byte c.self.inside.bytes c.args.place other c.if-byte-eq0.true (omega (arith, past, low)) (ap (λ (marks : List ℕ). is_marked marks other) c.self.view_is ∙ marked)
