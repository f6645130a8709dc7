use Rattle.lane_planner.proofs.first.have_same_paths.Goals as goal

pub returns-then-has_all : goal.returns-then-has_all
returns-then-has_all c = (
  (λ is path. (c.has_all-then-has_all.ensures.0 is path, c.has_all.ensures.0 c.if-has_all.true path)),
  (λ same. c.has_all-then-has_all.ensures.1 (λ path. (same path).0)),
)

pub returns-else-has_all : goal.returns-else-has_all
returns-else-has_all c = ((λ is. absurd (let no = c.if-has_all.false in cc)), (λ same. c.has_all.ensures.1 (λ path. (same path).1)))
