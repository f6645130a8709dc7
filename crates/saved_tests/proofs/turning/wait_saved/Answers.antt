use Rattle.std.proofs.Common.{ℕ, Bool, ap}
use Rattle.conversations.specs.declared.pausing.Patience.{Patience}
use Rattle.lane_controls.specs.declared.test_plan.TestPlan.{TestPlan}
use Rattle.saved_tests.proofs.turning.wait_saved.Goals as goal

abbrev Topic : Type 0
Topic = ℕ × (Patience × (Bool × TestPlan))

pub returns : goal.returns
returns c =
    let topic = c.waited.ensures.topic in (
      c.waited.new.self,
      record {
        same = record {
          plan = ap (λ (t : Topic). t.1.1.1) topic;
          doubts = ap (λ (t : Topic). t.1.1.0) topic;
          patience = ap (λ (t : Topic). t.1.0) topic;
          limit = ap (λ (t : Topic). t.0) topic;
        };
        told = c.waited.ensures.told;
      },
      c.save.ensures,
    )
