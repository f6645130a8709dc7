-- What a link is tested for, and which bits of page 13h a test switches for it, in this order. (docs/lanes.md, "From C and Python";
-- OIF-CMIS-05.0, Module Performance Diagnostics Control, page 13h)
use Rattle.std.specs.Prelude.{ℕ, ◌+◌, ◌-◌, ◌*◌, ◌==◌, ◌&&◌, ◌||◌, nat_le, nat_lt, Bool, List, [], ◌∷◌, ◌++◌, if◌then◌else◌}
use Rattle.std.specs.Int.{bit_at}
use Rattle.lane_controls.specs.declared.control.Control.{Control}
use Rattle.lane_controls.specs.declared.control.Control.TheVariants.{Enable, Pattern, Measurement}
use Rattle.lane_controls.specs.declared.control.Control.TheVariants as control
use Rattle.lane_controls.specs.declared.control.LanePair.TheVariants.{First, Second, Third, Fourth}
use Rattle.lane_controls.specs.declared.control.PatternUnit.{PatternUnit}
use Rattle.lane_controls.specs.declared.control.PatternUnit.TheVariants.{HostGenerator, MediaGenerator, HostChecker, MediaChecker}
use Rattle.lane_controls.specs.declared.test_plan.Switch.{Switch}
use Rattle.lane_controls.specs.declared.test_plan.TestPlan.{TestPlan}
use Rattle.saved_tests.specs.declared.link_plan.LinkPlan.{LinkPlan}
use Rattle.saved_tests.specs.SavedControls.{loopback_in}
use Rattle.saved_tests.specs.Selections.{is_selection, results_in}

-- 255 for none
abbrev pub is_pattern : ℕ → Bool
is_pattern code = nat_le code 15 || code == 255

abbrev pub is_plan : LinkPlan → Bool
is_plan plan =
    is_selection plan.results && (nat_le plan.gate 7 && (nat_le plan.side 1 && (is_pattern plan.generator && (is_pattern plan.checker && nat_le plan.loopback 4))))

-- ---- switches after others

-- of no bit there is none
abbrev pub with_switch : List Switch → Control → ℕ → ℕ → List Switch
with_switch before control mask bits = if nat_lt 0 mask then before ++ record { control = control; mask = mask; bits = bits } ∷ [] else before

-- all lanes of the loopback are switched on
abbrev pub with_loopback : List Switch → ℕ → ℕ → List Switch
with_loopback before loopback lanes = if nat_lt 0 loopback then with_switch before (control.Loopback (loopback_in (loopback - 1))) lanes lanes else before

abbrev pub half_at : ℕ → ℕ → ℕ → ℕ
half_at lanes i half = if bit_at lanes i == 1 then half else 0

-- the half bytes of two lanes: the lower is of the lower lane
abbrev pub half_mask : ℕ → ℕ → ℕ
half_mask lanes pair = half_at lanes (2 * pair) 15 + half_at lanes (2 * pair + 1) 240

-- the code in each half byte of these lanes
abbrev pub with_patterns : List Switch → PatternUnit → ℕ → ℕ → List Switch
with_patterns before unit code lanes =
    if nat_le code 15 then with_switch (with_switch (with_switch (with_switch before
    (Pattern unit First) (half_mask lanes 0) (17 * code))
    (Pattern unit Second) (half_mask lanes 1) (17 * code))
    (Pattern unit Third) (half_mask lanes 2) (17 * code))
    (Pattern unit Fourth) (half_mask lanes 3) (17 * code)
    else before

abbrev pub with_enable : List Switch → PatternUnit → ℕ → ℕ → List Switch
with_enable before unit code lanes = if nat_le code 15 then with_switch before (Enable unit) lanes lanes else before

-- ---- those of a plan

abbrev pub generator_of : ℕ → PatternUnit
generator_of side = if side == 0 then HostGenerator else MediaGenerator

abbrev pub checker_of : ℕ → PatternUnit
checker_of side = if side == 0 then HostChecker else MediaChecker

-- bits 3 to 1 of the control of measurement are the gate time
abbrev pub with_gate_and_loopback : LinkPlan → List Switch
with_gate_and_loopback plan = with_loopback (with_switch [] Measurement 14 (2 * plan.gate)) plan.loopback plan.looped

abbrev pub with_codes : List Switch → LinkPlan → List Switch
with_codes before plan =
    with_patterns (with_patterns before (generator_of plan.side) plan.generator plan.lanes) (checker_of plan.side) plan.checker plan.lanes

-- first what a pattern is, then that it is made, last that it is checked
abbrev pub switches_of : LinkPlan → List Switch
switches_of plan =
    with_enable (with_enable (with_codes (with_gate_and_loopback plan) plan) (generator_of plan.side) plan.generator plan.lanes)
    (checker_of plan.side) plan.checker plan.lanes

abbrev pub plan_of : LinkPlan → TestPlan
plan_of plan = record {
  switches = record { items = switches_of plan };
  permitted = plan.permitted;
  media_paths = plan.media_paths;
  tries = plan.tries;
  results = results_in plan.results;
  rounds = plan.rounds;
  period = plan.period;
}
