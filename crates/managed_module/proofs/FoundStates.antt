-- Which state of a data path a read has shown.
use Rattle.std.proofs.Common.{◌≡◌, ℕ, ◌||◌, ◌==◌, not, Bool, true, false, List, Option, Some, None, refl, sym, ◌∙◌, arith}
use Rattle.std.specs.FinSet as set
use Rattle.std.proofs.lemmas.Bool.{eqb-true}
use Rattle.field_tables.specs.LaneSets.{IsLane, Lanes}
use Rattle.field_tables.proofs.TrueTests.{in_range}
use Rattle.datapath_states.specs.StateCodes.{code_of}
use Rattle.datapath_states.specs.declared.state.PathState.{PathState}
use Rattle.datapath_states.specs.declared.state.PathState.TheVariants as path_is
use Rattle.control_sets.specs.declared.procedures.judgement.ReplyJudgement.TheVariants.{Met}
use Rattle.control_sets.specs.Judgements.{all_lanes_have, at_lane, is_reserved_state, judged_states, lowest_lane, met_if, unless_reserved}
use Rattle.sim_module.specs.declared.module.SimModule.{SimModule}
use Rattle.sim_module.specs.Lanes.{lane_at}
use Rattle.sim_liveness.proofs.ReadStates.{path_shown, shown_codes}

pub has_it : (a b : Bool) → (not a || b) ≡ true → a ≡ true → b ≡ true
has_it true b e on = e
has_it false b e on = absurd cc

-- a lane of the set has the code that all of them have
pub code_had : (code : ℕ) (codes : List ℕ) (lanes : Lanes) (lane : ℕ) → IsLane lane → set.contains lanes lane ≡ true → all_lanes_have code lanes codes ≡ true → at_lane codes lane ≡ code
code_had code codes lanes lane (from, to) inside all =
    eqb-true (at_lane codes lane) code (has_it (set.contains lanes lane) (at_lane codes lane == code) (in_range (λ lane. not (set.contains lanes lane) || at_lane codes lane == code) 1 8 lane all from (omega (arith, to))) inside)

met_by : (codes : List ℕ) (found : Option ℕ) (has : Bool) → unless_reserved codes found (met_if has) ≡ Met → has ≡ true
met_by codes None true e = refl
met_by codes None false e = absurd cc
met_by codes (Some lane) has e = absurd cc

activated_by : (path : PathState) → code_of path ≡ 4 → path ≡ path_is.Activated
activated_by path_is.Deactivated e = absurd (omega (arith, e))
activated_by path_is.Init e = absurd (omega (arith, e))
activated_by path_is.Deinit e = absurd (omega (arith, e))
activated_by path_is.Activated e = refl
activated_by path_is.TxTurnOn e = absurd (omega (arith, e))
activated_by path_is.TxTurnOff e = absurd (omega (arith, e))
activated_by path_is.Initialized e = absurd (omega (arith, e))

-- where lanes are awaited as activated, and the wait is over, each of them is
pub found_up : (sim : SimModule) (looked lanes : Lanes) (lane : ℕ) → IsLane lane → set.contains lanes lane ≡ true → judged_states looked lanes path_is.Activated (shown_codes sim) ≡ Met → (lane_at sim lane).path ≡ path_is.Activated
found_up sim looked lanes lane within inside met =
    let all = met_by (shown_codes sim) (lowest_lane is_reserved_state looked (shown_codes sim)) (all_lanes_have (code_of path_is.Activated) lanes (shown_codes sim)) met in
    activated_by (lane_at sim lane).path (sym (path_shown sim lane within) ∙ code_had (code_of path_is.Activated) (shown_codes sim) lanes lane within inside all)
