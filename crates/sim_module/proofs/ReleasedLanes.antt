-- Nothing of its own path holds down a lane of a kept path once its DPDeinit bit is clear.
use Rattle.std.proofs.Common.{◌≡◌, ℕ, Bool, true, refl, sym, subst, ◌∙◌}
use Rattle.bus_model.specs.Keeping.{IsKeptInTime}
use Rattle.bus_model.specs.ScriptedBus.{script_rules}
use Rattle.bus_model.proofs.Histories.{AnyPin, after_reverse, steps_keep}
use Rattle.field_tables.specs.LaneSets.{Lanes, byte_of}
use Rattle.control_sets.specs.HostPaths.{agree}
use Rattle.control_sets.specs.PlanLanes.{is_taken, lanes_outside}
use Rattle.sim_module.specs.Lanes.{lane_at}
use Rattle.sim_module.specs.Modules.{conduct}
use Rattle.sim_module.specs.ReleasedLanes.{KeptLanesAreReleased}
use Rattle.sim_module.proofs.ActiveLaw.{State, left}
use Rattle.sim_module.proofs.DeinitBits.{kept_bits_are_clear}
use Rattle.sim_module.proofs.KeptLanes.{IsClear, StaysApart, apart_tick, down_as}
use Rattle.sim_module.proofs.KeptPathLanes.{begins_apart, kept_lane, mask_outside, of_path}
use Rattle.sim_module.proofs.KeptStores.{apart_pin, apart_survives}
use Rattle.sim_module.proofs.ProvisioningKeeps.{each_keeps}

pub kept_lanes_are_released : KeptLanesAreReleased
kept_lanes_are_released old new history advert kept control active answer rest quiet each ran outcome accepts lane within taken =
    let sim = old.state.1 in
    let byte : ℕ = (lane_at sim lane).active in
    let lanes : Lanes = lanes_outside advert kept in
    let path = of_path advert kept active each lane within taken in
    let is_kept : ℕ → Bool = agree active lane in
    let one = kept_lane active lane byte within sim rest refl (λ other. is_taken advert kept other ≡ true) path in
    let Alone = StaysApart is_kept lane byte in
    let begins : Alone sim = begins_apart active lane byte within sim rest refl (λ other there agreed. quiet other there (path.others other there agreed)) in
    let time : IsKeptInTime conduct AnyPin Alone = record { tick = apart_tick is_kept lane byte one; low_power_pin = λ sim on allowed alone. apart_pin is_kept lane byte one sim on alone } in
    let survives = apart_survives is_kept lane byte one (byte_of lanes) (λ other there agreed. mask_outside advert kept other there (path.others other there agreed)) in
    let last : Alone (left old.state history).1 = steps_keep conduct Alone time history (each_keeps control lanes Alone survives history outcome.shape) old.state begins in
    let alone : Alone new.state.1 = subst (λ (s : State). Alone s.1) (sym (ran.state ∙ after_reverse (script_rules conduct) old.state history)) last in
    let clear : IsClear is_kept new.state.1 =
    λ other there agreed. kept_bits_are_clear old new history advert kept control answer ran outcome accepts other there (path.others other there agreed) in
    down_as is_kept lane byte one new.state.1 alone clear
