-- A module in which no apply is in progress stays so, whatever is done but an apply.
use Rattle.std.proofs.Common.{◌≡◌, ℕ, zero, suc, ◌+◌, ◌-◌, ◌≤◌, Bool, true, false, List, [], ◌∷◌, get_or, length, refl, sym, ap, subst, ◌∙◌, ◌==◌, if◌then◌else◌, arith}
use Rattle.std.proofs.lemmas.Bool.Decides.{nat_tests}
use Rattle.std.proofs.lemmas.List.FromFn.{length-map-range_with_len}
use Rattle.std.proofs.Math.ListN.{length-set}
use Rattle.bus_model.specs.declared.operation.Op.{Op}
use Rattle.bus_model.specs.declared.operation.Op.TheVariants.{Fetch, Store}
use Rattle.bus_model.specs.ScriptedBus.{passed_on, ticked_times}
use Rattle.field_tables.specs.LaneSets.{Lanes, lanes_in}
use Rattle.field_tables.specs.Registers.{first_byte}
use Rattle.field_tables.specs.declared.field.Register.TheVariants as registers
use Rattle.module_states.specs.declared.state.ModuleState.{ModuleState}
use Rattle.module_states.specs.declared.state.ModuleState.TheVariants as module_is
use Rattle.module_states.specs.Transitions as module_table
use Rattle.datapath_states.specs.declared.status.ConfigStatus.{ConfigStatus}
use Rattle.sim_module.specs.declared.lane.Lane.{Lane}
use Rattle.sim_module.specs.declared.module.SimModule.{SimModule}
use Rattle.sim_module.specs.Applies.{applied}
use Rattle.sim_module.specs.Down.{has_low_power}
use Rattle.sim_module.specs.Lanes.{is_in_progress, lane_at, no_lane}
use Rattle.sim_module.specs.Modules.{conduct}
use Rattle.sim_module.specs.Registers.{is_in}
use Rattle.sim_module.specs.ShownBytes.{is_mapped}
use Rattle.sim_module.specs.Stores.{staged_at, stored_byte, stored_bytes, stored_high, stored_low}
use Rattle.sim_module.specs.Ticks.{all_deactivated, is_last, ticked, ticked_lane}
use Rattle.sim_module.proofs.IdleModule.{Shows, high_test}
use Rattle.sim_module.proofs.HeldLanes.{controls_mapped}
use Rattle.sim_module.proofs.LanesInTime.{settled_lane, ticked_at}
use Rattle.sim_module.proofs.ProvisioningKeeps.{restaged}
use Rattle.sim_module.proofs.SoundModule.{either}
use Rattle.sim_liveness.specs.Timing.{CountersRun}
use Rattle.sim_liveness.proofs.CountersRun.{counters_run}
use Rattle.sim_liveness.proofs.InTime.{module_next, power_is, state_is}
use Rattle.sim_liveness.proofs.LeftAlone.{LeavesIt, power_kept}
use Rattle.managed_module.specs.Bounds.{IsAsleep, IsSteady}

-- ---- what an operation leaves as it is

pub record SameLane (before after : Lane) : Type 0 where
  pub path : after.path ≡ before.path
  pub ticks_left : after.ticks_left ≡ before.ticks_left
  pub status : after.status ≡ before.status
  pub active : after.active ≡ before.active
  pub applying : after.applying ≡ before.applying

-- all but what is staged, and the bits of DPDeinit
pub record Leaves (sim after : SimModule) : Type 0 where
  pub eight : length after.lanes ≡ length sim.lanes
  pub lanes : (lane : ℕ) → SameLane (lane_at sim lane) (lane_at after lane)
  pub state : after.state ≡ sim.state
  pub power : has_low_power after ≡ has_low_power sim

same_itself : (lane : Lane) → SameLane lane lane
same_itself lane = record { path = refl; ticks_left = refl; status = refl; active = refl; applying = refl }

pub leaves_all : (sim after : SimModule) → LeavesIt sim after → Leaves sim after
leaves_all sim after same = record {
  eight = ap (λ (lanes : List Lane). length lanes) same.lanes;
  lanes = λ lane. subst (λ (lanes : List Lane). SameLane (lane_at sim lane) (get_or lanes (lane - 1) no_lane)) (sym same.lanes) (same_itself (lane_at sim lane));
  state = same.state;
  power = power_kept sim after same;
}

leaves_itself : (sim : SimModule) → Leaves sim sim
leaves_itself sim = record { eight = refl; lanes = λ lane. same_itself (lane_at sim lane); state = refl; power = refl }

-- ---- steady

abbrev pub in_progress : Lane → Bool
in_progress lane = is_in_progress lane

asleep_next : (state : ModuleState) (deactivated done : Bool) → IsAsleep state → IsAsleep (module_next state true deactivated done)
unfolding module_table.next_of
asleep_next module_is.LowPwr true true asleep = tt
asleep_next module_is.LowPwr true false asleep = tt
asleep_next module_is.LowPwr false true asleep = tt
asleep_next module_is.LowPwr false false asleep = tt
asleep_next module_is.PwrDn true true asleep = tt
asleep_next module_is.PwrDn true false asleep = tt
asleep_next module_is.PwrDn false true asleep = tt
asleep_next module_is.PwrDn false false asleep = tt
asleep_next module_is.PwrUp deactivated done asleep = absurd asleep
asleep_next module_is.Ready deactivated done asleep = absurd asleep
asleep_next module_is.Fault deactivated done asleep = absurd asleep

pub power_tick : (sim : SimModule) → (has_low_power sim ≡ true → IsAsleep sim.state) → has_low_power (ticked sim) ≡ true → IsAsleep (ticked sim).state
power_tick sim before low =
    let was : has_low_power sim ≡ true = sym (power_is sim) ∙ low in
    subst IsAsleep (sym (state_is sim ∙ ap (λ (low : Bool). module_next sim.state low (all_deactivated sim) (is_last sim.ticks_left)) was))
    (asleep_next sim.state (all_deactivated sim) (is_last sim.ticks_left) (before was))

pub eight_tick : (sim : SimModule) → length (ticked sim).lanes ≡ 8
unfolding ticked
eight_tick sim = length-map-range_with_len (ticked_lane sim) 1 8

module _ (most : ℕ) where
  pub counters_tick : (sim : SimModule) → CountersRun most sim → CountersRun most (ticked sim)
  counters_tick sim run = (counters_run most).time.tick sim run

  pub counters_passed : (op : Op) (sim : SimModule) → CountersRun most sim → CountersRun most (passed_on conduct op sim).1
  counters_passed (Fetch dev address count) sim run = (counters_run most).operations (Fetch dev address count) sim run
  counters_passed (Store dev address bytes) sim run = ((counters_run most).operations (Store dev address bytes)).0 sim run

  pub steady_tick : (sim : SimModule) → IsSteady most sim → IsSteady most (ticked sim)
  steady_tick sim steady = record {
    eight = eight_tick sim;
    counters = counters_tick sim steady.counters;
    none = λ lane within. ap (λ (l : Lane). l.applying) (ticked_at sim lane within ∙ settled_lane sim lane (steady.none lane within)) ∙ steady.none lane within;
    quiet = λ lane within. ap in_progress (ticked_at sim lane within ∙ settled_lane sim lane (steady.none lane within)) ∙ steady.quiet lane within;
    power = power_tick sim steady.power;
  }

  pub steady_paused : (count : ℕ) (sim : SimModule) → IsSteady most sim → IsSteady most (ticked_times conduct count sim)
  steady_paused zero sim steady = steady
  steady_paused (suc count) sim steady = steady_tick (ticked_times conduct count sim) (steady_paused count sim steady)

  steady_as : (sim after : SimModule) → length after.lanes ≡ length sim.lanes → ((lane : ℕ) → SameLane (lane_at sim lane) (lane_at after lane)) → (has_low_power after ≡ true → IsAsleep after.state) → CountersRun most after → IsSteady most sim
      → IsSteady most after
  steady_as sim after eight lanes power run steady = record {
    eight = eight ∙ steady.eight;
    counters = run;
    none = λ lane within. (lanes lane).applying ∙ steady.none lane within;
    quiet = λ lane within. ap (λ (status : ConfigStatus). is_in_progress (record no_lane { status = status })) (lanes lane).status ∙ steady.quiet lane within;
    power = power;
  }

  pub steady_left : (sim after : SimModule) → Leaves sim after → CountersRun most after → IsSteady most sim → IsSteady most after
  steady_left sim after same run steady =
      steady_as sim after same.eight same.lanes (λ low. subst IsAsleep (sym same.state) (steady.power (sym same.power ∙ low))) run steady

  -- low power isn't asked for any more
  pub steady_awake : (sim after : SimModule) → after.lanes ≡ sim.lanes → has_low_power after ≡ false → CountersRun most after → IsSteady most sim → IsSteady most after
  steady_awake sim after same awake run steady =
      steady_as sim after (ap (λ (lanes : List Lane). length lanes) same)
      (λ lane. subst (λ (lanes : List Lane). SameLane (lane_at sim lane) (get_or lanes (lane - 1) no_lane)) (sym same) (same_itself (lane_at sim lane)))
      (λ low. absurd (let wrong : false ≡ true = sym awake ∙ low in cc)) run steady

-- ---- the stores

pub deinit_stored : (sim : SimModule) (bits : ℕ) → Shows 0x10 sim → stored_bytes sim (first_byte registers.DPDeinit) (bits ∷ []) ≡ record sim { deinit = lanes_in bits }
unfolding stored_byte
deinit_stored sim bits shows = ap (λ (on : Bool). if on then record sim { deinit = lanes_in bits } else sim) (controls_mapped sim shows)

pub leaves_deinit : (sim : SimModule) (deinit : Lanes) → Leaves sim (record sim { deinit = deinit })
leaves_deinit sim deinit = record { eight = refl; lanes = λ lane. same_itself (lane_at sim lane); state = refl; power = refl }

pub apply_stored : (sim : SimModule) (bits : ℕ) → Shows 0x10 sim → stored_bytes sim (first_byte registers.ApplyDPInit) (bits ∷ []) ≡ applied sim (lanes_in bits)
unfolding stored_byte
apply_stored sim bits shows = ap (λ (on : Bool). if on then applied sim (lanes_in bits) else sim) (controls_mapped sim shows)

pub not_128 : (address : ℕ) → first_byte registers.StagedControl ≤ address → (address == 128) ≡ false
not_128 address high = grind (arith, nat_tests)

pub not_at_apply : (address : ℕ) → first_byte registers.StagedControl ≤ address → (address == first_byte registers.ApplyDPInit) ≡ false
not_at_apply address high = grind (arith, nat_tests)

module _ (P : SimModule → Type 0) (stages : (sim : SimModule) (lane byte : ℕ) → P sim → P (staged_at sim lane byte)) where
  stage_byte : (sim : SimModule) (address byte : ℕ) → first_byte registers.StagedControl ≤ address → P sim → P (stored_byte sim address byte)
  unfolding stored_byte
  stage_byte sim address byte high p =
      let upper : 128 ≤ address = omega (arith, high) in
      let staged = staged_at sim (address - first_byte registers.StagedControl + 1) byte in
      let rest = if is_in registers.StagedControl address then staged else sim in
      let applies = if address == first_byte registers.ApplyDPInit then applied sim (lanes_in byte) else rest in
      let control : P (stored_high sim address byte) =
      subst (λ (t : Bool). P (if t then record sim { deinit = lanes_in byte } else applies)) (sym (not_128 address high))
      (subst (λ (t : Bool). P (if t then applied sim (lanes_in byte) else rest)) (sym (not_at_apply address high))
      (either P (is_in registers.StagedControl address) staged sim (stages sim (address - first_byte registers.StagedControl + 1) byte p) p)) in
      subst (λ (low : Bool). P (if low then stored_low sim address byte else if is_mapped sim 0x10 then stored_high sim address byte else sim)) (sym (high_test address upper))
      (either P (is_mapped sim 0x10) (stored_high sim address byte) sim control p)

  pub stage_bytes : (sim : SimModule) (address : ℕ) (bytes : List ℕ) → first_byte registers.StagedControl ≤ address → P sim → P (stored_bytes sim address bytes)
  stage_bytes sim address [] high p = p
  stage_bytes sim address (byte ∷ bytes) high p = stage_bytes (stored_byte sim address byte) (address + 1) bytes (omega (arith, high)) (stage_byte sim address byte high p)

leaves_staged : (first sim : SimModule) (lane byte : ℕ) → Leaves first sim → Leaves first (staged_at sim lane byte)
leaves_staged first sim lane byte same = record {
  eight = length-set sim.lanes (lane - 1) (record (lane_at sim lane) { staged = byte }) ∙ same.eight;
  lanes = λ other. record {
    path = restaged (λ (l : Lane). l.path) sim.lanes (lane - 1) (other - 1) byte refl ∙ (same.lanes other).path;
    ticks_left = restaged (λ (l : Lane). l.ticks_left) sim.lanes (lane - 1) (other - 1) byte refl ∙ (same.lanes other).ticks_left;
    status = restaged (λ (l : Lane). l.status) sim.lanes (lane - 1) (other - 1) byte refl ∙ (same.lanes other).status;
    active = restaged (λ (l : Lane). l.active) sim.lanes (lane - 1) (other - 1) byte refl ∙ (same.lanes other).active;
    applying = restaged (λ (l : Lane). l.applying) sim.lanes (lane - 1) (other - 1) byte refl ∙ (same.lanes other).applying;
  };
  state = same.state;
  power = same.power;
}

pub leaves_stage : (sim : SimModule) (bytes : List ℕ) → Leaves sim (stored_bytes sim (first_byte registers.StagedControl) bytes)
leaves_stage sim bytes = stage_bytes (Leaves sim) (leaves_staged sim) sim (first_byte registers.StagedControl) bytes (omega arith) (leaves_itself sim)

-- the byte of global controls
pub controls_stored : (sim : SimModule) (byte : ℕ) → stored_bytes sim (first_byte registers.GlobalControls) (byte ∷ []) ≡ record sim { control = byte }
unfolding stored_byte
controls_stored sim byte = refl
