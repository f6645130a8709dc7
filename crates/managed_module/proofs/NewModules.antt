-- A new module is steady.
use Rattle.std.proofs.Common.{◌≡◌, ℕ, ◌<◌, Bool, true, false, None, get_or, ap, if◌then◌else◌, arith}
use Rattle.std.specs.FinMap as finmap
use Rattle.std.proofs.lemmas.Bool.{not-false}
use Rattle.std.proofs.lemmas.List.FromFn.{length-map-range_with_len}
use Rattle.bus_model.specs.declared.device.Dev.TheVariants.{A0}
use Rattle.field_tables.specs.Halves.{is_absent}
use Rattle.field_tables.specs.declared.field.Register.TheVariants as registers
use Rattle.module_states.specs.declared.state.ModuleState.TheVariants as module_is
use Rattle.paged_memory.specs.Images.{Memory}
use Rattle.paged_memory.specs.Keys.{lower_key, upper_key}
use Rattle.paged_memory.specs.declared.key.Key.{Key}
use Rattle.control_sets.proofs.Finding.{absent}
use Rattle.sim_module.specs.declared.delays.Delays.{Delays}
use Rattle.sim_module.specs.declared.lane.Lane.{Lane}
use Rattle.sim_module.specs.Down.{asks_low_power}
use Rattle.sim_module.specs.Lanes.{is_in_progress}
use Rattle.sim_module.specs.Starts.{absent_half, byte_of_register, needed_halves, start, start_lane}
use Rattle.sim_module.proofs.LanesInTime.{made_lane}
use Rattle.sim_liveness.specs.Timing.{HaveTime}
use Rattle.sim_liveness.proofs.CountersRun.{new_counters_run}
use Rattle.managed_module.specs.Bounds.{IsAsleep, IsSteady, NewIsSteady}
use Rattle.managed_module.specs.Managed.{HasHalves}

has_half : (memory : Memory) (key : Key) → is_absent memory key ≡ false → finmap.contains_key memory key ≡ true
has_half memory key there = not-false (finmap.contains_key memory key) there

new_halves : (memory : Memory) (delays : Delays) → absent_half memory ≡ None → HasHalves (start memory delays)
unfolding start
new_halves memory delays none =
    let there : (k : ℕ) → k < 5 → is_absent memory (get_or needed_halves k (lower_key A0)) ≡ false = λ k below. absent (is_absent memory) needed_halves k (lower_key A0) none below in
    record {
      lower = has_half memory (lower_key A0) (there 0 (omega arith));
      first = has_half memory (upper_key A0 0 0x00) (there 1 (omega arith));
      control = has_half memory (upper_key A0 0 0x10) (there 3 (omega arith));
      status = has_half memory (upper_key A0 0 0x11) (there 4 (omega arith));
      selected = has_half memory (upper_key A0 0 0x00) (there 1 (omega arith));
    }

asleep_if : (low : Bool) → low ≡ true → IsAsleep (if low then module_is.LowPwr else module_is.Ready)
asleep_if true e = tt
asleep_if false e = absurd cc

new_steady : (most : ℕ) (memory : Memory) (delays : Delays) → HaveTime most delays → IsSteady most (start memory delays)
unfolding start
new_steady most memory delays time = record {
  eight = length-map-range_with_len (start_lane memory) 1 8;
  counters = new_counters_run most memory delays time;
  none = λ lane within. ap (λ (l : Lane). l.applying) (made_lane (start_lane memory) lane within);
  quiet = λ lane within. ap is_in_progress (made_lane (start_lane memory) lane within);
  power = λ low. asleep_if (asks_low_power (byte_of_register memory registers.GlobalControls 0) false) low;
}

pub new_is_steady : NewIsSteady
new_is_steady most memory delays time none = (new_halves memory delays none, new_steady most memory delays time)
