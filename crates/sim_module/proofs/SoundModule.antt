-- A module stays sound, whatever happens to it.
use Rattle.std.proofs.Common.{◌≡◌, ℕ, zero, suc, ◌+◌, ◌-◌, Bool, true, false, Option, Some, None, is_some, List, [], ◌∷◌, get_or, set, map, take, refl, sym, subst, ◌∙◌, if◌then◌else◌, nat_lt}
use Rattle.std.specs.FinMap as finmap
use Rattle.std.proofs.Math.ListN.{length-set}
use Rattle.std.proofs.lemmas.List.FromFn.{length-map-range_with_len}
use Rattle.bus_model.specs.declared.device.Dev.{Dev}
use Rattle.bus_model.specs.declared.device.Dev.TheVariants.{A0, A2}
use Rattle.field_tables.specs.LaneSets.{Lanes, is_empty, lanes_in}
use Rattle.datapath_states.specs.declared.status.ConfigStatus.TheVariants.{Rejected}
use Rattle.field_tables.specs.declared.field.Register.TheVariants as registers
use Rattle.field_tables.specs.Registers.{first_byte}
use Rattle.sim_module.specs.declared.lane.Lane.{Lane}
use Rattle.sim_module.specs.declared.delays.Delays.{Delays}
use Rattle.sim_module.specs.declared.module.SimModule.{SimModule}
use Rattle.sim_module.specs.Lanes.{lane_at, no_lane, all_lanes}
use Rattle.sim_module.specs.Ticks.{applied_by, applied_lane, is_last, moved_lane, next_path_state, ticked, ticked_lane}
use Rattle.sim_module.specs.Applies.{applied, applied_all, applied_to, begun_lane, dropped_lane, is_applicable}
use Rattle.sim_module.specs.Registers.{is_at, is_from, is_in}
use Rattle.sim_module.specs.ShownBytes.{cleared, fetched, fetched_from, is_mapped}
use Rattle.sim_module.specs.Stores.{staged_at, stored, stored_byte, stored_bytes, stored_high, stored_low}
use Rattle.bus_model.specs.declared.operation.Op.{Op}
use Rattle.bus_model.specs.declared.operation.Op.TheVariants.{Fetch, Store}
use Rattle.bus_model.specs.Keeping.{IsKeptBy}
use Rattle.arrayvec.specs.ArrayVec.{ArrayVec}
use Rattle.sim_module.specs.Modules.{conduct}
use Rattle.sim_module.specs.Soundness.{IsAlwaysKept, IsSound, TellsProgress}
use Rattle.sim_module.specs.Starts.{start, start_lane}
use Rattle.paged_memory.specs.Images.{Memory}

-- each of the lanes that are made one by one
pub made_keeps : {X : Type 0} (P : X → Type 0) (f : ℕ → X) (d : X) → ((n : ℕ) → P (f n)) → P d → (ns : List ℕ) (k : ℕ) → P (get_or (map f ns) k d)
made_keeps P f d each past [] k = past
made_keeps P f d each past (n ∷ ns) zero = each n
made_keeps P f d each past (n ∷ ns) (suc k) = made_keeps P f d each past ns k

pub set_keeps : {X : Type 0} (P : X → Type 0) (xs : List X) (i j : ℕ) (x d : X) → P x → P (get_or xs j d) → P (get_or (set xs i x) j d)
set_keeps P [] i j x d new old = old
set_keeps P (y ∷ ys) zero zero x d new old = new
set_keeps P (y ∷ ys) zero (suc j) x d new old = old
set_keeps P (y ∷ ys) (suc i) zero x d new old = old
set_keeps P (y ∷ ys) (suc i) (suc j) x d new old = set_keeps P ys i j x d new old

-- an if whose outcomes both have a property
pub either : {X : Type 0} (P : X → Type 0) (b : Bool) (x y : X) → P x → P y → P (if b then x else y)
either P true x y p q = p
either P false x y p q = q

applied_tells : (kept : Option ℕ) (lane : Lane) → lane.applying ≡ kept → TellsProgress lane → TellsProgress (applied_by kept lane)
applied_tells (Some byte) lane is tells = λ some. cc
applied_tells None lane is tells = tells

ticked_tells : (sim : SimModule) (lane : ℕ) → TellsProgress (lane_at sim lane) → TellsProgress (ticked_lane sim lane)
unfolding ticked_lane
ticked_tells sim lane tells =
    let moved = moved_lane sim.delays (lane_at sim lane) (next_path_state sim lane) in
    either TellsProgress (is_last sim.apply_left) (applied_lane moved) moved (applied_tells moved.applying moved refl tells) tells

dropped_tells : (lane : Lane) → TellsProgress lane → TellsProgress (dropped_lane lane)
dropped_tells lane tells = either TellsProgress (is_some lane.applying) (record lane { status = Rejected; applying = None }) lane (λ some. cc) tells

applied_to_tells : (sim : SimModule) (mask : Lanes) (lane : ℕ) → TellsProgress (lane_at sim lane) → TellsProgress (applied_to sim mask lane)
unfolding applied_to
applied_to_tells sim mask lane tells =
    either TellsProgress _ (dropped_lane (lane_at sim lane)) _ (dropped_tells (lane_at sim lane) tells)
    (either TellsProgress (is_applicable sim mask) (begun_lane (lane_at sim lane)) _ (λ _. refl) (λ some. cc))

-- lanes that are made one by one
sound_lanes : (sim : SimModule) (f : ℕ → Lane) → ((lane : ℕ) → TellsProgress (lane_at sim lane) → TellsProgress (f lane)) → IsSound sim → (lane : ℕ) → TellsProgress (get_or (map f all_lanes) (lane - 1) no_lane)
sound_lanes sim f keeps sound lane = made_keeps TellsProgress f no_lane (λ n. keeps n (sound.progress n)) (λ some. cc) all_lanes (lane - 1)

pub sound_tick : (sim : SimModule) → IsSound sim → IsSound (ticked sim)
unfolding ticked
sound_tick sim sound = record { eight = length-map-range_with_len (ticked_lane sim) 1 8; progress = sound_lanes sim (ticked_lane sim) (ticked_tells sim) sound }

sound_applied : (sim : SimModule) (mask : Lanes) → IsSound sim → IsSound (applied sim mask)
unfolding applied
sound_applied sim mask sound =
    either IsSound (is_empty mask) sim (applied_all sim mask) sound (record { eight = length-map-range_with_len (applied_to sim mask) 1 8; progress = sound_lanes sim (applied_to sim mask) (applied_to_tells sim mask) sound })

sound_staged : (sim : SimModule) (lane byte : ℕ) → IsSound sim → IsSound (staged_at sim lane byte)
sound_staged sim lane byte sound = record {
  eight = length-set sim.lanes (lane - 1) (record (lane_at sim lane) { staged = byte }) ∙ sound.eight;
  progress = λ other. set_keeps TellsProgress sim.lanes (lane - 1) (other - 1) (record (lane_at sim lane) { staged = byte }) no_lane (sound.progress lane) (sound.progress other);
}

sound_low : (sim : SimModule) (address byte : ℕ) → IsSound sim → IsSound (stored_low sim address byte)
sound_low sim address byte sound = record { eight = sound.eight; progress = sound.progress }

sound_high : (sim : SimModule) (address byte : ℕ) → IsSound sim → IsSound (stored_high sim address byte)
sound_high sim address byte sound =
    let deinit = record sim { deinit = lanes_in byte } in
    let staged = staged_at sim (address - first_byte registers.StagedControl + 1) byte in
    let rest = if is_in registers.StagedControl address then staged else sim in
    either IsSound (is_at registers.DPDeinit address) deinit (if is_at registers.ApplyDPInit address then applied sim (lanes_in byte) else rest) (record { eight = sound.eight; progress = sound.progress })
    (either IsSound (is_at registers.ApplyDPInit address) (applied sim (lanes_in byte)) rest (sound_applied sim (lanes_in byte) sound)
    (either IsSound (is_in registers.StagedControl address) staged sim (sound_staged sim (address - first_byte registers.StagedControl + 1) byte sound) sound))

pub sound_byte : (sim : SimModule) (address byte : ℕ) → IsSound sim → IsSound (stored_byte sim address byte)
unfolding stored_byte
sound_byte sim address byte sound =
    either IsSound (nat_lt address 128) (stored_low sim address byte) _ (sound_low sim address byte sound)
    (either IsSound (is_mapped sim 0x10) (stored_high sim address byte) sim (sound_high sim address byte sound) sound)

pub sound_bytes : (sim : SimModule) (address : ℕ) (bytes : List ℕ) → IsSound sim → IsSound (stored_bytes sim address bytes)
sound_bytes sim address [] sound = sound
sound_bytes sim address (byte ∷ bytes) sound = sound_bytes (stored_byte sim address byte) (address + 1) bytes (sound_byte sim address byte sound)

-- of a store, what its bytes keep
pub stored_keeps : (P : SimModule → Type 0) (sim : SimModule) (dev : Dev) (address : ℕ) (bytes : List ℕ) → P sim → P (stored_bytes sim address bytes) → P (stored sim dev address bytes).1
unfolding stored
stored_keeps P sim A0 address bytes before next = either (λ (answer : Bool × SimModule). P answer.1) _ (true, stored_bytes sim address bytes) (false, sim) next before
stored_keeps P sim A2 address bytes before next = before

-- of a fetch, what its clearing keeps
pub fetched_keeps : (P : SimModule → Type 0) (sim : SimModule) (dev : Dev) (address count : ℕ) → P sim → P (cleared sim (is_from address count)) → P (fetched sim dev address count).1
unfolding fetched
fetched_keeps P sim A0 address count before next = from (finmap.get sim.image _) where
  from : (page : Option (List ℕ)) → P (fetched_from sim address count page).1
  from (Some page) = next
  from None = before
fetched_keeps P sim A2 address count before next = before

sound_cleared : (sim : SimModule) (is_read : ℕ → Bool) → IsSound sim → IsSound (cleared sim is_read)
unfolding cleared
sound_cleared sim is_read sound = record { eight = sound.eight; progress = sound.progress }

-- a module stays sound, and a new one is
pub sound_always : IsAlwaysKept IsSound
sound_always = record {
  time = record { tick = sound_tick; low_power_pin = λ sim on allowed sound. record { eight = sound.eight; progress = sound.progress } };
  operations = sound_by;
} where
  sound_by : (op : Op) → IsKeptBy conduct IsSound op
  sound_by (Fetch dev address count) = λ sim sound. fetched_keeps IsSound sim dev address count sound (sound_cleared sim (is_from address count) sound)
  sound_by (Store dev address bytes) = (
    λ sim sound. stored_keeps IsSound sim dev address bytes.items sound (sound_bytes sim address bytes.items sound),
    λ sim k sound. stored_keeps IsSound sim dev address (take k bytes.items) sound (sound_bytes sim address (take k bytes.items) sound),
  )

pub sound_start : (memory : Memory) (delays : Delays) → IsSound (start memory delays)
unfolding start
sound_start memory delays = record {
  eight = length-map-range_with_len (start_lane memory) 1 8;
  progress = λ lane. made_keeps TellsProgress (start_lane memory) no_lane (λ n some. cc) (λ some. cc) all_lanes (lane - 1);
}

other_device : (sim : SimModule) (address : ℕ) (bytes : List ℕ) → (stored sim A2 address bytes).1 ≡ sim
unfolding stored
other_device sim address bytes = refl

-- a store on the other device changes nothing
pub kept_by_other : (P : SimModule → Type 0) (address : ℕ) (bytes : ArrayVec ℕ) → IsKeptBy conduct P (Store A2 address bytes)
kept_by_other P address bytes =
    (λ sim p. subst P (sym (other_device sim address bytes.items)) p, λ sim k p. subst P (sym (other_device sim address (take k bytes.items))) p)
