-- While no apply is in progress and none is asked for, what is active stays, whichever page is mapped.
use Rattle.std.proofs.Common.{◌≡◌, inl, inr, ℕ, zero, suc, ◌+◌, ◌-◌, ◌<◌, ◌≤◌, Bool, true, None, List, [], ◌∷◌, length, get_or, map, take, refl, ap, sym, subst, ◌∙◌, if◌then◌else◌, nat_lt, arith}
use Rattle.std.proofs.lemmas.Bool.{cases_lt}
use Rattle.std.proofs.lemmas.Bool.Decides.{nat_tests}
use Rattle.std.proofs.lemmas.List.{ext_get_or, get_or-map, length-map}
use Rattle.std.proofs.lemmas.List.FromFn.{get_or-map-range_with_len, length-map-range_with_len}
use Rattle.bus_model.specs.declared.device.Dev.TheVariants.{A0, A2}
use Rattle.bus_model.specs.declared.operation.Op.{Op}
use Rattle.bus_model.specs.declared.operation.Op.TheVariants.{Fetch, Store}
use Rattle.bus_model.specs.Keeping.{IsKeptBy, IsKeptInTime}
use Rattle.field_tables.specs.LaneSets.{IsLane, lanes_in}
use Rattle.paged_memory.specs.Images.{Memory}
use Rattle.sim_module.specs.declared.delays.Delays.{Delays}
use Rattle.sim_module.specs.declared.lane.Lane.{Lane}
use Rattle.sim_module.specs.declared.module.SimModule.{SimModule}
use Rattle.sim_module.specs.ActiveSets.{IsAtRest}
use Rattle.sim_module.specs.Lanes.{active_bytes, all_lanes, lane_at, no_lane}
use Rattle.sim_module.specs.Modules.{conduct}
use Rattle.sim_module.specs.Registers.{is_from}
use Rattle.sim_module.specs.ShownBytes.{cleared, is_mapped}
use Rattle.sim_module.specs.Starts.{active_at_start, start, start_lane}
use Rattle.sim_module.specs.Stores.{stored_byte, stored_bytes, stored_high, stored_low}
use Rattle.sim_module.specs.Ticks.{pinned, ticked, ticked_lane}
use Rattle.bus_model.proofs.Histories.{AnyPin}
use Rattle.sim_module.proofs.LanesInTime.{made_lane, settled_lane}
use Rattle.sim_module.proofs.SoundModule.{either, fetched_keeps, kept_by_other, made_keeps, stored_keeps}

pub take_fewer : (k : ℕ) (bytes : List ℕ) → length (take k bytes) ≤ length bytes
take_fewer zero bytes = omega arith
take_fewer (suc k) [] = omega arith
take_fewer (suc k) (byte ∷ bytes) = let fewer = take_fewer k bytes in omega (arith, fewer)

pub rest_start : (memory : Memory) (delays : Delays) → IsAtRest (active_at_start memory) (start memory delays)
unfolding start
rest_start memory delays = record {
  eight = length-map-range_with_len (start_lane memory) 1 8;
  none = λ lane within. made_keeps (λ (l : Lane). l.applying ≡ None) (start_lane memory) no_lane (λ n. refl) refl all_lanes (lane - 1);
  active = refl;
}

-- a module with the same lanes
pub rest_lanes : (control : List ℕ) (sim other : SimModule) → other.lanes ≡ sim.lanes → IsAtRest control sim → IsAtRest control other
rest_lanes control sim other same rest = record {
  eight = ap (λ (lanes : List Lane). length lanes) same ∙ rest.eight;
  none = λ lane within. ap (λ (lanes : List Lane). (get_or lanes (lane - 1) no_lane).applying) same ∙ rest.none lane within;
  active = ap (λ (lanes : List Lane). map (λ (lane : Lane). lane.active) lanes) same ∙ rest.active;
}

same_active : (sim : SimModule) (f : ℕ → Lane) → length sim.lanes ≡ 8 → ((lane : ℕ) → IsLane lane → (f lane).active ≡ (lane_at sim lane).active) →
    map (λ (lane : Lane). lane.active) (map f all_lanes) ≡ active_bytes sim
same_active sim f eight each =
    let active = λ (lane : Lane). lane.active in
    let made = map f all_lanes in
    let made_eight : length made ≡ 8 = length-map-range_with_len f 1 8 in
    let len : length (map active made) ≡ 8 = length-map made active ∙ made_eight in
    ext_get_or 0 (map active made) (active_bytes sim) (len ∙ sym (length-map sim.lanes active ∙ eight))
    (λ k below.
    let within : k < 8 = omega (arith, below, len) in
    let index : k + 1 - 1 ≡ k = omega arith in
    get_or-map active made k no_lane 0 (omega (arith, within, made_eight))
    ∙ ap active (get_or-map-range_with_len f 1 8 k (k + 1) no_lane within (omega arith))
    ∙ each (k + 1) (omega arith, omega (arith, within))
    ∙ ap (λ (n : ℕ). (get_or sim.lanes n no_lane).active) index
    ∙ sym (get_or-map active sim.lanes k no_lane 0 (omega (arith, within, eight))))

pub rest_tick : (control : List ℕ) (sim : SimModule) → IsAtRest control sim → IsAtRest control (ticked sim)
unfolding ticked
rest_tick control sim rest = record {
  eight = length-map-range_with_len (ticked_lane sim) 1 8;
  none = λ lane within. ap (λ (l : Lane). l.applying) (made_lane (ticked_lane sim) lane within ∙ settled_lane sim lane (rest.none lane within)) ∙ rest.none lane within;
  active = same_active sim (ticked_lane sim) rest.eight (λ lane within. ap (λ (l : Lane). l.active) (settled_lane sim lane (rest.none lane within))) ∙ rest.active;
}

pub rest_kept : (control : List ℕ) → IsKeptInTime conduct AnyPin (IsAtRest control)
rest_kept control = record { tick = rest_tick control; low_power_pin = λ sim on allowed rest. rest_lanes control sim (pinned sim on) refl rest }

rest_cleared : (control : List ℕ) (sim : SimModule) (is_read : ℕ → Bool) → IsAtRest control sim → IsAtRest control (cleared sim is_read)
unfolding cleared
rest_cleared control sim is_read rest = rest_lanes control sim (cleared sim is_read) refl rest

-- ---- stores up to the DPDeinit bits

low_test : (address : ℕ) → address < 128 → nat_lt address 128 ≡ true
low_test address below = grind (arith, nat_tests)

at_deinit : (sim : SimModule) (byte : ℕ) → (stored_byte sim 128 byte).lanes ≡ sim.lanes
unfolding stored_byte
at_deinit sim byte = either (λ (s : SimModule). s.lanes ≡ sim.lanes) (is_mapped sim 0x10) (record sim { deinit = lanes_in byte }) sim refl refl

below_pages : (sim : SimModule) (address byte : ℕ) → address < 128 → (stored_byte sim address byte).lanes ≡ sim.lanes
unfolding stored_byte
below_pages sim address byte below =
    let next = if is_mapped sim 0x10 then stored_high sim address byte else sim in
    subst (λ (low : Bool). (if low then stored_low sim address byte else next).lanes ≡ sim.lanes) (sym (low_test address below)) refl

same_lanes : (sim : SimModule) (address byte : ℕ) → address ≤ 128 → (stored_byte sim address byte).lanes ≡ sim.lanes
same_lanes sim address byte within = elim (cases_lt address 128) [
  | inl below ↦ below_pages sim address byte below
  | inr high ↦
      let there : 128 ≡ address = omega (arith, within, high) in
      subst (λ (a : ℕ). (stored_byte sim a byte).lanes ≡ sim.lanes) there (at_deinit sim byte)
]

rest_bytes : (control : List ℕ) (sim : SimModule) (address : ℕ) (bytes : List ℕ) → address + length bytes ≤ 129 → IsAtRest control sim → IsAtRest control (stored_bytes sim address bytes)
rest_bytes control sim address [] within rest = rest
rest_bytes control sim address (byte ∷ bytes) within rest =
    let here : address ≤ 128 = omega (arith, within) in
    let more : address + 1 + length bytes ≤ 129 = omega (arith, within) in
    rest_bytes control (stored_byte sim address byte) (address + 1) bytes more (rest_lanes control sim (stored_byte sim address byte) (same_lanes sim address byte here) rest)

-- no byte of a store is an Apply, nor staged
abbrev pub AsksNoApply : Op → Type 0
AsksNoApply (Store A0 address bytes) = address + length bytes.items ≤ 129
AsksNoApply (Store A2 address bytes) = Unit {0}
AsksNoApply (Fetch dev address count) = Unit {0}

-- whole or cut
pub rest_by : (control : List ℕ) (op : Op) → AsksNoApply op → IsKeptBy conduct (IsAtRest control) op
rest_by control (Fetch dev address count) asks = λ sim rest. fetched_keeps (IsAtRest control) sim dev address count rest (rest_cleared control sim (is_from address count) rest)
rest_by control (Store A0 address bytes) asks = (
  λ sim rest. stored_keeps (IsAtRest control) sim A0 address bytes.items rest (rest_bytes control sim address bytes.items asks rest),
  λ sim k rest. stored_keeps (IsAtRest control) sim A0 address (take k bytes.items) rest (rest_bytes control sim address (take k bytes.items) (omega (arith, asks, take_fewer k bytes.items)) rest),
)
rest_by control (Store A2 address bytes) asks = kept_by_other (IsAtRest control) address bytes
