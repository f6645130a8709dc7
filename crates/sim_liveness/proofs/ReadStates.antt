-- What a read of the module's state, of the states of data paths and of the statuses of configurations tells of a module.
use Rattle.std.proofs.Common.{◌≡◌, ◌<◌, ℕ, ◌+◌, ◌-◌, ◌*◌, ◌/◌, ◌%◌, ◌==◌, ◌&&◌, ◌||◌, not, Bool, true, false, List, [], ◌∷◌, Option, None, get_or, length, map, min, slice_index, refl, sym, ap, ◌∙◌, bit_and, arith}
use Rattle.std.specs.FinSet as set
use Rattle.std.specs.Int.{bit_at}
use Rattle.std.specs.List.{range_with_len}
use Rattle.std.proofs.lemmas.Bool.{or_left, or_right}
use Rattle.std.proofs.lemmas.Bool.Decides.{nat_tests}
use Rattle.std.proofs.lemmas.List.{get_or-map, length-map}
use Rattle.std.proofs.lemmas.List.FromFn.{get_or-map-range_with_len}
use Rattle.std.proofs.lemmas.Nat.Bits.{bit_at_and}
use Rattle.field_tables.specs.LaneSets.{IsLane, Lanes}
use Rattle.field_tables.specs.Registers.{byte_count, first_byte}
use Rattle.field_tables.specs.declared.field.Register.TheVariants as registers
use Rattle.field_tables.proofs.TrueTests.{range_passes}
use Rattle.module_states.specs.Codes as module_codes
use Rattle.module_states.specs.declared.state.ModuleState.{ModuleState}
use Rattle.module_states.specs.declared.state.ModuleState.TheVariants as module_is
use Rattle.datapath_states.specs.Lanes.{code_in, codes_in}
use Rattle.datapath_states.specs.StateCodes.{code_of}
use Rattle.datapath_states.specs.declared.state.PathState.{PathState}
use Rattle.datapath_states.specs.declared.state.PathState.TheVariants as path_is
use Rattle.datapath_states.proofs.LaneNibbles.{lower_half, upper_half}
use Rattle.control_sets.specs.Judgements.{all_lanes_have, at_lane, is_reserved_state, judged_states, lowest_lane, met_if, unless_reserved}
use Rattle.control_sets.specs.declared.procedures.judgement.ReplyJudgement.TheVariants.{Met}
use Rattle.control_sets.specs.OutcomeCodes.{module_code}
use Rattle.control_sets.proofs.EightLanes.{each_of_eight}
use Rattle.control_sets.proofs.Finding.{none_found}
use Rattle.sim_module.specs.declared.module.SimModule.{SimModule}
use Rattle.sim_module.specs.declared.lane.Lane.{Lane}
use Rattle.sim_module.specs.Lanes.{active_bytes, lane_at, no_lane}
use Rattle.sim_module.proofs.EachLane.{each_lane}
use Rattle.sim_module.specs.ShownBytes.{path_code, shown_byte, state_byte, status_code}
use Rattle.sim_module.proofs.IdleModule.{Shows}
use Rattle.sim_module.proofs.ReadBytes.{on_statuses}

-- ---- the state of the module

abbrev masked : ℕ → ℕ
masked byte = bit_and byte 0xF1

no_bit : (bit : ℕ) → min bit 0 ≡ 0
no_bit bit = omega arith

clear_bit : (byte i : ℕ) → bit_at 0xF1 i ≡ 0 → bit_at (masked byte) i ≡ 0
clear_bit byte i off = bit_at_and byte 0xF1 i ∙ ap (min (bit_at byte i)) off ∙ no_bit (bit_at byte i)

code_shown : (x code : ℕ) → x / 2 % 2 ≡ 0 → x / 4 % 2 ≡ 0 → x / 8 % 2 ≡ 0 → code < 8 → (x + 2 * code) / 2 % 8 ≡ code
code_shown x code one two three few = omega (arith, one, two, three, few)

few_codes : (state : ModuleState) → module_codes.code_of state < 8
few_codes module_is.LowPwr = omega arith
few_codes module_is.PwrUp = omega arith
few_codes module_is.Ready = omega arith
few_codes module_is.PwrDn = omega arith
few_codes module_is.Fault = omega arith

shown_state : (sim : SimModule) (page : List ℕ) → map (shown_byte sim page) (range_with_len (first_byte registers.GlobalStatus) (byte_count registers.GlobalStatus)) ≡ state_byte sim (slice_index page 3) ∷ []
unfolding shown_byte
shown_state sim page = refl

pub read_state : (sim : SimModule) (page : List ℕ) → module_code (map (shown_byte sim page) (range_with_len (first_byte registers.GlobalStatus) (byte_count registers.GlobalStatus))) ≡ module_codes.code_of sim.state
read_state sim page =
    ap module_code (shown_state sim page)
    ∙ code_shown (masked (slice_index page 3)) (module_codes.code_of sim.state) (clear_bit (slice_index page 3) 1 refl) (clear_bit (slice_index page 3) 2 refl) (clear_bit (slice_index page 3) 3 refl) (few_codes sim.state)

-- ---- two codes to a byte

abbrev pub pairs : (ℕ → ℕ) → List ℕ
pairs code = (code 1 + 16 * code 2) ∷ (code 3 + 16 * code 4) ∷ (code 5 + 16 * code 6) ∷ (code 7 + 16 * code 8) ∷ []

lower_code : (code other : ℕ) → code < 16 → (code + 16 * other) % 16 ≡ code
lower_code code other few = omega (arith, few)

upper_code : (code other : ℕ) → code < 16 → (code + 16 * other) / 16 ≡ other
upper_code code other few = omega (arith, few)

pair_fits : (code other : ℕ) → code < 16 → other < 16 → code + 16 * other < 256
pair_fits code other few more = omega (arith, few, more)

each_code : (code : ℕ → ℕ) → ((lane : ℕ) → code lane < 16) → (lane : ℕ) → IsLane lane → code_in (pairs code) lane ≡ code lane
each_code code few =
    each_of_eight (λ lane. code_in (pairs code) lane ≡ code lane)
    (lower_half (pairs code) 0 refl ∙ lower_code (code 1) (code 2) (few 1))
    (upper_half (pairs code) 1 refl (pair_fits (code 1) (code 2) (few 1) (few 2)) ∙ upper_code (code 1) (code 2) (few 1))
    (lower_half (pairs code) 2 refl ∙ lower_code (code 3) (code 4) (few 3))
    (upper_half (pairs code) 3 refl (pair_fits (code 3) (code 4) (few 3) (few 4)) ∙ upper_code (code 3) (code 4) (few 3))
    (lower_half (pairs code) 4 refl ∙ lower_code (code 5) (code 6) (few 5))
    (upper_half (pairs code) 5 refl (pair_fits (code 5) (code 6) (few 5) (few 6)) ∙ upper_code (code 5) (code 6) (few 5))
    (lower_half (pairs code) 6 refl ∙ lower_code (code 7) (code 8) (few 7))
    (upper_half (pairs code) 7 refl (pair_fits (code 7) (code 8) (few 7) (few 8)) ∙ upper_code (code 7) (code 8) (few 7))

-- as a list of eight
pub listed_code : (code : ℕ → ℕ) → ((lane : ℕ) → code lane < 16) → (lane : ℕ) → IsLane lane → at_lane (codes_in (pairs code) 8) lane ≡ code lane
listed_code code few lane (from, to) =
    get_or-map-range_with_len (code_in (pairs code)) 1 8 (lane - 1) lane 0 (omega (arith, from, to)) (omega (arith, from)) ∙ each_code code few lane (from, to)

-- ---- the states of data paths

few_states : (state : PathState) → code_of state < 16
few_states path_is.Deactivated = omega arith
few_states path_is.Init = omega arith
few_states path_is.Deinit = omega arith
few_states path_is.Activated = omega arith
few_states path_is.TxTurnOn = omega arith
few_states path_is.TxTurnOff = omega arith
few_states path_is.Initialized = omega arith

none_reserved : (state : PathState) → is_reserved_state (code_of state) ≡ false
none_reserved path_is.Deactivated = refl
none_reserved path_is.Init = refl
none_reserved path_is.Deinit = refl
none_reserved path_is.Activated = refl
none_reserved path_is.TxTurnOn = refl
none_reserved path_is.TxTurnOff = refl
none_reserved path_is.Initialized = refl

pub shown_paths : (sim : SimModule) (page : List ℕ) → Shows 0x11 sim → map (shown_byte sim page) (range_with_len (first_byte registers.PathStates) (byte_count registers.PathStates)) ≡ pairs (path_code sim)
shown_paths sim page shows = λ i.
    on_statuses sim page (first_byte registers.PathStates) (omega arith) shows i ∷ on_statuses sim page (first_byte registers.PathStates + 1) (omega arith) shows i
    ∷ on_statuses sim page (first_byte registers.PathStates + 2) (omega arith) shows i ∷ on_statuses sim page (first_byte registers.PathStates + 3) (omega arith) shows i ∷ []

pub shown_statuses : (sim : SimModule) (page : List ℕ) → Shows 0x11 sim → map (shown_byte sim page) (range_with_len (first_byte registers.ConfigStatus) (byte_count registers.ConfigStatus)) ≡ pairs (status_code sim)
shown_statuses sim page shows = λ i.
    on_statuses sim page (first_byte registers.ConfigStatus) (omega arith) shows i ∷ on_statuses sim page (first_byte registers.ConfigStatus + 1) (omega arith) shows i
    ∷ on_statuses sim page (first_byte registers.ConfigStatus + 2) (omega arith) shows i ∷ on_statuses sim page (first_byte registers.ConfigStatus + 3) (omega arith) shows i ∷ []

abbrev pub shown_codes : SimModule → List ℕ
shown_codes sim = codes_in (pairs (path_code sim)) 8

pub path_shown : (sim : SimModule) (lane : ℕ) → IsLane lane → at_lane (shown_codes sim) lane ≡ code_of (lane_at sim lane).path
path_shown sim lane within = listed_code (path_code sim) (λ lane. few_states (lane_at sim lane).path) lane within

and_off : (a b : Bool) → b ≡ false → (a && b) ≡ false
and_off true b off = off
and_off false b off = refl

no_lane_reserved : (sim : SimModule) (looked : Lanes) → lowest_lane is_reserved_state looked (shown_codes sim) ≡ None
no_lane_reserved sim looked =
    none_found (λ lane. set.contains looked lane && is_reserved_state (at_lane (shown_codes sim) lane)) 1 8
    (λ lane from to.
    and_off (set.contains looked lane) (is_reserved_state (at_lane (shown_codes sim) lane))
    (ap is_reserved_state (path_shown sim lane (from, omega (arith, to))) ∙ none_reserved (lane_at sim lane).path))

equal_codes : (code other : ℕ) → code ≡ other → (code == other) ≡ true
equal_codes code other same = grind (arith, nat_tests, same)

has_if : (sim : SimModule) (waiting : Lanes) (state : PathState) (lane : ℕ) → IsLane lane → (inside : Bool) → set.contains waiting lane ≡ inside → (inside ≡ true → (lane_at sim lane).path ≡ state)
    → (not (set.contains waiting lane) || at_lane (shown_codes sim) lane == code_of state) ≡ true
has_if sim waiting state lane within true e reached =
    or_right (not (set.contains waiting lane)) (at_lane (shown_codes sim) lane == code_of state) (equal_codes (at_lane (shown_codes sim) lane) (code_of state) (path_shown sim lane within ∙ ap code_of (reached refl)))
has_if sim waiting state lane within false e reached = or_left (not (set.contains waiting lane)) (at_lane (shown_codes sim) lane == code_of state) (ap not e)

-- a read of states that are reached says so
pub states_met : (sim : SimModule) (looked waiting : Lanes) (state : PathState) → ((lane : ℕ) → IsLane lane → set.contains waiting lane ≡ true → (lane_at sim lane).path ≡ state)
    → judged_states looked waiting state (shown_codes sim) ≡ Met
states_met sim looked waiting state reached =
    ap (λ (found : Option ℕ). unless_reserved (shown_codes sim) found (met_if (all_lanes_have (code_of state) waiting (shown_codes sim)))) (no_lane_reserved sim looked)
    ∙ ap met_if
    (range_passes (λ lane. not (set.contains waiting lane) || at_lane (shown_codes sim) lane == code_of state) 1 8
    (λ lane from to. let within : IsLane lane = (from, omega (arith, to)) in has_if sim waiting state lane within (set.contains waiting lane) refl (λ inside. reached lane within inside)))

-- ---- what is active

shown_active : (sim : SimModule) (page : List ℕ) → Shows 0x11 sim → map (shown_byte sim page) (range_with_len (first_byte registers.ActiveControl) (byte_count registers.ActiveControl)) ≡ map (λ lane. (lane_at sim lane).active) (range_with_len 1 8)
shown_active sim page shows = λ i.
    on_statuses sim page (first_byte registers.ActiveControl) (omega arith) shows i ∷ on_statuses sim page (first_byte registers.ActiveControl + 1) (omega arith) shows i
    ∷ on_statuses sim page (first_byte registers.ActiveControl + 2) (omega arith) shows i ∷ on_statuses sim page (first_byte registers.ActiveControl + 3) (omega arith) shows i
    ∷ on_statuses sim page (first_byte registers.ActiveControl + 4) (omega arith) shows i ∷ on_statuses sim page (first_byte registers.ActiveControl + 5) (omega arith) shows i
    ∷ on_statuses sim page (first_byte registers.ActiveControl + 6) (omega arith) shows i ∷ on_statuses sim page (first_byte registers.ActiveControl + 7) (omega arith) shows i ∷ []

-- the control bytes that are read
pub active_is : (sim : SimModule) (page : List ℕ) → Shows 0x11 sim → length sim.lanes ≡ 8 → active_bytes sim ≡ map (shown_byte sim page) (range_with_len (first_byte registers.ActiveControl) (byte_count registers.ActiveControl))
active_is sim page shows eight =
    let active = λ (lane : Lane). lane.active in
    let len : length (active_bytes sim) ≡ 8 = length-map sim.lanes active ∙ eight in
    each_lane 0 (λ lane. (lane_at sim lane).active) (active_bytes sim) len
    (λ k below.
    let index : k + 1 - 1 ≡ k = omega arith in
    get_or-map active sim.lanes k no_lane 0 (omega (arith, below, len, eight)) ∙ ap (λ (n : ℕ). (get_or sim.lanes n no_lane).active) (sym index))
    ∙ sym (shown_active sim page shows)
