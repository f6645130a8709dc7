-- What a fetch of a half gives of a module: the bytes of the half itself, but for what is shown in place of them, and the state of the module.
use Rattle.std.proofs.Common.{[], ◌≡◌, ℕ, zero, suc, ◌+◌, ◌-◌, ◌<◌, ◌≤◌, ◌/◌, ◌%◌, ◌^◌, ◌==◌, ◌&&◌, nat_lt, Bool, true, false, List, get_or, length, map, Some, refl, sym, ap, subst, ◌∙◌, if◌then◌else◌, arith}
use Rattle.std.specs.Prelude.{slice_get, slice_index, unsigned_abs}
use Rattle.std.specs.FinMap as finmap
use Rattle.std.specs.List.{range_with_len}
use Rattle.std.proofs.lemmas.Bool.{eqb-true, false_from_ne_true}
use Rattle.std.proofs.lemmas.Bool.Decides.{nat_tests}
use Rattle.std.proofs.lemmas.List.{ext_get_or}
use Rattle.std.proofs.lemmas.List.FromFn.{get_or-map-range_with_len, length-map-range_with_len}
use Rattle.bus_model.specs.declared.device.Dev.TheVariants.{A0, A2}
use Rattle.bus_model.specs.declared.operation.Reply.{Reply}
use Rattle.bus_model.specs.declared.operation.Reply.TheVariants.{Bytes}
use Rattle.field_tables.specs.declared.field.Field.TheVariants as fields
use Rattle.field_tables.specs.declared.table.cmis.CmisField.TheVariants as cmis
use Rattle.field_tables.specs.FieldValues.{value_in}
use Rattle.field_tables.specs.Halves.{byte_in}
use Rattle.field_tables.specs.Readings.{number}
use Rattle.field_tables.proofs.PlaceNumbers.{number-bits_up}
use Rattle.module_states.specs.Codes as module_codes
use Rattle.module_states.specs.declared.state.ModuleState.{ModuleState}
use Rattle.module_states.specs.declared.state.ModuleState.TheVariants as module_is
use Rattle.paged_memory.specs.Images.{Memory}
use Rattle.paged_memory.specs.Keys.{lower_key, page_key, upper_key}
use Rattle.module_reading.specs.declared.region.Region.{Region}
use Rattle.module_reading.specs.declared.region.Region.TheVariants.{Lower, FirstPage, Page}
use Rattle.module_reading.specs.Regions.{operation}
use Rattle.sim_module.specs.declared.module.SimModule.{SimModule}
use Rattle.sim_module.specs.Down.{has_low_power}
use Rattle.sim_module.specs.ShownBytes.{configuration_bytes, first_shown, is_mapped, lower_bytes, shown_byte, status_bytes}
use Rattle.sim_module.proofs.IdleModule.{Shows}
use Rattle.sim_liveness.proofs.ReadStates.{read_state}
use Rattle.managed_module.specs.Bounds.{IsAsleep, IsSteady}
use Rattle.managed_module.specs.Managed.{HasHalves}
use Rattle.managed_module.specs.Succeeds.{AreWhole}
use Rattle.managed_module.proofs.Halves.{reads_mapped}
use Rattle.managed_module.proofs.OwnHalves.{Fits, all_regions}
use Rattle.managed_module.proofs.OwnLanes.{ShowsLanes, shows_lanes}
use Rattle.managed_module.proofs.OwnLower.{number_is, read_byte}
use Rattle.managed_module.proofs.OwnTasks.{reply_of}
use Rattle.managed_module.proofs.Procedures.{IsAwake}

-- ---- the bytes of a page that shows nothing else

abbrev shown_high : SimModule → List ℕ → ℕ → Bool → Bool → Bool → ℕ
shown_high sim page address low controls status =
    let byte = slice_index page (if low then address else address - 128) in
    first_shown (if low then lower_bytes sim byte address else if controls then configuration_bytes sim address else if status then status_bytes sim address else []) byte

high_byte : (sim : SimModule) (page : List ℕ) (address : ℕ) → 128 ≤ address → is_mapped sim 0x10 ≡ false → is_mapped sim 0x11 ≡ false → shown_byte sim page address ≡ slice_index page (address - 128)
unfolding shown_byte
high_byte sim page address high controls status =
    let upper : nat_lt address 128 ≡ false = grind (arith, nat_tests) in
    λ i. shown_high sim page address (upper i) (controls i) (status i)

other_page : (sim : SimModule) (page other : ℕ) → Shows page sim → (page % 256 == other) ≡ false → is_mapped sim other ≡ false
other_page sim page other shows differs = ap (λ (b : Bool). (sim.selection.bank == 0) && b) (ap (λ (n : ℕ). n == other) shows.number ∙ differs) ∙ and_false (sim.selection.bank == 0) where
  and_false : (b : Bool) → (b && false) ≡ false
  and_false true = refl
  and_false false = refl

differs_by : (page other : ℕ) → page < 3 → 3 ≤ other → (page % 256 == other) ≡ false
differs_by page other few far = false_from_ne_true (page % 256 == other) (λ same. let e = eqb-true (page % 256) other same in omega (arith, few, far, e))

pub read_page : (sim : SimModule) (bytes : List ℕ) (page : ℕ) → length bytes ≡ 128 → Shows page sim → page < 3 → map (shown_byte sim bytes) (range_with_len 128 128) ≡ bytes
read_page sim bytes page whole shows few =
    ext_get_or 0 (map (shown_byte sim bytes) (range_with_len 128 128)) bytes (length-map-range_with_len (shown_byte sim bytes) 128 128 ∙ sym whole)
    (λ k below.
    let within : k < 128 = omega (arith, below, length-map-range_with_len (shown_byte sim bytes) 128 128) in
    get_or-map-range_with_len (shown_byte sim bytes) 128 128 k (128 + k) 0 within refl
    ∙ high_byte sim bytes (128 + k) (omega arith) (other_page sim page 0x10 shows (differs_by page 0x10 few (omega arith))) (other_page sim page 0x11 shows (differs_by page 0x11 few (omega arith)))
    ∙ ap (λ (n : ℕ). get_or bytes n 0) (let index : 128 + k - 128 ≡ k = omega arith in index))

-- ---- the state of the module

abbrev abs_value : List ℕ → ℕ
abs_value bytes = unsigned_abs (value_in bytes (fields.Cmis cmis.ModuleState) 1)

value_is : (bytes : List ℕ) → abs_value bytes ≡ byte_in bytes 3 / 2 ^ 1 % 2 ^ 3
unfolding value_in
value_is bytes = number-bits_up (byte_in bytes) 3 1 3

-- a lower half that was read has the state
pub state_in : (sim : SimModule) (page : List ℕ) (memory : Memory) → finmap.get memory (lower_key A0) ≡ Some (map (shown_byte sim page) (range_with_len 0 128)) → number memory (fields.Cmis cmis.ModuleState) ≡ module_codes.code_of sim.state
state_in sim page memory is =
    let bytes = map (shown_byte sim page) (range_with_len 0 128) in
    number_is memory (fields.Cmis cmis.ModuleState) 1 bytes is ∙ value_is bytes ∙ ap (λ (n : ℕ). n / 2 ^ 1 % 2 ^ 3) (get_or-map-range_with_len (shown_byte sim page) 0 128 3 3 0 (omega arith) refl) ∙ read_state sim page

ready_by : (state : ModuleState) → module_codes.code_of state ≡ 3 → state ≡ module_is.Ready
ready_by module_is.LowPwr e = absurd (let wrong : 1 ≡ 3 = e in omega (arith, wrong))
ready_by module_is.PwrUp e = absurd (let wrong : 2 ≡ 3 = e in omega (arith, wrong))
ready_by module_is.Ready e = refl
ready_by module_is.PwrDn e = absurd (let wrong : 4 ≡ 3 = e in omega (arith, wrong))
ready_by module_is.Fault e = absurd (let wrong : 5 ≡ 3 = e in omega (arith, wrong))

not_low : (most : ℕ) (sim : SimModule) → IsSteady most sim → sim.state ≡ module_is.Ready → has_low_power sim ≡ false
not_low most sim steady ready = by (has_low_power sim) refl where
  by : (low : Bool) → has_low_power sim ≡ low → low ≡ false
  by true e = absurd (subst IsAsleep ready (steady.power e))
  by false e = refl

-- a module that is read as ready stays so
pub ready_awake : (most : ℕ) (sim : SimModule) → IsSteady most sim → module_codes.code_of sim.state ≡ 3 → IsAwake sim
ready_awake most sim steady code = let ready = ready_by sim.state code in (ready, not_low most sim steady ready)

pub awake_code : (sim : SimModule) → IsAwake sim → module_codes.code_of sim.state ≡ 3
awake_code sim awake = ap (λ (state : ModuleState). module_codes.code_of state) awake.0

-- ---- the half that is fetched

pub record IsFetched (sim : SimModule) (region : Region) (reply : Reply) : Type 0 where
  pub bytes : List ℕ
  pub reads : reply ≡ Bytes (record { items = bytes })
  pub fits : Fits sim.image region bytes
  pub lanes : region ≡ Page 0x11 → ShowsLanes bytes sim
  pub state : region ≡ Lower A0 → (memory : Memory) → finmap.get memory (lower_key A0) ≡ Some bytes → number memory (fields.Cmis cmis.ModuleState) ≡ module_codes.code_of sim.state

first_not_page : (page : ℕ) → Lower A0 ≡ Page page → ⊥
first_not_page page e = cc

same_number : (page other : ℕ) → Page page ≡ Page other → page ≡ other
same_number page other e = cc

lower_not_page : (page : ℕ) → Page page ≡ Lower A0 → ⊥
lower_not_page page e = cc

pub fetches : (sim : SimModule) (region : Region) (reply : Reply) (n : ℕ) → HasHalves sim → AreWhole sim.image → length sim.lanes ≡ 8 → slice_get all_regions n ≡ Some region → reply ≡ reply_of sim (operation region) → ((page : ℕ) → region ≡ Page page → Shows page sim)
    → IsFetched sim region reply
fetches sim (Lower A0) reply n has whole eight hand gives shows =
    let (page, there, reads) = reads_mapped sim 0 128 has in
    record { bytes = map (shown_byte sim page) (range_with_len 0 128); reads = gives ∙ reads; fits = (page, there, read_byte sim page); lanes = λ e. absurd (first_not_page 0x11 e); state = λ e memory is. state_in sim page memory is }
fetches sim (Lower A2) reply n has whole eight hand gives shows = absurd (not_other n hand) where
  not_other : (n : ℕ) → slice_get all_regions n ≡ Some (Lower A2) → ⊥
  not_other zero e = cc
  not_other (suc zero) e = cc
  not_other (suc (suc zero)) e = cc
  not_other (suc (suc (suc zero))) e = cc
  not_other (suc (suc (suc (suc zero)))) e = cc
  not_other (suc (suc (suc (suc (suc n))))) e = cc
fetches sim FirstPage reply n has whole eight hand gives shows = absurd (not_other n hand) where
  not_other : (n : ℕ) → slice_get all_regions n ≡ Some FirstPage → ⊥
  not_other zero e = cc
  not_other (suc zero) e = cc
  not_other (suc (suc zero)) e = cc
  not_other (suc (suc (suc zero))) e = cc
  not_other (suc (suc (suc (suc zero)))) e = cc
  not_other (suc (suc (suc (suc (suc n))))) e = cc
fetches sim (Page page) reply n has whole eight hand gives shows =
    let (bytes, there, reads) = reads_mapped sim 128 128 has in
    let shown = shows page refl in
    let key : finmap.get sim.image (page_key page) ≡ Some bytes = (λ i. finmap.get sim.image (upper_key A0 (sym shown.bank i) (sym shown.number i))) ∙ there in
    record {
      bytes = map (shown_byte sim bytes) (range_with_len 128 128);
      reads = gives ∙ reads;
      fits = λ few. key ∙ ap (λ (bytes : List ℕ). Some bytes) (sym (read_page sim bytes page (whole (page_key page) bytes key) shown few));
      lanes = λ e. shows_lanes sim bytes (subst (λ (page : ℕ). Shows page sim) (same_number page 0x11 e) shown) eight;
      state = λ e. absurd (lower_not_page page e);
    }
