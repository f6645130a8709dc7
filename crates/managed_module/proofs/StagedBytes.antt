-- Control bytes that are stored to Staged Control Set 0 are staged and read back, and nothing else moves.
use Rattle.std.proofs.Common.{◌≡◌, ◌≢◌, ℕ, zero, suc, ◌+◌, ◌-◌, ◌≤◌, ◌<◌, ◌==◌, not, Bool, true, List, [], ◌∷◌, None, eq-eqb, get_or, length, map, set, slice_index, refl, sym, ap, subst, ◌∙◌, if◌then◌else◌, arith}
use Rattle.std.specs.List.{range_with_len}
use Rattle.std.proofs.Math.ListN.{length-set}
use Rattle.std.proofs.Math.Seq.{map-set_same}
use Rattle.std.proofs.lemmas.Bool.{and_from, le-leb, lt-ltb}
use Rattle.std.proofs.lemmas.List.{ext_get_or, get_or-map, get_or-set_other, get_or-set_same, length-map}
use Rattle.field_tables.specs.LaneSets.{IsLane, lanes_in}
use Rattle.field_tables.specs.Registers.{byte_count, first_byte}
use Rattle.field_tables.specs.declared.field.Register.TheVariants as registers
use Rattle.control_sets.specs.Judgements.{at_lane, differing_lane}
use Rattle.control_sets.proofs.Finding.{none_found}
use Rattle.paged_memory.specs.Images.{place_in_half}
use Rattle.sim_module.specs.declared.lane.Lane.{Lane}
use Rattle.sim_module.specs.declared.module.SimModule.{SimModule}
use Rattle.sim_module.specs.Applies.{applied}
use Rattle.sim_module.specs.Lanes.{active_bytes, lane_at, no_lane, staged_bytes}
use Rattle.sim_module.specs.Registers.{is_in}
use Rattle.sim_module.specs.ShownBytes.{configuration_bytes, first_shown, is_mapped, lower_bytes, shown_byte, status_bytes}
use Rattle.sim_module.specs.Stores.{staged_at, stored_byte, stored_bytes, stored_high, stored_low}
use Rattle.sim_module.proofs.EachLane.{each_lane}
use Rattle.sim_module.proofs.HeldLanes.{controls_mapped}
use Rattle.sim_module.proofs.IdleModule.{Shows, high_test}
use Rattle.managed_module.proofs.SteadyModules.{not_128, not_at_apply, stage_bytes}

-- ---- values by lane

-- eight lanes of which each has its own of these values
pub lanes_are : (f : Lane → ℕ) (sim : SimModule) (values : List ℕ) → length sim.lanes ≡ 8 → length values ≡ 8 → ((lane : ℕ) → IsLane lane → f (lane_at sim lane) ≡ at_lane values lane) → map f sim.lanes ≡ values
lanes_are f sim values eight len each =
    ext_get_or 0 (map f sim.lanes) values (length-map sim.lanes f ∙ eight ∙ sym len)
    (λ k below.
    let here : k < 8 = omega (arith, below, len, length-map sim.lanes f, eight) in
    let index : k + 1 - 1 ≡ k = omega arith in
    get_or-map f sim.lanes k no_lane 0 (omega (arith, here, eight)) ∙ ap (λ (n : ℕ). f (get_or sim.lanes n no_lane)) (sym index) ∙ each (k + 1) (omega arith, omega (arith, here))
    ∙ ap (λ (n : ℕ). get_or values n 0) index)

pub lane_is_of : (f : Lane → ℕ) (sim : SimModule) (values : List ℕ) (lane : ℕ) → length sim.lanes ≡ 8 → map f sim.lanes ≡ values → IsLane lane → f (lane_at sim lane) ≡ at_lane values lane
lane_is_of f sim values lane eight are (from, to) = sym (get_or-map f sim.lanes (lane - 1) no_lane 0 (omega (arith, from, to, eight))) ∙ ap (λ (values : List ℕ). get_or values (lane - 1) 0) are

-- equal bytes differ on no lane
pub same_differs : (bytes : List ℕ) → differing_lane bytes bytes ≡ None
same_differs bytes = none_found (λ lane. not (at_lane bytes lane == at_lane bytes lane)) 1 8 (λ lane from to. ap not (eq-eqb (at_lane bytes lane) (at_lane bytes lane) refl))

-- ---- the store

in_staged : (address : ℕ) → first_byte registers.StagedControl ≤ address → address < first_byte registers.StagedControl + byte_count registers.StagedControl → is_in registers.StagedControl address ≡ true
in_staged address from to = and_from _ _ (le-leb (first_byte registers.StagedControl) address from) (lt-ltb address (first_byte registers.StagedControl + byte_count registers.StagedControl) to)

byte_is : (sim : SimModule) (address byte : ℕ) → Shows 0x10 sim → first_byte registers.StagedControl ≤ address → address < first_byte registers.StagedControl + byte_count registers.StagedControl → stored_byte sim address byte ≡ staged_at sim (address - first_byte registers.StagedControl + 1) byte
unfolding stored_byte
byte_is sim address byte shows from to =
    let upper : 128 ≤ address = omega (arith, from) in
    let staged = staged_at sim (address - first_byte registers.StagedControl + 1) byte in
    let rest = if is_in registers.StagedControl address then staged else sim in
    let applies = if address == first_byte registers.ApplyDPInit then applied sim (lanes_in byte) else rest in
    ap (λ (low : Bool). if low then stored_low sim address byte else if is_mapped sim 0x10 then stored_high sim address byte else sim) (high_test address upper)
    ∙ ap (λ (on : Bool). if on then stored_high sim address byte else sim) (controls_mapped sim shows)
    ∙ ap (λ (t : Bool). if t then record sim { deinit = lanes_in byte } else applies) (not_128 address from)
    ∙ ap (λ (t : Bool). if t then applied sim (lanes_in byte) else rest) (not_at_apply address from)
    ∙ ap (λ (t : Bool). if t then staged else sim) (in_staged address from to)

-- the bytes are staged on the lanes from this place on, and the places before are left alone
record IsStagedFrom (sim after : SimModule) (place : ℕ) (bytes : List ℕ) : Type 0 where
  eight : length after.lanes ≡ length sim.lanes
  new : (k : ℕ) → k < length bytes → (get_or after.lanes (place + k) no_lane).staged ≡ get_or bytes k 0
  old : (k : ℕ) → k < place → (get_or after.lanes k no_lane).staged ≡ (get_or sim.lanes k no_lane).staged

abbrev staged_lane : SimModule → ℕ → ℕ → Lane
staged_lane sim place byte = record (get_or sim.lanes place no_lane) { staged = byte }

abbrev staged_in : SimModule → ℕ → ℕ → SimModule
staged_in sim place byte = record sim { lanes = set sim.lanes place (staged_lane sim place byte) }

staged_more : (sim after : SimModule) (place byte : ℕ) (bytes : List ℕ) → place < length sim.lanes → IsStagedFrom (staged_in sim place byte) after (place + 1) bytes → IsStagedFrom sim after place (byte ∷ bytes)
staged_more sim after place byte bytes within rest = record {
  eight = rest.eight ∙ length-set sim.lanes place (staged_lane sim place byte);
  new = λ k below. by k below;
  old = λ k below.
      let other : k ≢ place = (λ same. omega (arith, same, below)) in
      rest.old k (omega (arith, below)) ∙ ap (λ (l : Lane). l.staged) (get_or-set_other sim.lanes place k (staged_lane sim place byte) no_lane other);
} where
  by : (k : ℕ) → k < length (byte ∷ bytes) → (get_or after.lanes (place + k) no_lane).staged ≡ get_or (byte ∷ bytes) k 0
  by zero below =
      let here : place + 0 ≡ place = omega arith in
      ap (λ (n : ℕ). (get_or after.lanes n no_lane).staged) here ∙ rest.old place (omega arith) ∙ ap (λ (l : Lane). l.staged) (get_or-set_same sim.lanes place (staged_lane sim place byte) no_lane within)
  by (suc k) below =
      let there : place + suc k ≡ place + 1 + k = omega arith in
      ap (λ (n : ℕ). (get_or after.lanes n no_lane).staged) there ∙ rest.new k (omega (arith, below))

staged_from : (sim : SimModule) (place : ℕ) (bytes : List ℕ) → Shows 0x10 sim → length sim.lanes ≡ 8 → place + length bytes ≤ 8 → IsStagedFrom sim (stored_bytes sim (first_byte registers.StagedControl + place) bytes) place bytes
staged_from sim place [] shows eight few = record { eight = refl; new = λ k below. absurd (omega (arith, below)); old = λ k below. refl }
staged_from sim place (byte ∷ bytes) shows eight few =
    let address = first_byte registers.StagedControl + place in
    let next = staged_in sim place byte in
    let index : address - first_byte registers.StagedControl + 1 - 1 ≡ place = omega arith in
    let is : stored_byte sim address byte ≡ next = byte_is sim address byte shows (omega arith) (omega (arith, few)) ∙ ap (λ (n : ℕ). staged_in sim n byte) index in
    let shown : Shows 0x10 next = record { bank = shows.bank; number = shows.number } in
    let rest = staged_from next (place + 1) bytes shown (length-set sim.lanes place (staged_lane sim place byte) ∙ eight) (omega (arith, few)) in
    let address_more : first_byte registers.StagedControl + (place + 1) ≡ address + 1 = omega arith in
    subst (λ (s : SimModule). IsStagedFrom sim (stored_bytes s (address + 1) bytes) place (byte ∷ bytes)) (sym is)
    (staged_more sim (stored_bytes next (address + 1) bytes) place byte bytes (omega (arith, few, eight)) (subst (λ (n : ℕ). IsStagedFrom next (stored_bytes next n bytes) (place + 1) bytes) address_more rest))

pub stages_all : (sim : SimModule) (control : List ℕ) → Shows 0x10 sim → length sim.lanes ≡ 8 → length control ≡ 8 → staged_bytes (stored_bytes sim (first_byte registers.StagedControl) control) ≡ control
stages_all sim control shows eight len =
    let after = stored_bytes sim (first_byte registers.StagedControl) control in
    let from : IsStagedFrom sim after 0 control = staged_from sim 0 control shows eight (omega (arith, len)) in
    let after_eight : length after.lanes ≡ 8 = from.eight ∙ eight in
    lanes_are (λ (l : Lane). l.staged) after control after_eight len
    (λ lane within.
    let index : 0 + (lane - 1) ≡ lane - 1 = omega arith in
    ap (λ (n : ℕ). (get_or after.lanes n no_lane).staged) (sym index) ∙ from.new (lane - 1) (omega (arith, within.0, within.1, len)))

-- what the store leaves as it was
pub record LeavesRest (sim after : SimModule) : Type 0 where
  pub deinit : after.deinit ≡ sim.deinit
  pub delays : after.delays ≡ sim.delays
  pub active : active_bytes after ≡ active_bytes sim

pub leaves_rest : (sim : SimModule) (bytes : List ℕ) → LeavesRest sim (stored_bytes sim (first_byte registers.StagedControl) bytes)
leaves_rest sim bytes =
    stage_bytes (LeavesRest sim)
    (λ between lane byte same. record {
      deinit = same.deinit;
      delays = same.delays;
      active = map-set_same (λ (l : Lane). l.active) between.lanes (lane - 1) (record (lane_at between lane) { staged = byte }) no_lane refl ∙ same.active;
    })
    sim (first_byte registers.StagedControl) bytes (omega arith) (record { deinit = refl; delays = refl; active = refl })

-- ---- the read

on_controls : (sim : SimModule) (page : List ℕ) (address : ℕ) → 128 ≤ address → Shows 0x10 sim → shown_byte sim page address ≡ first_shown (configuration_bytes sim address) (slice_index page (place_in_half address))
unfolding shown_byte
on_controls sim page address high shows =
    let byte = slice_index page (place_in_half address) in
    let rest = if is_mapped sim 0x11 then status_bytes sim address else [] in
    ap (λ (low : Bool). first_shown (if low then lower_bytes sim byte address else if is_mapped sim 0x10 then configuration_bytes sim address else rest) byte) (high_test address high)
    ∙ ap (λ (on : Bool). first_shown (if on then configuration_bytes sim address else rest) byte) (controls_mapped sim shows)

shown_staged : (sim : SimModule) (page : List ℕ) → Shows 0x10 sim → map (shown_byte sim page) (range_with_len (first_byte registers.StagedControl) (byte_count registers.StagedControl)) ≡ map (λ lane. (lane_at sim lane).staged) (range_with_len 1 8)
shown_staged sim page shows = λ i.
    on_controls sim page (first_byte registers.StagedControl) (omega arith) shows i ∷ on_controls sim page (first_byte registers.StagedControl + 1) (omega arith) shows i
    ∷ on_controls sim page (first_byte registers.StagedControl + 2) (omega arith) shows i ∷ on_controls sim page (first_byte registers.StagedControl + 3) (omega arith) shows i
    ∷ on_controls sim page (first_byte registers.StagedControl + 4) (omega arith) shows i ∷ on_controls sim page (first_byte registers.StagedControl + 5) (omega arith) shows i
    ∷ on_controls sim page (first_byte registers.StagedControl + 6) (omega arith) shows i ∷ on_controls sim page (first_byte registers.StagedControl + 7) (omega arith) shows i ∷ []

-- what is read is what is staged
pub staged_is_read : (sim : SimModule) (page : List ℕ) → Shows 0x10 sim → length sim.lanes ≡ 8 → map (shown_byte sim page) (range_with_len (first_byte registers.StagedControl) (byte_count registers.StagedControl)) ≡ staged_bytes sim
staged_is_read sim page shows eight =
    let staged = λ (lane : Lane). lane.staged in
    let len : length (staged_bytes sim) ≡ 8 = length-map sim.lanes staged ∙ eight in
    shown_staged sim page shows
    ∙ sym (each_lane 0 (λ lane. (lane_at sim lane).staged) (staged_bytes sim) len
    (λ k below.
    let index : k + 1 - 1 ≡ k = omega arith in
    get_or-map staged sim.lanes k no_lane 0 (omega (arith, below, len, eight)) ∙ ap (λ (n : ℕ). (get_or sim.lanes n no_lane).staged) (sym index)))
