-- A plan that a module takes is active in time.
use Rattle.std.proofs.Common.{◌≡◌, ℕ, ◌-◌, not, Bool, true, false, List, [], ◌∷◌, Some, sym, ap, ◌∙◌, slice_index, if◌then◌else◌, unwrap_or, arith}
use Rattle.std.specs.FinSet as set
use Rattle.std.specs.FinSet.{contains-empty, empty_of_len}
use Rattle.std.specs.Ordering.{nat_cmp}
use Rattle.std.proofs.lemmas.Bool.{eqb-true, false_from_ne_true}
use Rattle.std.proofs.lemmas.List.FromFn.{get_or-map-range_with_len}
use Rattle.bus_model.specs.declared.device.Dev.TheVariants.{A0}
use Rattle.field_tables.specs.LaneSets.{IsLane, Lanes, byte_of, is_empty, lanes_in}
use Rattle.field_tables.specs.Registers.{first_byte}
use Rattle.field_tables.specs.declared.field.Register.TheVariants as registers
use Rattle.applications.specs.Advertised.{Advertised}
use Rattle.datapath_states.specs.declared.status.ConfigStatus.TheVariants.{Rejected}
use Rattle.plan_certificate.specs.declared.path.Path.{Path}
use Rattle.control_sets.specs.ControlBytes.{control_byte, control_bytes}
use Rattle.control_sets.specs.PlanLanes.{lanes_outside}
use Rattle.sim_module.specs.declared.lane.Lane.{Lane}
use Rattle.sim_module.specs.declared.module.SimModule.{SimModule}
use Rattle.sim_module.specs.Applies.{applied, applied_all, applied_to, begun_lane, dropped_lane, is_applicable, refusal, refused_lane}
use Rattle.sim_module.specs.Lanes.{lane_at}
use Rattle.sim_module.specs.ShownBytes.{is_mapped}
use Rattle.sim_module.specs.Stores.{stored, stored_byte}
use Rattle.sim_module.proofs.HeldLanes.{stored_whole}
use Rattle.sim_module.proofs.LanesInTime.{made_lane}
use Rattle.sim_liveness.specs.Accepted.{AppliesPlans, after_apply, mask_of, read_by}
use Rattle.sim_liveness.proofs.AcceptedPlans.{accepted, in_mask, staged_is}
use Rattle.sim_liveness.proofs.AppliedInTime.{applies_in_time}

-- ---- the store

not_empty : (mask : Lanes) (lane : ℕ) → set.contains mask lane ≡ true → is_empty mask ≡ false
not_empty mask lane inside = false_from_ne_true (is_empty mask) (λ empty.
    (let none : set.contains mask lane ≡ false = ap (λ (lanes : Lanes). set.contains lanes lane) (empty_of_len mask (eqb-true _ _ empty)) ∙ contains-empty nat_cmp lane in cc))

applied_byte : (sim : SimModule) (bits : ℕ) → is_mapped sim 0x10 ≡ true → stored_byte sim (first_byte registers.ApplyDPInit) bits ≡ applied sim (lanes_in bits)
unfolding stored_byte
applied_byte sim bits on = ap (λ (on : Bool). if on then applied sim (lanes_in bits) else sim) on

applied_some : (sim : SimModule) (mask : Lanes) (lane : ℕ) → set.contains mask lane ≡ true → applied sim mask ≡ applied_all sim mask
unfolding applied
applied_some sim mask lane inside = ap (λ (empty : Bool). if empty then sim else applied_all sim mask) (not_empty mask lane inside)

abbrev is_taken_by : SimModule → Advertised → List Path → Bool
is_taken_by sim advert kept = (stored sim A0 (first_byte registers.ApplyDPInit) (byte_of (lanes_outside advert kept) ∷ [])).0

pub after_is : (sim : SimModule) (advert : Advertised) (kept : List Path) (lane : ℕ) → is_mapped sim 0x10 ≡ true → is_taken_by sim advert kept ≡ true → set.contains (mask_of advert kept) lane ≡ true
    → after_apply advert kept sim ≡ applied_all sim (mask_of advert kept)
after_is sim advert kept lane on taken inside =
    stored_whole sim (first_byte registers.ApplyDPInit) (byte_of (lanes_outside advert kept) ∷ []) taken ∙ applied_byte sim (byte_of (lanes_outside advert kept)) on ∙ applied_some sim (mask_of advert kept) lane inside

-- ---- what it begins

begun_by : (sim : SimModule) (mask : Lanes) (lane : ℕ) (inside applicable : Bool) → inside ≡ true → applicable ≡ true
    → (if not inside then dropped_lane (lane_at sim lane) else if applicable then begun_lane (lane_at sim lane) else refused_lane (lane_at sim lane) (unwrap_or (refusal sim mask lane) Rejected)) ≡ begun_lane (lane_at sim lane)
begun_by sim mask lane inside applicable is whole =
    (λ i. if not (is i) then dropped_lane (lane_at sim lane) else if whole i then begun_lane (lane_at sim lane) else refused_lane (lane_at sim lane) (unwrap_or (refusal sim mask lane) Rejected))

begun : (sim : SimModule) (mask : Lanes) (lane : ℕ) → IsLane lane → set.contains mask lane ≡ true → is_applicable sim mask ≡ true → lane_at (applied_all sim mask) lane ≡ begun_lane (lane_at sim lane)
unfolding applied_to
begun sim mask lane within inside whole = made_lane (applied_to sim mask) lane within ∙ begun_by sim mask lane (set.contains mask lane) (is_applicable sim mask) inside whole

pub applies_plans : AppliesPlans
unfolding control_bytes
applies_plans most conventions paths kept sim pauses lane is time on taken long within free =
    let advert = read_by conventions sim in
    let mask = mask_of advert kept in
    let after = after_apply advert kept sim in
    let whole : is_applicable sim mask ≡ true = accepted conventions paths kept sim is in
    let inside : set.contains mask lane ≡ true = in_mask advert kept lane within ∙ ap not free in
    let same : after ≡ applied_all sim mask = after_is sim advert kept lane on taken inside in
    let byte : (lane_at sim lane).staged ≡ slice_index (control_bytes advert paths) (lane - 1) =
    staged_is conventions paths kept sim is lane within ∙ sym (get_or-map-range_with_len (control_byte advert paths) 1 8 (lane - 1) lane 0 (omega (arith, within.0, within.1)) (omega (arith, within.0))) in
    let applying : (lane_at after lane).applying ≡ Some (slice_index (control_bytes advert paths) (lane - 1)) =
    ap (λ (s : SimModule). (lane_at s lane).applying) same ∙ ap (λ (l : Lane). l.applying) (begun sim mask lane within inside whole) ∙ ap (λ (b : ℕ). Some b) byte in
    let count : after.apply_left ≡ sim.delays.apply =
    ap (λ (s : SimModule). s.apply_left) same ∙ ap (λ (applicable : Bool). if applicable then sim.delays.apply else 0) whole in
    applies_in_time after lane (slice_index (control_bytes advert paths) (lane - 1)) pauses within applying (omega (arith, count, time.apply.0)) (omega (arith, count, long))
