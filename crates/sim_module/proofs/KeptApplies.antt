-- A lane of a kept path stays up where other lanes are applied.
use Rattle.std.proofs.Common.{◌≡◌, ℕ, ◌+◌, ◌-◌, Bool, true, false, not, Option, Some, None, is_some, is_none, unwrap_or, [], ◌∷◌, length, get_or, refl, ap, sym, ◌∙◌, ◌&&◌, ◌||◌, if◌then◌else◌, nat_le, nat_lt, arith}
use Rattle.std.specs.List.{list_all}
use Rattle.std.specs.Option.{option_map_or}
use Rattle.std.specs.FinSet as set
use Rattle.std.proofs.lemmas.Bool.{and_parts, leb-true, ltb-true}
use Rattle.std.proofs.lemmas.Bool.Decides.{nat_tests}
use Rattle.std.proofs.lemmas.List.{get_or-map}
use Rattle.std.proofs.lemmas.List.FromFn.{get_or-range_with_len, length-map-range_with_len}
use Rattle.std.proofs.lemmas.List.Sums.{AllPass-from_list_all}
use Rattle.field_tables.specs.FirstFault.{first_fault}
use Rattle.field_tables.specs.LaneBytes.{contains-run_of}
use Rattle.field_tables.specs.LaneSets.{IsLane, Lanes, is_empty, run_of}
use Rattle.applications.specs.declared.app.App.{App}
use Rattle.datapath_states.specs.declared.status.ConfigStatus.{ConfigStatus}
use Rattle.datapath_states.specs.declared.status.ConfigStatus.TheVariants.{Rejected, RejectedLanesInUse, RejectedInvalidAppSel, RejectedInvalidSi, RejectedInvalidDataPath, RejectedPartialDataPath}
use Rattle.control_sets.specs.declared.control_byte.ControlByte.{ControlByte}
use Rattle.control_sets.specs.ControlBytes.{control_of}
use Rattle.control_sets.specs.HostPaths.{are_same, control_at, first_lane, is_used}
use Rattle.control_sets.proofs.LanesOfPaths.{implied, same_control}
use Rattle.sim_module.specs.declared.lane.Lane.{Lane}
use Rattle.sim_module.specs.declared.module.SimModule.{SimModule}
use Rattle.sim_module.specs.Lanes.{all_lanes, is_deactivated, is_in_progress, lane_at, no_lane, staged_bytes}
use Rattle.sim_module.specs.Registers.{is_from}
use Rattle.sim_module.specs.Applies.{applied, applied_all, applied_to, are_paths_within, are_staged_alike, begun_lane, dropped_lane, is_applicable, is_explicit, is_of_active_path, is_of_staged_path, is_path_for, is_path_right, is_staged, refusal, refused_lane, staged_app, staged_first}
use Rattle.sim_module.proofs.LanesInTime.{made_lane}
use Rattle.sim_module.proofs.SoundModule.{either}
use Rattle.sim_module.proofs.KeptLanes.{IsKeptLane, StaysApart, StaysKept}

-- ---- what is so where no reason refuses a lane

record NoReason (a b c : Bool) : Type 0 where
  staged : a ≡ false
  right : b ≡ false
  within : c ≡ true

-- the second, the fourth and the fifth
no_reason : {F : Type 0} (a b c d e : Bool) (v w x y z : F) → first_fault ((a, v) ∷ (b, w) ∷ (c, x) ∷ (d, y) ∷ (not e, z) ∷ []) ≡ None → NoReason b d e
no_reason true b c d e v w x y z none = cc
no_reason false true c d e v w x y z none = cc
no_reason false false true d e v w x y z none = cc
no_reason false false false true e v w x y z none = cc
no_reason false false false false false v w x y z none = cc
no_reason false false false false true v w x y z none = record { staged = refl; right = refl; within = refl }

no_reasons : (sim : SimModule) (mask : Lanes) (lane : ℕ) → refusal sim mask lane ≡ None →
    NoReason (is_staged sim lane && is_none (staged_app sim lane)) (is_staged sim lane && not (is_path_right sim lane)) (are_paths_within sim mask lane)
unfolding refusal
no_reasons sim mask lane none =
    no_reason (not (is_deactivated sim lane)) (is_staged sim lane && is_none (staged_app sim lane)) (is_staged sim lane && is_explicit sim lane) (is_staged sim lane && not (is_path_right sim lane)) (are_paths_within sim mask lane)
    RejectedLanesInUse RejectedInvalidAppSel RejectedInvalidSi RejectedInvalidDataPath RejectedPartialDataPath none

is_nothing : (status : Option ConfigStatus) → is_none status ≡ true → status ≡ None
is_nothing None none = refl
is_nothing (Some status) none = cc

-- what all lanes pass, each does
at_lane : (test : ℕ → Bool) (lane : ℕ) → list_all test all_lanes ≡ true → IsLane lane → test lane ≡ true
at_lane test lane all (from, to) =
    let at : get_or all_lanes (lane - 1) 0 ≡ lane = get_or-range_with_len 1 8 (lane - 1) 0 (omega (arith, from, to)) ∙ omega (arith, from) in
    ap test (sym at) ∙ AllPass-from_list_all test all_lanes all (lane - 1) 0 (omega (arith, from, to))

-- each lane of a mask that can be applied
applicable_at : (sim : SimModule) (mask : Lanes) (lane : ℕ) → is_applicable sim mask ≡ true → IsLane lane → set.contains mask lane ≡ true → refusal sim mask lane ≡ None
unfolding is_applicable
applicable_at sim mask lane applicable within inside =
    let test : ℕ → Bool = λ other. not (set.contains mask other) || is_none (refusal sim mask other) in
    is_nothing (refusal sim mask lane) (implied (set.contains mask lane) (is_none (refusal sim mask lane)) (at_lane test lane applicable within) inside)

-- ---- no lane that can be applied is staged as a kept one is

not_and : (a b : Bool) → (a && not b) ≡ false → a ≡ true → b ≡ true
not_and true true off on = refl
not_and true false off on = cc
not_and false b off on = cc

and_some : (a b : Bool) → (a && b) ≡ false → a ≡ true → b ≡ false
and_some true b off on = off
and_some false b off on = cc

outside_path : (inside staged active : Bool) → (inside || not (staged || active)) ≡ true → inside ≡ false → staged ≡ false
outside_path true staged active all out = cc
outside_path false true active all out = cc
outside_path false false active all out = refl

staged_at : (sim : SimModule) (lane : ℕ) → length sim.lanes ≡ 8 → IsLane lane → control_at (staged_bytes sim) lane ≡ control_of (lane_at sim lane).staged
staged_at sim lane eight (from, to) = ap control_of (get_or-map (λ (l : Lane). l.staged) sim.lanes (lane - 1) no_lane 0 (omega (arith, from, to, eight)))

-- a path that has a lane has its first one
has_first : (first count lane : ℕ) → (nat_le first lane && nat_lt lane (first + count)) ≡ true → is_from first count first ≡ true
has_first first count lane inside =
    let parts = and_parts (nat_le first lane) (nat_lt lane (first + count)) inside in
    let from = leb-true first lane parts.0 in
    let to = ltb-true lane (first + count) parts.1 in
    grind (arith, nat_tests, from, to)

first_of_path : (sim : SimModule) (lane first : ℕ) (app : Option App) → is_none app ≡ false → option_map_or (is_path_for sim lane first) app true ≡ true →
    option_map_or (λ (app : App). is_from first app.host_lanes first) app false ≡ true
first_of_path sim lane first None some right = cc
first_of_path sim lane first (Some app) some right =
    let fits = nat_le app.host_lanes (9 - first) && set.contains app.host_starts first in
    let holds = set.contains (run_of first app.host_lanes) lane in
    let parts = and_parts (fits && holds) (are_staged_alike sim (run_of first app.host_lanes) lane) right in
    has_first first app.host_lanes lane (sym (contains-run_of first app.host_lanes lane) ∙ (and_parts fits holds parts.0).1)

-- a lane of the mask that is staged like this has a path with the first lane, which isn't in the mask
apart_if : (sim : SimModule) (mask : Lanes) (other : ℕ) (control : ControlByte) → length sim.lanes ≡ 8 → is_applicable sim mask ≡ true → IsLane other → set.contains mask other ≡ true →
    is_used control ≡ true → IsLane (first_lane control) → set.contains mask (first_lane control) ≡ false → (same : Bool) → are_same control (control_of (lane_at sim other).staged) ≡ same → same ≡ false
apart_if sim mask other control eight applicable there inside used first outside false is = refl
apart_if sim mask other control eight applicable there inside used first outside true is =
    let told : control_at (staged_bytes sim) other ≡ control = staged_at sim other eight there ∙ sym (same_control control (control_of (lane_at sim other).staged) is) in
    let staged : is_staged sim other ≡ true = ap is_used told ∙ used in
    let starts : staged_first sim other ≡ first_lane control = ap first_lane told in
    let none = no_reasons sim mask other (applicable_at sim mask other applicable there inside) in
    let some : is_none (staged_app sim other) ≡ false = and_some (is_staged sim other) (is_none (staged_app sim other)) none.staged staged in
    let right : is_path_right sim other ≡ true = not_and (is_staged sim other) (is_path_right sim other) none.right staged in
    let on : is_of_staged_path sim other (staged_first sim other) ≡ true = first_of_path sim other (staged_first sim other) (staged_app sim other) some right in
    let test : ℕ → Bool = λ k. set.contains mask k || not (is_of_staged_path sim other k || is_of_active_path sim other k) in
    let off : is_of_staged_path sim other (first_lane control) ≡ false =
    outside_path (set.contains mask (first_lane control)) (is_of_staged_path sim other (first_lane control)) (is_of_active_path sim other (first_lane control))
    (at_lane test (first_lane control) none.within first) outside in
    let here : is_of_staged_path sim other (first_lane control) ≡ true = ap (is_of_staged_path sim other) (sym starts) ∙ on in
    cc

-- ---- what an apply makes of a lane

abbrev after_apply : Bool → Bool → Lane → ConfigStatus → Lane
after_apply inside applicable lane status = if not inside then dropped_lane lane else if applicable then begun_lane lane else refused_lane lane status

active_if : (inside applicable : Bool) (lane : Lane) (status : ConfigStatus) → (after_apply inside applicable lane status).active ≡ lane.active
active_if false applicable lane status = either (λ (l : Lane). l.active ≡ lane.active) (is_some lane.applying) (record lane { status = Rejected; applying = None }) lane refl refl
active_if true true lane status = refl
active_if true false lane status = refl

dropped_kept : (lane : Lane) (kept : Option ℕ) → lane.applying ≡ kept → (dropped_lane lane).applying ≡ None
dropped_kept lane (Some k) is = ap (λ (o : Option ℕ). (if is_some o then record lane { status = Rejected; applying = None } else lane).applying) is
dropped_kept lane None is = ap (λ (o : Option ℕ). (if is_some o then record lane { status = Rejected; applying = None } else lane).applying) is ∙ is

not_dropped : (lane : Lane) → lane.applying ≡ None → dropped_lane lane ≡ lane
not_dropped lane none = ap (λ (o : Option ℕ). if is_some o then record lane { status = Rejected; applying = None } else lane) none

record Begins (inside applicable : Bool) (staged kept : ℕ) : Type 0 where
  asked : inside ≡ true
  whole : applicable ≡ true
  is : staged ≡ kept

-- what an apply keeps was staged, of a lane of its mask
begun_if : (inside applicable : Bool) (lane : Lane) (status : ConfigStatus) (k : ℕ) → (after_apply inside applicable lane status).applying ≡ Some k → Begins inside applicable lane.staged k
begun_if false applicable lane status k some = let none : (dropped_lane lane).applying ≡ None = dropped_kept lane lane.applying refl in cc
begun_if true true lane status k some = let same : lane.staged ≡ k = cc in record { asked = refl; whole = refl; is = same }
begun_if true false lane status k some = cc

abbrev status_of : SimModule → Lanes → ℕ → ConfigStatus
status_of sim mask lane = unwrap_or (refusal sim mask lane) Rejected

lane_after : (sim : SimModule) (mask : Lanes) (lane : ℕ) → IsLane lane → lane_at (applied_all sim mask) lane ≡ after_apply (set.contains mask lane) (is_applicable sim mask) (lane_at sim lane) (status_of sim mask lane)
unfolding applied_to
lane_after sim mask lane within = made_lane (applied_to sim mask) lane within

-- of a lane outside the mask an apply in progress ends
left_after : (sim : SimModule) (mask : Lanes) (lane : ℕ) → IsLane lane → set.contains mask lane ≡ false → lane_at (applied_all sim mask) lane ≡ dropped_lane (lane_at sim lane)
left_after sim mask lane within outside =
    lane_after sim mask lane within ∙ ap (λ (inside : Bool). after_apply inside (is_applicable sim mask) (lane_at sim lane) (status_of sim mask lane)) outside

pub none_after : (sim : SimModule) (mask : Lanes) (lane : ℕ) → IsLane lane → set.contains mask lane ≡ false → (lane_at (applied_all sim mask) lane).applying ≡ None
none_after sim mask lane within outside = ap (λ (l : Lane). l.applying) (left_after sim mask lane within outside) ∙ dropped_kept (lane_at sim lane) (lane_at sim lane).applying refl

module _ (is_kept : ℕ → Bool) (lane byte : ℕ) (one : IsKeptLane is_kept lane byte) (sim : SimModule) (mask : Lanes) (alone : StaysApart is_kept lane byte sim)
    (outside : (other : ℕ) → IsLane other → is_kept other ≡ true → set.contains mask other ≡ false) where
  same_after : (other : ℕ) → IsLane other → is_kept other ≡ true → lane_at (applied_all sim mask) other ≡ lane_at sim other
  same_after other there kept = left_after sim mask other there (outside other there kept) ∙ not_dropped (lane_at sim other) (alone.none other there kept)

  active_after : (other : ℕ) → IsLane other → (lane_at (applied_all sim mask) other).active ≡ (lane_at sim other).active
  active_after other there = ap (λ (l : Lane). l.active) (lane_after sim mask other there) ∙ active_if (set.contains mask other) (is_applicable sim mask) (lane_at sim other) (status_of sim mask other)

  apart_after : (other k : ℕ) → IsLane other → (lane_at (applied_all sim mask) other).applying ≡ Some k → are_same (control_of byte) (control_of k) ≡ false
  apart_after other k there some =
      let begun = begun_if (set.contains mask other) (is_applicable sim mask) (lane_at sim other) (status_of sim mask other) k (sym (ap (λ (l : Lane). l.applying) (lane_after sim mask other there)) ∙ some) in
      ap (λ (b : ℕ). are_same (control_of byte) (control_of b)) (sym begun.is)
      ∙ apart_if sim mask other (control_of byte) alone.eight begun.whole there begun.asked one.used one.first (outside (first_lane (control_of byte)) one.first one.first_kept) _ refl

  apart_applied_all : StaysApart is_kept lane byte (applied_all sim mask)
  apart_applied_all = record {
    eight = length-map-range_with_len (applied_to sim mask) 1 8;
    active = ap (λ (l : Lane). l.active) (same_after lane one.within one.kept) ∙ alone.active;
    same = λ other there same. alone.same other there (ap (λ (b : ℕ). are_same (control_of byte) (control_of b)) (sym (active_after other there)) ∙ same);
    quiet = λ other there kept. ap is_in_progress (same_after other there kept) ∙ alone.quiet other there kept;
    none = λ other there kept. ap (λ (l : Lane). l.applying) (same_after other there kept) ∙ alone.none other there kept;
    apart = apart_after;
  }

  keeps_applied_all : StaysKept is_kept lane byte sim → StaysKept is_kept lane byte (applied_all sim mask)
  keeps_applied_all keeps = record {
    alone = apart_applied_all;
    ready = keeps.ready;
    power = keeps.power;
    path = ap (λ (l : Lane). l.path) (same_after lane one.within one.kept) ∙ keeps.path;
    clear = keeps.clear;
  }

  -- an apply to lanes outside keeps both
  pub apart_applied : StaysApart is_kept lane byte (applied sim mask)
  unfolding applied
  apart_applied = either (StaysApart is_kept lane byte) (is_empty mask) sim (applied_all sim mask) alone apart_applied_all

  pub keeps_applied : StaysKept is_kept lane byte sim → StaysKept is_kept lane byte (applied sim mask)
  unfolding applied
  keeps_applied keeps = either (StaysKept is_kept lane byte) (is_empty mask) sim (applied_all sim mask) keeps (keeps_applied_all keeps)
