-- The lanes of one kept path, and that a module at rest keeps them apart from all others.
use Rattle.std.proofs.Common.{◌≡◌, ℕ, ◌+◌, ◌&&◌, not, Bool, true, false, None, Some, List, All, sym, ap, subst, ◌∙◌}
use Rattle.std.proofs.Math.Bool.{and-false}
use Rattle.std.proofs.lemmas.Bool.{and_from, le-leb, lt-ltb}
use Rattle.std.proofs.lemmas.List.Elements.{All-contains}
use Rattle.std.proofs.lemmas.List.Folds.{Any-from_list_any, list_any-from_Any}
use Rattle.std.specs.FinSet as set
use Rattle.field_tables.specs.LaneBytes.{contains-run_of}
use Rattle.field_tables.specs.LaneSets.{IsLane, byte_of, every_lane, lanes_in}
use Rattle.applications.specs.Advertised.{Advertised}
use Rattle.plan_certificate.specs.declared.path.Path.{Path}
use Rattle.plan_certificate.specs.Paths.{app_of}
use Rattle.control_sets.specs.declared.control_byte.ControlByte.{ControlByte}
use Rattle.control_sets.specs.ControlBytes.{control_of}
use Rattle.control_sets.specs.HostPaths.{agree, are_same, begins, control_at, first_lane, host_paths, is_used}
use Rattle.control_sets.specs.LanesOfPaths.{TakesWhatAgrees}
use Rattle.control_sets.specs.PlanLanes.{is_taken, lanes_outside}
use Rattle.control_sets.specs.PlanPaths.{host_path_of}
use Rattle.control_sets.proofs.Begun.{begun_hosts}
use Rattle.control_sets.proofs.Bytes.{takes}
use Rattle.control_sets.proofs.LaneBits.{in_byte_of}
use Rattle.control_sets.proofs.LanesOfPaths.{begun_parts, lanes_taken, same_control, same_itself}
use Rattle.control_sets.proofs.Owners.{taken_lane}
use Rattle.control_sets.proofs.PlanLaneLaws.{contains_outside}
use Rattle.sim_module.specs.declared.module.SimModule.{SimModule}
use Rattle.sim_module.specs.ActiveSets.{IsAtRest}
use Rattle.sim_module.specs.KeptPaths.{IsActivePath}
use Rattle.sim_module.specs.Lanes.{is_in_progress, lane_at}
use Rattle.sim_module.proofs.KeptLanes.{IsKeptLane, StaysApart, told_at}

-- no lane of a kept path is one of those outside
pub taken_left_out : (advert : Advertised) (kept : List Path) (lane : ℕ) → is_taken advert kept lane ≡ true → set.contains (lanes_outside advert kept) lane ≡ false
taken_left_out advert kept lane taken = contains_outside advert kept lane ∙ ap (λ (is : Bool). set.contains every_lane lane && not is) taken ∙ and-false (set.contains every_lane lane)

-- ---- the lanes of one kept path

-- the lane is one of an active path, whose lanes are all left alone, and whose first lane its control byte names
pub record IsOfPath (active : List ℕ) (lane : ℕ) (left : ℕ → Type 0) : Type 0 where
  pub used : is_used (control_at active lane) ≡ true
  pub first : IsLane (first_lane (control_at active lane))
  pub first_agrees : agree active lane (first_lane (control_at active lane)) ≡ true
  pub others : (other : ℕ) → IsLane other → agree active lane other ≡ true → left other

module _ (advert : Advertised) (kept : List Path) (active : List ℕ) (each : All (IsActivePath advert active) kept) where
  pub of_path : (lane : ℕ) → IsLane lane → is_taken advert kept lane ≡ true → IsOfPath active lane (λ other. is_taken advert kept other ≡ true)
  of_path lane within taken =
      let (k, path, below, here, takes_lane) = Any-from_list_any (takes advert lane) kept taken in
      let told = host_path_of advert path in
      let is_active : IsActivePath advert active path = subst (IsActivePath advert active) here (each k path below) in
      let lanes : TakesWhatAgrees active told = All-contains (TakesWhatAgrees active) (host_paths active) told (lanes_taken active is_active.0) is_active.1 in
      let begun = All-contains (λ host_path. IsLane host_path.host × (begins active host_path.host ≡ true)) (host_paths active) told (begun_hosts active) is_active.1 in
      let parts = begun_parts active path.host begun.1 in
      let agrees : agree active path.host lane ≡ true = (lanes lane within).1 (taken_lane advert path lane takes_lane) in
      let same : control_at active path.host ≡ control_at active lane = same_control (control_at active path.host) (control_at active lane) agrees in
      let host : path.host ≡ first_lane (control_at active lane) = sym parts.1 ∙ ap first_lane same in
      record {
        used = ap is_used (sym same) ∙ parts.0;
        first = subst IsLane host begun.0;
        first_agrees = ap (agree active lane) (sym host) ∙ (λ i. are_same (control_at active lane) (same i)) ∙ same_itself (control_at active lane);
        others = λ other there agreed.
            let its = (lanes other there).0 ((λ i. are_same (same i) (control_at active other)) ∙ agreed) in
            let taken : takes advert other path ≡ true = contains-run_of path.host (app_of advert path).host_lanes other ∙ and_from _ _ (le-leb path.host other its.0) (lt-ltb other (path.host + (app_of advert path).host_lanes) its.1) in
            list_any-from_Any (takes advert other) kept (k, path, below, here, taken);
      }

-- no DPDeinit bit and no Apply bit of theirs is in the byte of those outside
pub mask_outside : (advert : Advertised) (kept : List Path) (lane : ℕ) → IsLane lane → is_taken advert kept lane ≡ true → set.contains (lanes_in (byte_of (lanes_outside advert kept))) lane ≡ false
mask_outside advert kept lane there taken = in_byte_of (lanes_outside advert kept) lane there ∙ taken_left_out advert kept lane taken

-- ---- at the beginning

module _ (active : List ℕ) (lane byte : ℕ) (within : IsLane lane) (sim : SimModule) (rest : IsAtRest active sim) (is_active : (lane_at sim lane).active ≡ byte) where
  told : (other : ℕ) → IsLane other → control_at active other ≡ control_of (lane_at sim other).active
  told other there = ap (λ (bytes : List ℕ). control_at bytes other) (sym rest.active) ∙ told_at sim other rest.eight there

  its_own : control_at active lane ≡ control_of byte
  its_own = told lane within ∙ ap control_of is_active

  pub kept_lane : (left : ℕ → Type 0) → IsOfPath active lane left → IsKeptLane (agree active lane) lane byte
  kept_lane left path = record {
    within = within;
    kept = same_itself (control_at active lane);
    used = ap is_used (sym its_own) ∙ path.used;
    first = subst (λ (control : ControlByte). IsLane (first_lane control)) its_own path.first;
    first_kept = ap (λ (control : ControlByte). agree active lane (first_lane control)) (sym its_own) ∙ path.first_agrees;
  }

  -- if no apply is in progress, and no status of the path's lanes says that one is
  pub begins_apart : ((other : ℕ) → IsLane other → agree active lane other ≡ true → is_in_progress (lane_at sim other) ≡ false) → StaysApart (agree active lane) lane byte sim
  begins_apart quiet = record {
    eight = rest.eight;
    active = is_active;
    same = λ other there same. (λ i. are_same (its_own i) (told other there i)) ∙ same;
    quiet = quiet;
    none = λ other there agreed. rest.none other there;
    apart = λ other kept there some. (let none : None ≡ Some kept = sym (rest.none other there) ∙ some in cc);
  }
