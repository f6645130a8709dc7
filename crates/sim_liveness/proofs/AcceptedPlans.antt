-- A module refuses no lane of a plan of what it advertises.
use Rattle.std.proofs.Common.{◌≡◌, ℕ, ◌-◌, ◌/◌, ◌%◌, ◌&&◌, ◌||◌, ◌==◌, not, Bool, true, false, List, [], ◌∷◌, Option, Some, None, get_or, Contains, refl, sym, ap, subst, ◌∙◌, inl, inr, is_none, nat_le, arith}
use Rattle.std.specs.Option.{option_map_or}
use Rattle.std.specs.FinSet as set
use Rattle.std.proofs.lemmas.Bool.{and_from, and_parts, le-leb, or_left, or_right}
use Rattle.std.proofs.lemmas.Bool.Decides.{nat_tests}
use Rattle.std.proofs.lemmas.List.{get_or-map}
use Rattle.std.proofs.lemmas.List.Elements.{All-contains}
use Rattle.std.proofs.lemmas.List.Folds.{Any-from_list_any, list_any-from_Any}
use Rattle.std.proofs.lemmas.List.FromFn.{get_or-map-range_with_len}
use Rattle.field_tables.specs.FieldValues.{is_set}
use Rattle.field_tables.specs.declared.field.Field.TheVariants as fields
use Rattle.field_tables.specs.declared.table.cmis.CmisField.TheVariants as cmis
use Rattle.field_tables.specs.FirstFault.{first_fault}
use Rattle.field_tables.specs.LaneBytes.{contains-run_of}
use Rattle.field_tables.specs.LaneSets.{IsLane, every_lane}
use Rattle.field_tables.proofs.TrueTests.{range_passes}
use Rattle.applications.specs.Advertised.{Advertised}
use Rattle.applications.specs.declared.app.App.{App}
use Rattle.applications.specs.declared.conventions.Conventions.{Conventions}
use Rattle.datapath_states.specs.declared.state.PathState.{PathState}
use Rattle.datapath_states.specs.declared.state.PathState.TheVariants.{Deactivated}
use Rattle.datapath_states.specs.declared.status.ConfigStatus.{ConfigStatus}
use Rattle.datapath_states.specs.declared.status.ConfigStatus.TheVariants.{RejectedInvalidAppSel, RejectedInvalidDataPath, RejectedInvalidSi, RejectedLanesInUse, RejectedPartialDataPath}
use Rattle.plan_certificate.specs.declared.path.Path.{Path}
use Rattle.plan_certificate.specs.Paths.{app_of, host_lanes, is_allowed}
use Rattle.control_sets.specs.declared.control_byte.ControlByte.{ControlByte}
use Rattle.control_sets.specs.ControlBytes.{byte_on, byte_saying, control_byte, control_bytes, control_in, control_of, path_on}
use Rattle.control_sets.specs.HostPaths.{agree, are_same, control_at, first_lane, is_used}
use Rattle.control_sets.specs.PlanLanes.{is_taken, lanes_outside}
use Rattle.control_sets.proofs.Bytes.{takes}
use Rattle.control_sets.proofs.LaneBits.{in_byte_of}
use Rattle.control_sets.proofs.LanesOfPaths.{same_control, same_itself}
use Rattle.control_sets.proofs.Owners.{owner, takes_run}
use Rattle.control_sets.proofs.PlanLaneLaws.{contains_outside}
use Rattle.control_sets.proofs.ReadBack.{first_of, path_agrees}
use Rattle.control_sets.proofs.ToldLanes.{IsPathOf, IsPlan, lane_cases, told_free, told_of}
use Rattle.sim_module.specs.declared.lane.Lane.{Lane}
use Rattle.sim_module.specs.declared.module.SimModule.{SimModule}
use Rattle.sim_module.specs.Applies.{app_numbered, are_paths_within, are_staged_alike, is_applicable, is_explicit, is_of_active_path, is_of_staged_path, is_path_for, is_path_right, is_staged, refusal, staged_app, staged_first}
use Rattle.sim_module.specs.Lanes.{active_bytes, is_deactivated, is_path_state, lane_at, no_lane, staged_bytes}
use Rattle.sim_module.specs.Registers.{is_from}
use Rattle.sim_module.proofs.KeptPathLanes.{of_path}
use Rattle.sim_liveness.specs.Accepted.{AcceptsPlans, IsStagedPlan, mask_of, read_by}
use Rattle.sim_liveness.proofs.OwnPlans.{no_app_0, own_app, plan_read}

-- ---- the mask

pub in_mask : (advert : Advertised) (kept : List Path) (lane : ℕ) → IsLane lane → set.contains (mask_of advert kept) lane ≡ not (is_taken advert kept lane)
in_mask advert kept lane within =
    let among : set.contains every_lane lane ≡ true = contains-run_of 1 8 lane ∙ grind (arith, nat_tests, within.0, within.1) in
    in_byte_of (lanes_outside advert kept) lane within ∙ contains_outside advert kept lane ∙ ap (λ (one : Bool). one && not (is_taken advert kept lane)) among

-- ---- control bytes of a plan have no ExplicitControl

not_one : (n : ℕ) → n ≡ 0 → (n == 1) ≡ false
not_one n zeroth = grind (arith, nat_tests, zeroth)

even : (control : ControlByte) → byte_saying control / 1 % 2 ≡ 0
even control = omega arith

not_explicit : (on : Option Path) → is_set (fields.Cmis cmis.StagedExplicit) (byte_on on) ≡ false
not_explicit None = refl
not_explicit (Some path) = not_one (byte_saying (control_in path) / 1 % 2) (even (control_in path))

module _ (conventions : Conventions) (paths kept : List Path) (sim : SimModule) (is : IsStagedPlan conventions paths kept sim) where
  abbrev advert : Advertised
  advert = read_by conventions sim

  abbrev bytes : List ℕ
  bytes = control_bytes advert paths

  abbrev plan : IsPlan advert paths
  plan = plan_read conventions sim.image paths is.plan

  told : (lane : ℕ) → control_at (staged_bytes sim) lane ≡ control_at bytes lane
  told lane = ap (λ (bytes : List ℕ). control_at bytes lane) is.staged

  pub staged_is : (lane : ℕ) → IsLane lane → (lane_at sim lane).staged ≡ control_byte advert paths lane
  unfolding control_bytes
  staged_is lane (from, to) =
      sym (get_or-map (λ (l : Lane). l.staged) sim.lanes (lane - 1) no_lane 0 (omega (arith, from, to, is.eight)))
      ∙ ap (λ (bytes : List ℕ). get_or bytes (lane - 1) 0) is.staged
      ∙ get_or-map-range_with_len (control_byte advert paths) 1 8 (lane - 1) lane 0 (omega (arith, to, from)) (omega (arith, from))

  explicit_off : (lane : ℕ) → IsLane lane → is_explicit sim lane ≡ false
  unfolding control_byte
  explicit_off lane within = ap (is_set (fields.Cmis cmis.StagedExplicit)) (staged_is lane within) ∙ not_explicit (path_on advert paths lane)

  -- ---- a lane of a kept path is of that path alone

  kept_owner : (path : Path) (lane other : ℕ) → Contains paths path → takes advert lane path ≡ true → takes advert other path ≡ true → is_taken advert kept other ≡ true → is_taken advert kept lane ≡ true
  kept_owner path lane other one takes_lane takes_other taken =
      let (k, owns, below, here, takes_it) = Any-from_list_any (takes advert other) kept taken in
      let both = sym (owner advert paths owns other is.plan (subst (Contains paths) here (is.keeps k owns below)) takes_it) ∙ owner advert paths path other is.plan one takes_other in
      let same : owns ≡ path = cc in
      list_any-from_Any (takes advert lane) kept (k, owns, below, here, ap (takes advert lane) same ∙ takes_lane)

  active_owner : (lane other : ℕ) → IsLane lane → IsLane other → is_of_active_path sim lane other ≡ true → is_taken advert kept other ≡ true → is_taken advert kept lane ≡ true
  active_owner lane other within there active taken =
      let agreed : agree (active_bytes sim) lane other ≡ true = (and_parts _ _ active).1 in
      (of_path advert kept (active_bytes sim) is.active other there taken).others lane within (turned (control_at (active_bytes sim) lane) (control_at (active_bytes sim) other) agreed) where
        turned : (control other : ControlByte) → are_same control other ≡ true → are_same other control ≡ true
        turned control other same = ap (λ (c : ControlByte). are_same other c) (same_control control other same) ∙ same_itself other

  -- ---- no reason holds against a lane of the mask

  lane_free : (lane : ℕ) → IsLane lane → path_on advert paths lane ≡ None → control_at (staged_bytes sim) lane ≡ control_of 0
  lane_free lane within none = told lane ∙ told_free advert paths lane within none

  lane_told : (lane : ℕ) (path : Path) → IsPathOf advert paths path → takes advert lane path ≡ true → control_at (staged_bytes sim) lane ≡ control_in path
  lane_told lane path of taken = told lane ∙ told_of advert paths path lane plan of taken

  allowed : (path : Path) → Contains paths path → is_allowed advert path ≡ true
  allowed path one = All-contains (λ path. is_allowed advert path ≡ true) paths path is.plan.allowed one

  app_is : (lane : ℕ) (path : Path) → IsPathOf advert paths path → takes advert lane path ≡ true → staged_app sim lane ≡ Some (app_of advert path)
  app_is lane path of taken =
      ap (λ (control : ControlByte). app_numbered sim.advert control.app_sel_code) (lane_told lane path of taken)
      ∙ ap (λ (own : Advertised). app_numbered own path.app) is.own ∙ own_app conventions sim.image path (allowed path of.one)

  first_is : (lane : ℕ) (path : Path) → IsPathOf advert paths path → takes advert lane path ≡ true → staged_first sim lane ≡ path.host
  first_is lane path of taken = ap first_lane (lane_told lane path of taken) ∙ first_of path of.lanes.first

  none_staged : (lane : ℕ) → IsLane lane → path_on advert paths lane ≡ None → staged_app sim lane ≡ None
  none_staged lane within none =
      ap (λ (control : ControlByte). app_numbered sim.advert control.app_sel_code) (lane_free lane within none)
      ∙ ap (λ (own : Advertised). app_numbered own 0) is.own ∙ no_app_0 sim.image

  starts_there : (path : Path) → is_allowed advert path ≡ true → set.contains (app_of advert path).host_starts path.host ≡ true
  unfolding is_allowed
  starts_there path allowed = (and_parts _ _ (and_parts _ _ (and_parts _ _ (and_parts _ _ (and_parts _ _ allowed).0).0).0).1).1

  alike : (lane : ℕ) (path : Path) → IsPathOf advert paths path → takes advert lane path ≡ true → are_staged_alike sim (host_lanes advert path) lane ≡ true
  alike lane path of taken =
      range_passes (λ other. not (set.contains (host_lanes advert path) other) || agree (staged_bytes sim) lane other) 1 8 (λ other from to. by other (takes advert other path) refl) where
        by : (other : ℕ) (has : Bool) → takes advert other path ≡ has → (not (takes advert other path) || agree (staged_bytes sim) lane other) ≡ true
        by other true e = or_right _ _ (ap (λ (bytes : List ℕ). agree bytes lane other) is.staged ∙ path_agrees advert paths path lane other plan of taken e)
        by other false e = or_left _ _ (ap not e)

  right : (lane : ℕ) (path : Path) → IsPathOf advert paths path → takes advert lane path ≡ true → is_path_right sim lane ≡ true
  right lane path of taken =
      let app = app_of advert path in
      let room : nat_le app.host_lanes (9 - path.host) ≡ true = le-leb app.host_lanes (9 - path.host) (omega (arith, of.lanes.last)) in
      ap (λ (found : Option App). option_map_or (is_path_for sim lane (staged_first sim lane)) found true) (app_is lane path of taken)
      ∙ ap (λ (first : ℕ). is_path_for sim lane first app) (first_is lane path of taken)
      ∙ and_from _ _ (and_from _ _ (and_from _ _ room (starts_there path (allowed path of.one))) taken) (alike lane path of taken)

  -- ---- both its paths are in the mask

  within_by : (lane other : ℕ) → IsLane other → (is_taken advert kept other ≡ true → (is_of_staged_path sim lane other || is_of_active_path sim lane other) ≡ false) → (taken : Bool) → is_taken advert kept other ≡ taken
      → (set.contains (mask_of advert kept) other || not (is_of_staged_path sim lane other || is_of_active_path sim lane other)) ≡ true
  within_by lane other there apart true e = or_right _ _ (ap not (apart e))
  within_by lane other there apart false e = or_left _ _ (in_mask advert kept other there ∙ ap not e)

  neither : (a b : Bool) → (a ≡ true → ⊥) → (b ≡ true → ⊥) → (a || b) ≡ false
  neither true b f g = absurd (f refl)
  neither false true f g = absurd (g refl)
  neither false false f g = refl

  no_active : (lane other : ℕ) → IsLane lane → IsLane other → is_taken advert kept lane ≡ false → is_taken advert kept other ≡ true → is_of_active_path sim lane other ≡ true → ⊥
  no_active lane other within there free taken active = let wrong : false ≡ true = sym free ∙ active_owner lane other within there active taken in cc

  staged_taken : (lane other : ℕ) (path : Path) → IsPathOf advert paths path → takes advert lane path ≡ true → is_of_staged_path sim lane other ≡ takes advert other path
  staged_taken lane other path of taken =
      ap (λ (found : Option App). option_map_or (λ (app : App). is_from (staged_first sim lane) app.host_lanes other) found false) (app_is lane path of taken)
      ∙ ap (λ (first : ℕ). is_from first (app_of advert path).host_lanes other) (first_is lane path of taken)
      ∙ sym (takes_run advert path other)

  inside : (lane : ℕ) → IsLane lane → is_taken advert kept lane ≡ false → ((other : ℕ) → IsLane other → is_taken advert kept other ≡ true → is_of_staged_path sim lane other ≡ true → ⊥) → are_paths_within sim (mask_of advert kept) lane ≡ true
  inside lane within free apart =
      range_passes (λ other. set.contains (mask_of advert kept) other || not (is_of_staged_path sim lane other || is_of_active_path sim lane other)) 1 8
      (λ other from to.
      let there : IsLane other = (from, omega (arith, to)) in
      within_by lane other there (λ taken. neither (is_of_staged_path sim lane other) (is_of_active_path sim lane other) (apart other there taken) (no_active lane other within there free taken)) (is_taken advert kept other) refl)

  abbrev IsWithin : ℕ → Type 0
  IsWithin lane = are_paths_within sim (mask_of advert kept) lane ≡ true

  inside_free : (lane : ℕ) → IsLane lane → is_taken advert kept lane ≡ false → path_on advert paths lane ≡ None → IsWithin lane
  inside_free lane within free none = inside lane within free (λ other there taken staged.
      let off : is_of_staged_path sim lane other ≡ false = ap (λ (found : Option App). option_map_or (λ (app : App). is_from (staged_first sim lane) app.host_lanes other) found false) (none_staged lane within none) in
      let wrong : false ≡ true = sym off ∙ staged in cc)

  inside_path : (lane : ℕ) (path : Path) → IsLane lane → is_taken advert kept lane ≡ false → IsPathOf advert paths path → takes advert lane path ≡ true → IsWithin lane
  inside_path lane path within free of takes_lane = inside lane within free (λ other there taken staged.
      let takes_other : takes advert other path ≡ true = sym (staged_taken lane other path of takes_lane) ∙ staged in
      let wrong : false ≡ true = sym free ∙ kept_owner path lane other of.one takes_lane takes_other taken in cc)

  -- ---- so it isn't refused

  deactivated : (lane : ℕ) → IsLane lane → is_taken advert kept lane ≡ false → is_deactivated sim lane ≡ true
  deactivated lane within free = ap (λ (state : PathState). is_path_state state Deactivated) (is.down lane within free)

  no_fault : (a b c d e : Bool) → a ≡ true → b ≡ false → c ≡ false → d ≡ false → e ≡ true
      → first_fault ((not a, RejectedLanesInUse) ∷ (b, RejectedInvalidAppSel) ∷ (c, RejectedInvalidSi) ∷ (d, RejectedInvalidDataPath) ∷ (not e, RejectedPartialDataPath) ∷ []) ≡ None
  no_fault a b c d e down app si path whole =
      (λ i. first_fault ((not (down i), RejectedLanesInUse) ∷ (app i, RejectedInvalidAppSel) ∷ (si i, RejectedInvalidSi) ∷ (path i, RejectedInvalidDataPath) ∷ (not (whole i), RejectedPartialDataPath) ∷ []))

  and_off : (a b : Bool) → b ≡ false → (a && b) ≡ false
  and_off true b off = off
  and_off false b off = refl

  refused_by : (lane : ℕ) → IsLane lane → is_taken advert kept lane ≡ false → (is_staged sim lane && is_none (staged_app sim lane)) ≡ false → (is_staged sim lane && not (is_path_right sim lane)) ≡ false → IsWithin lane
      → refusal sim (mask_of advert kept) lane ≡ None
  unfolding refusal
  refused_by lane within free app path whole =
      no_fault (is_deactivated sim lane) (is_staged sim lane && is_none (staged_app sim lane)) (is_staged sim lane && is_explicit sim lane) (is_staged sim lane && not (is_path_right sim lane)) (are_paths_within sim (mask_of advert kept) lane)
      (deactivated lane within free) app (and_off (is_staged sim lane) (is_explicit sim lane) (explicit_off lane within)) path whole

  pub not_refused : (lane : ℕ) → IsLane lane → is_taken advert kept lane ≡ false → refusal sim (mask_of advert kept) lane ≡ None
  not_refused lane within free = elim (lane_cases advert paths lane plan) [
    | inl none ↦
        let unstaged : is_staged sim lane ≡ false = ap is_used (lane_free lane within none) in
        refused_by lane within free (ap (λ (staged : Bool). staged && is_none (staged_app sim lane)) unstaged) (ap (λ (staged : Bool). staged && not (is_path_right sim lane)) unstaged) (inside_free lane within free none)
    | inr (path, of, taken) ↦
        refused_by lane within free
        (and_off (is_staged sim lane) (is_none (staged_app sim lane)) (ap (λ (found : Option App). is_none found) (app_is lane path of taken)))
        (and_off (is_staged sim lane) (not (is_path_right sim lane)) (ap not (right lane path of taken)))
        (inside_path lane path within free of taken)
  ]

  applicable_if : (lane : ℕ) → IsLane lane → (taken : Bool) → is_taken advert kept lane ≡ taken → (not (set.contains (mask_of advert kept) lane) || is_none (refusal sim (mask_of advert kept) lane)) ≡ true
  applicable_if lane within true e = or_left _ _ (ap not (in_mask advert kept lane within ∙ ap not e))
  applicable_if lane within false e = or_right _ _ (ap (λ (found : Option ConfigStatus). is_none found) (not_refused lane within e))

  pub accepted : is_applicable sim (mask_of advert kept) ≡ true
  unfolding is_applicable
  accepted = range_passes (λ lane. not (set.contains (mask_of advert kept) lane) || is_none (refusal sim (mask_of advert kept) lane)) 1 8 (λ lane from to. applicable_if lane (from, omega (arith, to)) (is_taken advert kept lane) refl)

pub accepts_plans : AcceptsPlans
accepts_plans conventions paths kept sim is = accepted conventions paths kept sim is
