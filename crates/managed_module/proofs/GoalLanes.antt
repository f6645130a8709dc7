-- A goal's lanes are those that its control bytes use.
use Rattle.std.proofs.Common.{◌≡◌, inl, inr, ℕ, ◌==◌, ◌&&◌, not, Bool, true, false, List, Option, Some, None, filter, length, nat_le, refl, sym, ap, subst, ◌∙◌, if◌then◌else◌, arith}
use Rattle.std.specs.Prelude.{MatchOption}
use Rattle.std.specs.FinSet as set
use Rattle.std.specs.FinSet.{contains-retain, nat_cmp-IsAntisymmetric}
use Rattle.std.proofs.lemmas.Bool.Decides.{nat_tests}
use Rattle.std.proofs.lemmas.List.Elements.{All-filter}
use Rattle.std.proofs.lemmas.List.Folds.{Any-from_list_any, list_any-from_Any}
use Rattle.std.proofs.lemmas.List.FromFn.{length-map-range_with_len}
use Rattle.std.proofs.lemmas.List.Kept.{AllPairs-filter}
use Rattle.field_tables.specs.declared.field.Field.TheVariants as fields
use Rattle.field_tables.specs.declared.table.cmis.CmisField.TheVariants as cmis
use Rattle.field_tables.specs.Readings.{number}
use Rattle.field_tables.specs.LaneBytes.{contains-run_of}
use Rattle.field_tables.specs.LaneSets.{IsLane, Lanes, every_lane}
use Rattle.paged_memory.specs.Images.{Memory}
use Rattle.applications.specs.Advertised.{Advertised}
use Rattle.applications.specs.Refusals.{advert_fault_under}
use Rattle.applications.specs.declared.fault.AdvertFault.{AdvertFault}
use Rattle.plan_certificate.specs.declared.path.Path.{Path}
use Rattle.plan_certificate.specs.Paths.{is_allowed}
use Rattle.plan_certificate.specs.Plans.{IsAdmissible, are_apart}
use Rattle.control_sets.specs.ControlBytes.{control_byte, control_bytes}
use Rattle.control_sets.specs.HostPaths.{is_used}
use Rattle.control_sets.specs.PlanLanes.{is_taken, plan_lanes}
use Rattle.control_sets.proofs.Bytes.{takes}
use Rattle.control_sets.proofs.ToldLanes.{IsPlan, lane_cases, path_of, told_free, told_of}
use Rattle.std.proofs.lemmas.Bool.{ne_eqb}
use Rattle.port_manager.specs.declared.deciding.Decision.{Decision}
use Rattle.port_manager.specs.declared.deciding.Decision.TheVariants.{Leave, Wake, Sleep, Hold, Activate, Provision}
use Rattle.port_manager.specs.declared.deciding.Goal.{Goal}
use Rattle.port_manager.specs.declared.deciding.LeftBecause.TheVariants.{Advert, NoLanes, NoPlan, NeedsPower, NeedsPermission}
use Rattle.port_manager.specs.declared.deciding.Wanted.{Wanted}
use Rattle.port_manager.specs.Decisions.{IsDecisionAwake, IsDecisionIn, IsJudged, has_no_plan, page_of_lanes}
use Rattle.port_manager.specs.Goals.{HasGoal, advert_of, are_up, conventions_of, has_all, may_activate, may_provision, stays_up, wanted_of}
use Rattle.sim_liveness.specs.Released.{IsInUse}
use Rattle.sim_liveness.proofs.OwnPlans.{plan_read}
use Rattle.managed_module.proofs.JobSteps.{IsWhole}

-- ---- a plan

module _ (advert : Advertised) (paths : List Path) (plan : IsPlan advert paths) where
  among : (lane : ℕ) → IsLane lane → set.contains every_lane lane ≡ true
  among lane (from, to) = contains-run_of 1 8 lane ∙ grind (arith, nat_tests, from, to)

  lane_of_plan : (lane : ℕ) → IsLane lane → set.contains (plan_lanes advert paths) lane ≡ is_taken advert paths lane
  unfolding plan_lanes
  lane_of_plan lane within =
      contains-retain every_lane (is_taken advert paths) lane (λ other tie. ap (is_taken advert paths) (sym (nat_cmp-IsAntisymmetric lane other tie)))
      ∙ ap (λ (one : Bool). one && is_taken advert paths lane) (among lane within)

  taken_used : (lane : ℕ) → IsLane lane → is_taken advert paths lane ≡ true → IsInUse (control_bytes advert paths) lane
  taken_used lane within taken =
      let (k, path, below, here, takes_it) = Any-from_list_any (takes advert lane) paths taken in
      let of = path_of advert paths path plan (k, below, here) in
      ap is_used (told_of advert paths path lane plan of takes_it) ∙ ap not (ne_eqb path.app 0 (λ none. omega (arith, none, of.from_one)))

  used_taken : (lane : ℕ) → IsLane lane → IsInUse (control_bytes advert paths) lane → is_taken advert paths lane ≡ true
  used_taken lane within used = elim (lane_cases advert paths lane plan) [
    | inl none ↦ absurd (let wrong : false ≡ true = sym (ap is_used (told_free advert paths lane within none)) ∙ used in cc)
    | inr (path, of, taken) ↦ let (k, below, here) = of.one in list_any-from_Any (takes advert lane) paths (k, path, below, here, taken)
  ]

pub length_of : (advert : Advertised) (paths : List Path) → length (control_bytes advert paths) ≡ 8
unfolding control_bytes
length_of advert paths = length-map-range_with_len (control_byte advert paths) 1 8

pub still_admissible : (advert : Advertised) (test : Path → Bool) (paths : List Path) → IsAdmissible advert paths → IsAdmissible advert (filter test paths)
still_admissible advert test paths plan = record {
  allowed = All-filter test (λ path. is_allowed advert path ≡ true) paths plan.allowed;
  apart = AllPairs-filter (λ path other. are_apart advert path other ≡ true) test paths plan.apart;
}

-- a goal of such control bytes and lanes
pub whole_by : (advert : Advertised) (paths : List Path) (goal : Goal) → IsPlan advert paths → goal.control ≡ control_bytes advert paths → goal.lanes ≡ plan_lanes advert paths → IsWhole goal
whole_by advert paths goal of control lanes = record {
  eight = ap (λ (control : List ℕ). length control) control ∙ length_of advert paths;
  used = λ lane within inside.
      subst (λ (control : List ℕ). IsInUse control lane) (sym control)
      (taken_used advert paths of lane within (sym (lane_of_plan advert paths of lane within) ∙ ap (λ (lanes : Lanes). set.contains lanes lane) (sym lanes) ∙ inside));
  taken = λ lane within used.
      ap (λ (lanes : Lanes). set.contains lanes lane) lanes ∙ lane_of_plan advert paths of lane within
      ∙ used_taken advert paths of lane within (subst (λ (control : List ℕ). IsInUse control lane) control used);
}

pub whole_goal : (wanted : Wanted) (image : Memory) (page : List ℕ) (goal : Goal) → HasGoal (advert_of wanted image) wanted page goal → IsWhole goal
whole_goal wanted image page goal (plan, is) =
    let advert = advert_of wanted image in
    let paths = wanted_of advert wanted.down plan in
    whole_by advert paths goal (plan_read (conventions_of wanted) image paths (still_admissible advert (stays_up advert wanted.down) plan is.first.candidate.best.admissible)) is.control is.lanes

-- ---- a decision

-- the goal of a decision that takes work
abbrev pub named : Decision → Option Goal
named (Leave reason) = None
named Wake = None
named Sleep = None
named (Hold goal) = None
named (Activate goal) = Some goal
named (Provision goal) = Some goal

abbrev pub is_sleep : Decision → Bool
is_sleep (Leave reason) = false
is_sleep Wake = false
is_sleep Sleep = true
is_sleep (Hold goal) = false
is_sleep (Activate goal) = false
is_sleep (Provision goal) = false

-- it is none to sleep, and names no other goal
abbrev IsOf : Goal → Decision → Type 0
IsOf goal decision = (is_sleep decision ≡ false) × ((other : Goal) → named decision ≡ Some other → goal ≡ other)

abbrev pub chosen_by : Bool → Bool → Bool → Bool → Bool → Goal → Decision
chosen_by no_plan all up may_activate may_provision goal =
    if no_plan then Leave NoPlan
    else if all then (if up then Hold goal else (if may_activate then Activate goal else Leave NeedsPermission))
    else (if may_provision then Provision goal else Leave NeedsPermission)

goal_of : (no_plan all up may_activate may_provision : Bool) (goal : Goal) → IsOf goal (chosen_by no_plan all up may_activate may_provision goal)
goal_of true all up may other goal = (refl, λ goal e. absurd cc)
goal_of false true true may other goal = (refl, λ goal e. absurd cc)
goal_of false true false true other goal = (refl, λ named e. (let same : Some goal ≡ Some named = e in cc))
goal_of false true false false other goal = (refl, λ goal e. absurd cc)
goal_of false false up may true goal = (refl, λ named e. (let same : Some goal ≡ Some named = e in cc))
goal_of false false up may false goal = (refl, λ goal e. absurd cc)

pub record IsJudgedWhole (decision : Decision) : Type 0 where
  pub awake : is_sleep decision ≡ false
  pub whole : (goal : Goal) → named decision ≡ Some goal → IsWhole goal

left_whole : (decision other : Decision) → decision ≡ other → is_sleep other ≡ false → named other ≡ None → IsJudgedWhole decision
left_whole decision other is awake none = record {
  awake = ap is_sleep is ∙ awake;
  whole = λ goal e. absurd (let wrong : None ≡ Some goal = sym none ∙ ap named (sym is) ∙ e in cc);
}

wake_if : (within : Bool) (decision : Decision) → decision ≡ (if within then Wake else Leave NeedsPower) → IsJudgedWhole decision
wake_if true decision is = left_whole decision Wake is refl refl
wake_if false decision is = left_whole decision (Leave NeedsPower) is refl refl

judged_whole : (wanted : Wanted) (image : Memory) (found : Option (List ℕ)) (decision : Decision) → IsJudged wanted image found decision → IsJudgedWhole decision
judged_whole wanted image None decision is = left_whole decision (Leave NoLanes) is refl refl
judged_whole wanted image (Some page) decision (goal, has, is) =
    let of = goal_of (has_no_plan wanted goal) (has_all page goal.control) (are_up page goal.control goal.lanes) (may_activate page goal.lanes wanted.may_take_down) (may_provision page goal.outside wanted.may_take_down) goal in
    record {
      awake = ap is_sleep is ∙ of.0;
      whole = λ other e. subst IsWhole (of.1 other (ap named (sym is) ∙ e)) (whole_goal wanted image page goal has);
    }

in_state : (wanted : Wanted) (image : Memory) (ready : Bool) (decision : Decision) → IsDecisionIn wanted image ready decision → IsJudgedWhole decision
in_state wanted image true decision is = judged_whole wanted image (page_of_lanes image) decision is
in_state wanted image false decision is = wake_if (nat_le (number image (fields.Cmis cmis.MaxPower)) wanted.max_power) decision is

by_advert : (found : Option AdvertFault) (decision : Decision) (In : Type 0) → (In → IsJudgedWhole decision) → MatchOption found In (λ fault. decision ≡ Leave (Advert fault)) → IsJudgedWhole decision
by_advert None decision In whole is = whole is
by_advert (Some fault) decision In whole is = left_whole decision (Leave (Advert fault)) is refl refl

-- a decision for a module that is to be awake
pub decided_whole : (wanted : Wanted) (image : Memory) (decision : Decision) → IsDecisionAwake wanted image decision → IsJudgedWhole decision
decided_whole wanted image decision is = by_advert (advert_fault_under (conventions_of wanted) image) decision (IsDecisionIn wanted image (number image (fields.Cmis cmis.ModuleState) == 3) decision) (in_state wanted image (number image (fields.Cmis cmis.ModuleState) == 3) decision) is
