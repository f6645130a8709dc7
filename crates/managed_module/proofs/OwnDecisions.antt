-- What is decided for a module that suits what is wanted, by an image that was read of it: to wake it up, or to bring its lanes up.
use Rattle.std.proofs.Common.{[], ◌≡◌, ◌⊎◌, inl, inr, ℕ, ◌≤◌, ◌==◌, ◌||◌, nat_le, not, Bool, true, false, List, ◌∷◌, Option, Some, None, refl, sym, ap, subst, ◌∙◌, eq-eqb, if◌then◌else◌, arith}
use Rattle.std.specs.Prelude.{MatchOption}
use Rattle.std.specs.FinMap as finmap
use Rattle.std.specs.FinSet as set
use Rattle.std.proofs.lemmas.Bool.{eqb-true, le-leb, or_left, or_right}
use Rattle.field_tables.specs.declared.field.Field.TheVariants as fields
use Rattle.field_tables.specs.declared.table.cmis.CmisField.TheVariants as cmis
use Rattle.field_tables.specs.LaneSets.{IsLane, Lanes}
use Rattle.field_tables.specs.Readings.{number}
use Rattle.field_tables.proofs.TrueTests.{range_passes}
use Rattle.paged_memory.specs.Images.{Memory}
use Rattle.applications.specs.ActiveSets.{active_in}
use Rattle.applications.specs.Advertised.{Advertised}
use Rattle.managed_module.proofs.ShownAdverts.{with_active}
use Rattle.applications.specs.declared.fault.AdvertFault.{AdvertFault}
use Rattle.control_sets.specs.Durations.{lasts, limit_after, longest_of, patience_for, pause_after, states_of}
use Rattle.port_manager.specs.declared.deciding.Decision.{Decision}
use Rattle.port_manager.specs.declared.deciding.Decision.TheVariants.{Leave, Wake, Sleep, Hold, Activate, Provision}
use Rattle.port_manager.specs.declared.deciding.Goal.{Goal}
use Rattle.port_manager.specs.declared.deciding.LeftBecause.TheVariants.{Advert, NeedsPower}
use Rattle.port_manager.specs.declared.deciding.Wanted.{Wanted}
use Rattle.port_manager.specs.Decisions.{IsDecision, IsDecisionIn, IsJudged, has_no_plan, judged_by, page_of_lanes}
use Rattle.port_manager.specs.Goals.{HasGoal, are_up, conventions_of, has_all, is_activated, is_permitted, may_activate, may_provision}
use Rattle.sim_liveness.specs.Accepted.{read_by}
use Rattle.sim_module.specs.declared.module.SimModule.{SimModule}
use Rattle.managed_module.specs.Succeeds.{IsSpare, Suits}
use Rattle.managed_module.proofs.GoalLanes.{chosen_by, named}
use Rattle.managed_module.proofs.JobTurns.{is_awake}
use Rattle.managed_module.proofs.OwnAdverts.{advert_same, first_key, lanes_key, none_read, second_key}
use Rattle.managed_module.proofs.OwnLanes.{HasLanes, spare_shown}
use Rattle.managed_module.proofs.OwnWeights.{has_a_plan}
use Rattle.managed_module.proofs.OwnLower.{HasLower, same_half}

-- all that is read of a module with pages
pub record IsWholeImage (own image : Memory) : Type 0 where
  pub lower : HasLower image own
  pub first : finmap.get image first_key ≡ finmap.get own first_key
  pub second : finmap.get image second_key ≡ finmap.get own second_key
  pub lanes : finmap.contains_key image lanes_key ≡ true

-- ---- each lane may be taken down

module _ (page : List ℕ) (may : Lanes) (each : (lane : ℕ) → IsLane lane → (set.contains may lane ≡ true) ⊎ (is_activated page lane ≡ false)) (lanes : Lanes) where
  permitted : (lane : ℕ) → 1 ≤ lane → lane ≤ 8 → is_permitted page may lane ≡ true
  permitted lane from to = by (each lane (from, to)) where
    by : (set.contains may lane ≡ true) ⊎ (is_activated page lane ≡ false) → is_permitted page may lane ≡ true
    by (inl among) = or_left (set.contains may lane) (not (is_activated page lane)) among
    by (inr off) = or_right (set.contains may lane) (not (is_activated page lane)) (ap not off)

  pub all_provision : may_provision page lanes may ≡ true
  all_provision = range_passes (λ lane. not (set.contains lanes lane) || is_permitted page may lane) 1 8 (λ lane from to. or_right (not (set.contains lanes lane)) (is_permitted page may lane) (permitted lane from (omega (arith, to))))

  pub all_activate : may_activate page lanes may ≡ true
  all_activate = range_passes (λ lane. set.contains lanes lane || is_permitted page may lane) 1 8 (λ lane from to. or_right (set.contains lanes lane) (is_permitted page may lane) (permitted lane from (omega (arith, to))))

-- ---- lanes are brought up

abbrev pub IsWork : Decision → Type 0
IsWork (Leave reason) = ⊥
IsWork Wake = ⊥
IsWork Sleep = ⊥
IsWork (Hold goal) = Unit {0}
IsWork (Activate goal) = Unit {0}
IsWork (Provision goal) = Unit {0}

work_by : (all up : Bool) (goal : Goal) → IsWork (chosen_by false all up true true goal)
work_by true true goal = tt
work_by true false goal = tt
work_by false up goal = tt

judged_work : (wanted : Wanted) (page : List ℕ) (goal : Goal) → has_no_plan wanted goal ≡ false → ((lane : ℕ) → IsLane lane → (set.contains wanted.may_take_down lane ≡ true) ⊎ (is_activated page lane ≡ false)) → IsWork (judged_by wanted page goal)
judged_work wanted page goal plan each =
    let activate = all_activate page wanted.may_take_down each goal.lanes in
    let provision = all_provision page wanted.may_take_down each goal.outside in
    let all = has_all page goal.control in
    let up = are_up page goal.control goal.lanes in
    subst (λ (none : Bool). IsWork (chosen_by none all up (may_activate page goal.lanes wanted.may_take_down) (may_provision page goal.outside wanted.may_take_down) goal)) (sym plan)
    (subst (λ (may : Bool). IsWork (chosen_by false all up may (may_provision page goal.outside wanted.may_take_down) goal)) (sym activate)
    (subst (λ (may : Bool). IsWork (chosen_by false all up true may goal)) (sym provision) (work_by all up goal)))

-- a decision for a goal names no other
named_by : (none all up activate provision : Bool) (goal other : Goal) → named (chosen_by none all up activate provision goal) ≡ Some other → goal ≡ other
named_by true all up activate provision goal other e = absurd (let wrong : None ≡ Some other = e in cc)
named_by false true true activate provision goal other e = absurd (let wrong : None ≡ Some other = e in cc)
named_by false true false true provision goal other e = let same : Some goal ≡ Some other = e in cc
named_by false true false false provision goal other e = absurd (let wrong : None ≡ Some other = e in cc)
named_by false false up activate true goal other e = let same : Some goal ≡ Some other = e in cc
named_by false false up activate false goal other e = absurd (let wrong : None ≡ Some other = e in cc)

named_goal : (wanted : Wanted) (page : List ℕ) (goal other : Goal) → named (judged_by wanted page goal) ≡ Some other → goal ≡ other
named_goal wanted page goal other e =
    named_by (has_no_plan wanted goal) (has_all page goal.control) (are_up page goal.control goal.lanes) (may_activate page goal.lanes wanted.may_take_down) (may_provision page goal.outside wanted.may_take_down) goal other e

-- lanes are activated straight away where page 11h shows the control bytes of all
activates_by : (none all up activate provision : Bool) (goal other : Goal) → chosen_by none all up activate provision goal ≡ Activate other → (all ≡ true) × (goal ≡ other)
activates_by true all up activate provision goal other e = absurd cc
activates_by false true true activate provision goal other e = absurd cc
activates_by false true false true provision goal other e = (refl, let same : Activate goal ≡ Activate other = e in cc)
activates_by false true false false provision goal other e = absurd cc
activates_by false false up activate true goal other e = absurd cc
activates_by false false up activate false goal other e = absurd cc

activates_all : (wanted : Wanted) (page : List ℕ) (goal other : Goal) → judged_by wanted page goal ≡ Activate other → has_all page other.control ≡ true
activates_all wanted page goal other e =
    let by = activates_by (has_no_plan wanted goal) (has_all page goal.control) (are_up page goal.control goal.lanes) (may_activate page goal.lanes wanted.may_take_down) (may_provision page goal.outside wanted.may_take_down) goal other e in
    subst (λ (goal : Goal). has_all page goal.control ≡ true) by.1 by.0

-- ---- a decision

module _ (sim : SimModule) (wanted : Wanted) (suits : Suits sim wanted) (image : Memory) (whole : IsWholeImage sim.image image) (lanes : HasLanes image sim) (decision : Decision) where
  -- it brings up lanes for a goal that the module has
  pub record IsWorkFor : Type 0 where
    pub work : IsWork decision
    pub ready : number image (fields.Cmis cmis.ModuleState) ≡ 3
    pub goals : (goal : Goal) → named decision ≡ Some goal → HasGoal (with_active (active_in image) (read_by (conventions_of wanted) sim)) wanted lanes.page goal
    pub all : (goal : Goal) → decision ≡ Activate goal → has_all lanes.page goal.control ≡ true

  -- or the module isn't ready yet
  abbrev pub IsGood : Type 0
  IsGood = IsWorkFor ⊎ ((decision ≡ Wake) × (number image (fields.Cmis cmis.ModuleState) ≡ 3 → ⊥))

  -- each lane that is shown as up may be taken down
  each_may : (page : List ℕ) → lanes.page ≡ page → (lane : ℕ) → IsLane lane → (set.contains wanted.may_take_down lane ≡ true) ⊎ (is_activated page lane ≡ false)
  each_may page same lane within = by (suits.may lane within) where
    by : (set.contains wanted.may_take_down lane ≡ true) ⊎ IsSpare sim lane → (set.contains wanted.may_take_down lane ≡ true) ⊎ (is_activated page lane ≡ false)
    by (inl among) = inl among
    by (inr spare) = inr (ap (λ (page : List ℕ). is_activated page lane) (sym same) ∙ spare_shown lanes.page sim lane lanes.shows within spare)

  on_page : (found : Option (List ℕ)) → number image (fields.Cmis cmis.ModuleState) ≡ 3 → page_of_lanes image ≡ found → IsJudged wanted image found decision → IsGood
  on_page None ready none judged = absurd (let wrong : Some lanes.page ≡ None = sym lanes.there ∙ none in cc)
  on_page (Some page) ready there (goal, has, is) =
      let shown : lanes.page ≡ page = (let both : Some lanes.page ≡ Some page = sym lanes.there ∙ there in cc) in
      let same = advert_same image sim.image whole.lower whole.first whole.second (conventions_of wanted) in
      let own = subst (λ (advert : Advertised). HasGoal advert wanted page goal) same has in
      inl (record {
        ready = ready;
        work = subst IsWork (sym is) (judged_work wanted page goal (has_a_plan sim wanted (active_in image) page goal suits.plan own) (each_may page shown));
        all = λ other e. subst (λ (page : List ℕ). has_all page other.control ≡ true) (sym shown) (activates_all wanted page goal other (sym is ∙ e));
        goals = λ other e.
            subst (λ (page : List ℕ). HasGoal (with_active (active_in image) (read_by (conventions_of wanted) sim)) wanted page other) (sym shown)
            (subst (HasGoal (with_active (active_in image) (read_by (conventions_of wanted) sim)) wanted page) (named_goal wanted page goal other (ap named (sym is) ∙ e)) own);
      })

  not_three : (number image (fields.Cmis cmis.ModuleState) == 3) ≡ false → number image (fields.Cmis cmis.ModuleState) ≡ 3 → ⊥
  not_three off three = let wrong : true ≡ false = sym (eq-eqb (number image (fields.Cmis cmis.ModuleState)) 3 three) ∙ off in cc

  in_state : (ready : Bool) → (number image (fields.Cmis cmis.ModuleState) == 3) ≡ ready → IsDecisionIn wanted image ready decision → IsGood
  in_state true e judged = on_page (page_of_lanes image) (eqb-true (number image (fields.Cmis cmis.ModuleState)) 3 e) refl judged
  in_state false e is =
      let power : number image (fields.Cmis cmis.MaxPower) ≡ number sim.image (fields.Cmis cmis.MaxPower) = same_half image sim.image (fields.Cmis cmis.MaxPower) 1 whole.first in
      let enough : nat_le (number image (fields.Cmis cmis.MaxPower)) wanted.max_power ≡ true = le-leb (number image (fields.Cmis cmis.MaxPower)) wanted.max_power (omega (arith, power, suits.power)) in
      inr (is ∙ ap (λ (within : Bool). if within then Wake else Leave NeedsPower) enough, not_three e)

  pub decides : IsDecision wanted image decision → IsGood
  decides judged =
      let none = none_read (conventions_of wanted) sim.image refl suits.read image whole.lower whole.first whole.second whole.lanes in
      in_state (number image (fields.Cmis cmis.ModuleState) == 3) refl
      (subst (λ (found : Option AdvertFault). MatchOption found (IsDecisionIn wanted image (number image (fields.Cmis cmis.ModuleState) == 3) decision) (λ fault. decision ≡ Leave (Advert fault))) none
      (is_awake wanted decision image wanted.asleep suits.awake judged))

-- ---- how long the module's states last

pub patience_same : (own image : Memory) → IsWholeImage own image → patience_for image ≡ patience_for own
patience_same own image whole =
    let up = same_half image own (fields.Cmis cmis.MaxDurationModulePwrUp) 1 whole.second in
    let down = same_half image own (fields.Cmis cmis.MaxDurationModulePwrDn) 1 whole.second in
    let init = same_half image own (fields.Cmis cmis.MaxDurationDPInit) 1 whole.second in
    let deinit = same_half image own (fields.Cmis cmis.MaxDurationDPDeinit) 1 whole.second in
    let on = same_half image own (fields.Cmis cmis.MaxDurationDPTxTurnOn) 1 whole.second in
    let off = same_half image own (fields.Cmis cmis.MaxDurationDPTxTurnOff) 1 whole.second in
    let states : states_of image ≡ states_of own = (λ i. lasts (up i) ∷ lasts (down i) ∷ lasts (init i) ∷ lasts (deinit i) ∷ lasts (on i) ∷ lasts (off i) ∷ []) in
    ap (λ (states : List ℕ). record { pause = pause_after (longest_of states); limit = limit_after (longest_of states) }) states
