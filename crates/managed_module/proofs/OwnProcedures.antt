-- Provisioning and activation that a reading leads to go well on a module that suits what is wanted, and don't fail.
use Rattle.std.proofs.Common.{◌≡◌, inl, inr, ℕ, ◌+◌, true, List, Some, length, refl, sym, ap, subst, ◌∙◌, arith}
use Rattle.std.proofs.lemmas.Bool.{eqb-true}
use Rattle.bus_model.specs.declared.operation.Op.{Op}
use Rattle.bus_model.specs.declared.operation.Reply.{Reply}
use Rattle.bus_model.specs.Operations.{Answers}
use Rattle.bus_model.specs.ScriptedBus.{ticked_times}
use Rattle.conversations.specs.declared.pausing.Patience.{Patience}
use Rattle.field_tables.specs.LaneSets.{IsLane}
use Rattle.field_tables.proofs.TrueTests.{in_range}
use Rattle.control_sets.specs.Durations.{patience_for}
use Rattle.port_manager.specs.declared.deciding.Goal.{Goal}
use Rattle.port_manager.specs.declared.deciding.Wanted.{Wanted}
use Rattle.port_manager.specs.declared.job.Job.{Job}
use Rattle.port_manager.specs.Goals.{active_at, at_lane, conventions_of, has_all, is_active}
use Rattle.port_manager.specs.Jobs.{activating, asked, provisioning}
use Rattle.port_manager.specs.Turns.{Turn}
use Rattle.port_manager.specs.Turns as turns
use Rattle.sim_liveness.specs.Accepted.{read_by}
use Rattle.sim_module.specs.declared.module.SimModule.{SimModule}
use Rattle.sim_module.specs.Lanes.{active_bytes}
use Rattle.sim_module.specs.Modules.{conduct}
use Rattle.sim_module.specs.OwnAdverts.{own_advert}
use Rattle.managed_module.specs.Managed.{HasHalves}
use Rattle.managed_module.specs.ManagedPlans.{IsReadyFor, LastsFor, most_made, most_until_up}
use Rattle.managed_module.specs.ModuleGoals.{IsOwnGoal}
use Rattle.managed_module.proofs.GoalLanes.{length_of}
use Rattle.managed_module.proofs.OwnTasks.{module_after, reply_of}
use Rattle.managed_module.proofs.PlanJobs.{GoesWell, WellTurn, goes_paused}
use Rattle.managed_module.proofs.PlanStories.{activates_first, in_time_by, provisions_first}
use Rattle.managed_module.proofs.PlanTurns.{early, turn_well}
use Rattle.managed_module.proofs.StagedBytes.{lane_is_of, lanes_are}
use Rattle.port_manager.proofs.TurnCases.{IsAnyTurn}

-- it goes well, after so many operations
abbrev pub IsOnWay : ℕ → SimModule → Job → SimModule → Type 0
IsOnWay most first job sim = (made : ℕ) × GoesWell most (most_until_up most) (patience_for first.image) made job sim

pub way_paused : (most : ℕ) (first : SimModule) (job : Job) (count : ℕ) (sim : SimModule) → IsOnWay most first job sim → IsOnWay most first job (ticked_times conduct count sim)
way_paused most first job count sim (made, goes) = (made, goes_paused most (most_until_up most) (patience_for first.image) made job count sim goes)

-- ---- at the beginning

module _ (most : ℕ) (wanted : Wanted) (sim : SimModule) (goal : Goal) (is : IsOwnGoal most wanted sim goal) where
  -- where page 11h shows the control bytes of all lanes, they are active
  pub all_active : (page : List ℕ) → ((lane : ℕ) → IsLane lane → active_at page lane ≡ at_lane (active_bytes sim) lane) → has_all page goal.control ≡ true → active_bytes sim ≡ goal.control
  all_active page shows all =
      let eight : length goal.control ≡ 8 = ap (λ (control : List ℕ). length control) is.control ∙ length_of (read_by (conventions_of wanted) sim) is.paths in
      lanes_are (λ lane. lane.active) sim goal.control is.steady.eight eight (λ lane within.
      lane_is_of (λ lane. lane.active) sim (active_bytes sim) lane is.steady.eight refl within ∙ sym (shows lane within)
      ∙ eqb-true (active_at page lane) (at_lane goal.control lane) (in_range (is_active page goal.control) 1 8 lane all within.0 (omega (arith, within.1))))

  module _ (own : sim.advert ≡ own_advert sim.image) where
    ready_for : IsReadyFor most (conventions_of wanted) is.paths is.kept goal sim
    ready_for = record {
      halves = is.halves;
      steady = is.steady;
      ready = is.ready;
      own = own;
      fits = record {
        plan = is.plan;
        keeps = is.keeps;
        up = is.active;
        bytes = is.bytes;
        control = is.control;
        lanes = is.lanes;
        outside = is.outside;
      };
    }

    module _ (first : SimModule) (patience : Patience) (same : patience ≡ patience_for first.image) where
      granted : (job : Job) → GoesWell most (most_until_up most) patience 0 job sim → IsOnWay most first job sim
      granted job goes = (0, subst (λ (granted : Patience). GoesWell most (most_until_up most) granted 0 job sim) same goes)

      pub begins_provisioning : IsOnWay most first (provisioning goal patience) sim
      begins_provisioning = granted (provisioning goal patience) (provisions_first most (conventions_of wanted) is.paths is.kept goal patience sim ready_for)

      pub begins_activating : active_bytes sim ≡ goal.control → IsOnWay most first (activating goal patience) sim
      begins_activating active = granted (activating goal patience) (activates_first most (conventions_of wanted) is.paths is.kept goal patience sim ready_for active)

-- ---- one operation

module _ (most : ℕ) (first sim : SimModule) (op : Op) (reply : Reply) (has : HasHalves sim) (answers : Answers op reply) (gives : reply ≡ reply_of sim op) (lasts : LastsFor (most_made most) (patience_for first.image)) where
  abbrev after : SimModule
  after = module_after sim op

  abbrev patience : Patience
  patience = patience_for first.image

  as_way : (made : ℕ) (turn : Turn) → WellTurn ⊥ (λ job. GoesWell most (most_until_up most) patience made job after) turn → WellTurn ⊥ (λ job. IsOnWay most first job after) turn
  as_way made (turns.On job note) (inl up) = inl up
  as_way made (turns.On job note) (inr goes) = inr (made, goes)
  as_way made (turns.Paused job time) goes = (made, goes)
  as_way made (turns.Failed fault) late = late
  as_way made (turns.Left reason) left = left

  pub way_turns : (wanted : Wanted) (job : Job) (turn : Turn) → IsOnWay most first job sim → asked job ≡ Some op → IsAnyTurn wanted job reply turn → WellTurn ⊥ (λ job. IsOnWay most first job after) turn
  way_turns wanted job turn (made, goes) asks is =
      as_way (made + 1) turn
      (turn_well ⊥ most (most_until_up most) patience made sim op reply has answers gives wanted job turn goes asks (in_time_by most patience lasts made job (early most (most_made most) patience made job sim op goes asks) reply goes.time) is)
