-- Each task of activating lanes of a plan that is active is met, or waits for the module: none of them finds a fault.
use Rattle.std.proofs.Common.{◌≡◌, inl, ℕ, zero, suc, ◌-◌, List, [], ◌∷◌, Some, None, refl, sym, ap, subst, ◌∙◌}
use Rattle.std.specs.Prelude.{slice_get}
use Rattle.bus_model.specs.declared.device.Dev.TheVariants.{A0}
use Rattle.bus_model.specs.declared.operation.Op.TheVariants.{Fetch}
use Rattle.bus_model.specs.declared.operation.Reply.{Reply}
use Rattle.field_tables.specs.LaneSets.{Lanes, byte_of, every_lane}
use Rattle.field_tables.specs.Registers.{byte_count, first_byte}
use Rattle.field_tables.specs.declared.field.Register.TheVariants as registers
use Rattle.paged_memory.specs.Images.{Memory}
use Rattle.datapath_states.specs.Lanes.{codes_in}
use Rattle.datapath_states.specs.StateCodes.{code_of}
use Rattle.datapath_states.specs.declared.state.PathState.TheVariants.{Activated}
use Rattle.control_sets.specs.declared.procedures.judgement.ReplyJudgement.{ReplyJudgement}
use Rattle.control_sets.specs.declared.procedures.judgement.ReplyJudgement.TheVariants.{Met, NotYet, Fails}
use Rattle.control_sets.specs.declared.procedures.task.Task.{Task}
use Rattle.control_sets.specs.declared.procedures.task.Task.TheVariants as tasks
use Rattle.control_sets.specs.Judgements.{all_lanes_have, judged_states, judgement}
use Rattle.control_sets.specs.Tasks.{activation, operation}
use Rattle.sim_module.specs.declared.module.SimModule.{SimModule}
use Rattle.sim_liveness.proofs.ReadStates.{shown_codes}
use Rattle.managed_module.specs.Managed.{HasHalves}
use Rattle.managed_module.proofs.PlanApplying.{active_met}
use Rattle.managed_module.proofs.PlanPhases.{Activates, Rests, activates_harmless}
use Rattle.managed_module.proofs.PlanReplies.{Well, never_fails, states_judged}
use Rattle.managed_module.proofs.PlanTaking.{ready_is}
use Rattle.managed_module.proofs.OwnTasks.{OnItsPage, activated_judged, by_task, done, module_after, paths_told, reply_of}

module _ (most : ℕ) (memory : Memory) (control active : List ℕ) (outside lanes : Lanes) (sim : SimModule) (has : HasHalves sim) where
  abbrev Fine : ℕ → SimModule → Type 0
  Fine = Activates most memory control active outside

  abbrev Does : ℕ → Task → Type 0
  Does met task = OnItsPage task sim → (reply : Reply) → reply ≡ reply_of sim (operation task) → (judged : ReplyJudgement) → judgement task reply ≡ judged → Well Fine met judged (module_after sim (operation task))

  after_read : (met address count : ℕ) → Fine met sim → Fine met (module_after sim (Fetch A0 address count))
  after_read met address count at = activates_harmless most memory control active outside (Fetch A0 address count) sim (inl (A0, address, count, refl)) met at

  ready_well : Rests most memory control sim → Does 0 tasks.FindReady
  ready_well rests page reply gives judged j =
      subst (λ (judged : ReplyJudgement). Well Fine 0 judged (module_after sim (operation tasks.FindReady))) (sym (ready_is most sim has reply gives rests.awake.0) ∙ j) (after_read 1 (first_byte registers.GlobalStatus) (byte_count registers.GlobalStatus) rests)

  active_well : Rests most memory control sim → Does 1 (tasks.CheckActive control)
  active_well rests page reply gives judged j =
      subst (λ (judged : ReplyJudgement). Well Fine 1 judged (module_after sim (operation (tasks.CheckActive control)))) (sym (active_met most memory control sim has rests (page 0x11 refl) reply gives) ∙ j)
      (after_read 2 (first_byte registers.ActiveControl) (byte_count registers.ActiveControl) rests)

  release_well : Does 2 (tasks.Deinitialize (255 - byte_of lanes))
  release_well page reply gives judged j =
      let bits = 255 - byte_of lanes in
      subst (λ (judged : ReplyJudgement). Well Fine 2 judged (module_after sim (operation (tasks.Deinitialize bits)))) (sym (ap (judgement (tasks.Deinitialize bits)) (done most sim has (first_byte registers.DPDeinit) (bits ∷ []) reply gives)) ∙ j) tt

  up_well : Does 3 (tasks.AwaitActivated lanes)
  up_well page reply gives Met j = tt
  up_well page reply gives NotYet j = tt
  up_well page reply gives (Fails fault) j =
      let told = paths_told most sim has (tasks.AwaitActivated lanes) (λ bytes. judged_states every_lane lanes Activated (codes_in bytes 8)) refl (activated_judged lanes) (page 0x11 refl) reply gives in
      never_fails (all_lanes_have (code_of Activated) lanes (shown_codes sim)) fault (sym (states_judged sim every_lane lanes Activated) ∙ sym told ∙ j)

  pub activation_well : (met : ℕ) (task : Task) → slice_get (activation control lanes) met ≡ Some task → Fine met sim → Does met task
  activation_well zero task e at = by_task (Does 0) tasks.FindReady task e (ready_well at)
  activation_well (suc zero) task e at = by_task (Does 1) (tasks.CheckActive control) task e (active_well at)
  activation_well (suc (suc zero)) task e at = by_task (Does 2) (tasks.Deinitialize (255 - byte_of lanes)) task e release_well
  activation_well (suc (suc (suc zero))) task e at = by_task (Does 3) (tasks.AwaitActivated lanes) task e up_well
  activation_well (suc (suc (suc (suc met)))) task e at = absurd (let none : None ≡ Some task = e in cc)
