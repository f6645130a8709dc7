-- The tasks of provisioning read the active control bytes on their page, and end with that.
use Rattle.std.proofs.Common.{◌≡◌, ℕ, zero, suc, ◌+◌, ◌<◌, Bool, true, false, List, [], ◌∷◌, length, Option, Some, None, refl, sym, ap, subst, ◌∙◌, arith}
use Rattle.std.specs.List.{slice_get}
use Rattle.std.proofs.lemmas.Option.{slice_get_within}
use Rattle.arrayvec.specs.ArrayVec.{ArrayVec}
use Rattle.bus_model.specs.declared.operation.Op.{Op}
use Rattle.bus_model.specs.declared.operation.Reply.{Reply}
use Rattle.bus_model.specs.declared.operation.Reply.TheVariants.{Bytes, Done, Refused}
use Rattle.bus_model.specs.declared.operation.Step.{Step}
use Rattle.bus_model.specs.Operations.{Answers}
use Rattle.bus_model.specs.SameOperation.{same_op}
use Rattle.conversations.specs.declared.event.Event.TheVariants.{Made, Waited, Lacked, Asked}
use Rattle.conversations.specs.declared.next.Next.TheVariants.{Do}
use Rattle.conversations.specs.Events.{Events, steps_of}
use Rattle.field_tables.specs.LaneSets.{Lanes}
use Rattle.control_sets.specs.declared.fault.ProvisionFault.{ProvisionFault}
use Rattle.control_sets.specs.declared.fault.ProvisionFault.TheVariants.{ActiveDiffers}
use Rattle.control_sets.specs.declared.procedures.judgement.ReplyJudgement.{ReplyJudgement}
use Rattle.control_sets.specs.declared.procedures.judgement.ReplyJudgement.TheVariants.{Met, NotYet, Fails}
use Rattle.control_sets.specs.declared.procedures.procedure.Work.{Work}
use Rattle.control_sets.specs.declared.procedures.procedure.Work.TheVariants.{Provisioning, Activation}
use Rattle.control_sets.specs.declared.procedures.task.Task.{Task}
use Rattle.control_sets.specs.declared.procedures.task.Task.TheVariants.{FindReady, Deinitialize, AwaitDeactivated, Stage, CheckStaged, Apply, AwaitApplied, CheckActive, AwaitActivated}
use Rattle.control_sets.specs.Judgements.{differing_lane, judged, judgement, met_unless}
use Rattle.control_sets.specs.OutcomeOperations.{read_active, status_page}
use Rattle.control_sets.specs.Pages.{History}
use Rattle.control_sets.specs.Progress.{EachIsWanted, EndsList, hand_after, judged_at, page_by, standing, task_at, tasks_of, told_at, wants_by}
use Rattle.control_sets.specs.Tasks.{operation, page_of, provisioning}
use Rattle.control_sets.proofs.OutcomeLanes.{bytes_agree}
use Rattle.explicit_provisioning.specs.ExplicitProcedures.{tasks_need}
use Rattle.explicit_provisioning.specs.LastReads.{read_settings}
use Rattle.explicit_provisioning.proofs.LastReadLaws.{AreOn}

-- ---- on which page

pub active_on_page : (task : Task) → same_op read_active (operation task) ≡ true → page_of task ≡ Some status_page
active_on_page FindReady same = absurd cc
active_on_page (Deinitialize bits) same = absurd cc
active_on_page (AwaitDeactivated lanes) same = absurd cc
active_on_page (Stage control) same = absurd cc
active_on_page (CheckStaged control) same = absurd cc
active_on_page (Apply bits) same = absurd cc
active_on_page (AwaitApplied lanes) same = absurd cc
active_on_page (CheckActive control) same = refl
active_on_page (AwaitActivated lanes) same = absurd cc

pub settings_on_page : (task : Task) → same_op read_settings (operation task) ≡ true → page_of task ≡ Some status_page
settings_on_page FindReady same = absurd cc
settings_on_page (Deinitialize bits) same = absurd cc
settings_on_page (AwaitDeactivated lanes) same = absurd cc
settings_on_page (Stage control) same = absurd cc
settings_on_page (CheckStaged control) same = absurd cc
settings_on_page (Apply bits) same = absurd cc
settings_on_page (AwaitApplied lanes) same = absurd cc
settings_on_page (CheckActive control) same = absurd cc
settings_on_page (AwaitActivated lanes) same = absurd cc

module _ (op : Op) (on_page : (task : Task) → same_op op (operation task) ≡ true → page_of task ≡ Some status_page) where
  needed_by : (fault : Option ProvisionFault) (found : Option Task) (made : Op) → wants_by fault found ≡ Do made → same_op op made ≡ true → page_by found ≡ Some status_page
  needed_by fault None made asked same = absurd cc
  needed_by fault (Some task) made asked same = let is : operation task ≡ made = cc in on_page task (ap (same_op op) is ∙ same)

  pub tasks_on_page : (work : Work) (events : Events) → EachIsWanted (tasks_of work) (steps_of events) → AreOn status_page op (tasks_need work) events
  tasks_on_page work [] each = tt
  tasks_on_page work (Made step ∷ before) (asked, answers, each) =
      (λ same. needed_by (standing (tasks_of work) (steps_of before)).1 (hand_after (tasks_of work) (steps_of before)) step.op asked same, tasks_on_page work before each)
  tasks_on_page work (Waited time ∷ before) each = tasks_on_page work before each
  tasks_on_page work (Lacked page ∷ before) each = tasks_on_page work before each
  tasks_on_page work (Asked number ∷ before) each = tasks_on_page work before each

-- ---- how they end

-- the newest step read these control bytes as active
pub record ReadActive (control : List ℕ) (own : History) : Type 0 where
  pub newest : Step
  pub before : History
  pub split : own ≡ newest ∷ before
  pub reads : newest.op ≡ read_active
  pub gives : newest.reply ≡ Bytes (record { items = control })

module _ (control : List ℕ) (lanes : Lanes) where
  last_task : (met : ℕ) (task : Task) → slice_get (provisioning control lanes) met ≡ Some task → slice_get (provisioning control lanes) (met + 1) ≡ None → task ≡ CheckActive control
  last_task zero task is none = absurd cc
  last_task (suc zero) task is none = absurd cc
  last_task (suc (suc zero)) task is none = absurd cc
  last_task (suc (suc (suc zero))) task is none = absurd cc
  last_task (suc (suc (suc (suc zero)))) task is none = absurd cc
  last_task (suc (suc (suc (suc (suc zero))))) task is none = absurd cc
  last_task (suc (suc (suc (suc (suc (suc zero)))))) task is none = absurd cc
  last_task (suc (suc (suc (suc (suc (suc (suc zero))))))) task is none = cc
  last_task (suc (suc (suc (suc (suc (suc (suc (suc n)))))))) task is none =
      let within : suc (suc (suc (suc (suc (suc (suc (suc n))))))) < 8 = slice_get_within (provisioning control lanes) (suc (suc (suc (suc (suc (suc (suc (suc n)))))))) task is in
      absurd (omega (arith, within))

  none_differs : (lane : Option ℕ) → met_unless ActiveDiffers lane ≡ Met → lane ≡ None
  none_differs None e = refl
  none_differs (Some lane) e = absurd cc

  met_by : (reply : Reply) → length control ≡ 8 → Answers read_active reply → judgement (CheckActive control) reply ≡ Met → reply ≡ Bytes (record { items = control })
  unfolding judged
  met_by (Bytes bytes) eight answers met =
      ap (λ (items : List ℕ). Bytes (record { items = items })) (bytes_agree bytes.items control answers eight (none_differs (differing_lane bytes.items control) met))
  met_by Done eight answers met = absurd cc
  met_by Refused eight answers met = absurd cc

  module _ (step : Step) (before : History) (eight : length control ≡ 8) (answers : Answers step.op step.reply) where
    by_judged : (met : ℕ) (task : Task) (found : ReplyJudgement) → slice_get (provisioning control lanes) met ≡ Some task → operation task ≡ step.op → judgement task step.reply ≡ found
        → (judged_at (met, None) found).1 ≡ None → task_at (provisioning control lanes) (judged_at (met, None) found).0 (judged_at (met, None) found).1 ≡ None → ReadActive control (step ∷ before)
    by_judged met task NotYet is made at fault none = absurd cc
    by_judged met task (Fails found) is made at fault none = absurd cc
    by_judged met task Met is made at fault none =
        let last = last_task met task is none in
        let reads : step.op ≡ read_active = sym made ∙ ap operation last in
        record {
          newest = step;
          before = before;
          split = refl;
          reads = reads;
          gives = met_by step.reply eight (subst (λ (o : Op). Answers o step.reply) reads answers) (sym (ap (λ (t : Task). judgement t step.reply) last) ∙ at);
        }

    by_hand : (met : ℕ) (fault : Option ProvisionFault) (found : Option Task) → task_at (provisioning control lanes) met fault ≡ found → wants_by fault found ≡ Do step.op
        → (told_at found (met, fault) step.reply).1 ≡ None → task_at (provisioning control lanes) (told_at found (met, fault) step.reply).0 (told_at found (met, fault) step.reply).1 ≡ None → ReadActive control (step ∷ before)
    by_hand met fault None is asked no_fault none = absurd cc
    by_hand met (Some fault) (Some task) is asked no_fault none = absurd cc
    by_hand met None (Some task) is asked no_fault none = let made : operation task ≡ step.op = cc in by_judged met task (judgement task step.reply) is made refl no_fault none

  pub tasks_end : (own : History) → length control ≡ 8 → EndsList (provisioning control lanes) own None → ReadActive control own
  tasks_end [] eight ends = let none : slice_get (provisioning control lanes) 0 ≡ None = ends.none in absurd cc
  tasks_end (step ∷ before) eight ends =
      let s = standing (provisioning control lanes) before in
      by_hand step before eight ends.each.1 s.0 s.1 (task_at (provisioning control lanes) s.0 s.1) refl ends.each.0 ends.fault ends.none
