-- The numbers of the parts of provisioning with settings stand for it.
use Rattle.std.proofs.Common.{◌≡◌, ℕ, ◌&&◌, Bool, true, nat_le, Option, Some, refl, sym, ap, subst, ◌∙◌}
use Rattle.std.proofs.lemmas.Bool.{and_from, eq-eqb, le-leb}
use Rattle.control_sets.specs.declared.procedures.procedure.saved.SavedProcedure.{SavedProcedure}
use Rattle.control_sets.specs.declared.fault.ProvisionFault.{ProvisionFault}
use Rattle.control_sets.specs.declared.procedures.procedure.Work.{Work}
use Rattle.paged_memory.specs.declared.page_addressing.KnownPage.{KnownPage}
use Rattle.control_sets.specs.OutcomeAnswers.{most_steps}
use Rattle.control_sets.specs.Progress.{PatientProcedure, patient_by, tasks_of}
use Rattle.control_sets.specs.SavedNumbers.{can_stand, due_numbered, fault_in, restored, selected_numbered, work_numbered}
use Rattle.explicit_provisioning.specs.ExplicitProcedures.{ExplicitTasks, WatchfulTasks}
use Rattle.saved_provisioning.specs.declared.numbers.SavedExplicit.{SavedExplicit}
use Rattle.saved_provisioning.specs.SavedProvisioning.{change_in, comparing_in, look_in, provisioning_in, provisioning_magic, staging_in, with_stages}
use Rattle.saved_provisioning.specs.Standings.{IsUsual, StandsFor, list_of, tasks_in}

abbrev own_of : WatchfulTasks → ExplicitTasks
own_of it = it.conversation.conversation.conversation.conversation

-- ---- its tasks, with all that a procedure of these has besides

saved_back : (saved : SavedProcedure) (work : Work) (selected : KnownPage) (fault : Option ProvisionFault) (due : Bool) →
    work_numbered saved.work saved.control saved.lanes ≡ Some work → selected_numbered saved.selection saved.page ≡ Some selected → fault_in saved.fault ≡ Some fault → due_numbered saved.due ≡ Some due →
    (nat_le saved.steps most_steps && can_stand (tasks_of work) saved.met fault) ≡ true →
    restored saved true ≡ Some (patient_by true (record { work = work; met = saved.met; fault = fault }) selected (record { pause = saved.pause; limit = saved.limit }) due saved.idle saved.steps)
unfolding restored
saved_back saved work selected fault due has_work has_selected has_fault has_due can = rw (has_work, has_selected, has_fault, has_due, can) refl

module _ (tasks : SavedProcedure) (it : WatchfulTasks) (usual : IsUsual it) (stands : StandsFor tasks (list_of it)) (selection page due : ℕ) where
  abbrev numbers : SavedProcedure
  numbers = record {
    met = tasks.met;
    steps = it.conversation.steps;
    work = tasks.work;
    lanes = tasks.lanes;
    control = tasks.control;
    selection = selection;
    page = page;
    fault = tasks.fault;
    due = due;
    idle = it.conversation.conversation.idle;
    pause = it.conversation.conversation.patience.pause;
    limit = it.conversation.conversation.patience.limit;
  }

  same_tasks : patient_by true (record { work = (list_of it).work; met = tasks.met; fault = (list_of it).fault }) it.conversation.conversation.conversation.selection
      it.conversation.conversation.patience it.conversation.conversation.due it.conversation.conversation.idle it.conversation.steps ≡ tasks_in it
  same_tasks = λ i. record {
    conversation = record {
      conversation = record {
        conversation = record { work = (list_of it).work; met = stands.met i; fault = (list_of it).fault };
        selection = it.conversation.conversation.conversation.selection;
        taken = sym usual.taken i;
        doubts = sym usual.doubts i;
      };
      patience = it.conversation.conversation.patience;
      due = it.conversation.conversation.due;
      idle = it.conversation.conversation.idle;
    };
    steps = it.conversation.steps;
    limit = sym usual.limit i;
  }

  pub tasks_back : selected_numbered selection page ≡ Some it.conversation.conversation.conversation.selection → due_numbered due ≡ Some it.conversation.conversation.due →
      restored numbers true ≡ Some (tasks_in it)
  tasks_back selected is_due =
      let list = list_of it in
      let can : (nat_le numbers.steps most_steps && can_stand (tasks_of list.work) numbers.met list.fault) ≡ true =
      and_from _ _ (le-leb it.conversation.steps most_steps usual.few) (subst (λ (n : ℕ). can_stand (tasks_of list.work) n list.fault ≡ true) (sym stands.met) stands.can) in
      saved_back numbers list.work it.conversation.conversation.conversation.selection list.fault it.conversation.conversation.due stands.work selected stands.fault is_due can
      ∙ ap (λ (procedure : PatientProcedure). Some procedure) same_tasks

-- ---- the three conversations

pub record AreParts (saved : SavedExplicit) (it : WatchfulTasks) : Type 0 where
  pub magic : saved.magic ≡ provisioning_magic
  pub tasks : restored saved.procedure true ≡ Some (tasks_in it)
  pub first : staging_in saved.staging saved.mixed ≡ Some (own_of it).first.stage
  pub last : comparing_in saved.comparing ≡ Some (own_of it).second.second.stage
  pub look : look_in saved.look saved.left ≡ Some it.look
  pub change : change_in saved ≡ (own_of it).first.change

module _ (saved : SavedExplicit) (it : WatchfulTasks) (usual : IsUsual it) (parts : AreParts saved it) where
  same_whole : with_stages saved (tasks_in it) (own_of it).first.stage (own_of it).second.second.stage it.look ≡ it
  same_whole =
      let same : change_in saved ≡ (own_of it).second.second.change = parts.change ∙ sym usual.change in
      λ i. record {
        conversation = record {
          conversation = record {
            conversation = record {
              conversation = record {
                first = record { change = parts.change i; stage = (own_of it).first.stage };
                second = record { first = list_of it; second = record { change = same i; stage = (own_of it).second.second.stage } };
              };
              selection = it.conversation.conversation.conversation.selection;
              taken = it.conversation.conversation.conversation.taken;
              doubts = it.conversation.conversation.conversation.doubts;
            };
            patience = it.conversation.conversation.patience;
            due = it.conversation.conversation.due;
            idle = it.conversation.conversation.idle;
          };
          steps = it.conversation.steps;
          limit = it.conversation.limit;
        };
        watches = sym usual.watches i;
        look = it.look;
      }

  found_whole : provisioning_in saved ≡ Some (with_stages saved (tasks_in it) (own_of it).first.stage (own_of it).second.second.stage it.look)
  unfolding provisioning_in
  found_whole =
      let sound = eq-eqb saved.magic provisioning_magic parts.magic in
      let tasks = parts.tasks in
      let first = parts.first in
      let last = parts.last in
      let look = parts.look in
      rw (sound, tasks, first, last, look) refl

  pub provisioning_back : provisioning_in saved ≡ Some it
  provisioning_back = found_whole ∙ ap (λ (whole : WatchfulTasks). Some whole) same_whole
