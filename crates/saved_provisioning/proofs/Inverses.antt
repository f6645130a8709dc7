-- What the numbers of provisioning with settings say.
use Rattle.std.proofs.Common.{◌≡◌, ◌≤◌, ◌==◌, ◌&&◌, Bool, true, false, nat_le, Option, Some, None, refl, subst, if◌then◌else◌}
use Rattle.std.proofs.lemmas.Bool.{and_parts, leb-true}
use Rattle.conversations.specs.declared.watching.Look.{Look}
use Rattle.paged_memory.specs.declared.page_addressing.KnownPage.{KnownPage}
use Rattle.control_sets.specs.declared.fault.ProvisionFault.{ProvisionFault}
use Rattle.control_sets.specs.declared.procedures.procedure.saved.SavedProcedure.{SavedProcedure}
use Rattle.control_sets.specs.declared.procedures.procedure.Work.{Work}
use Rattle.control_sets.specs.OutcomeAnswers.{most_steps}
use Rattle.control_sets.specs.Progress.{PatientProcedure, patient_by, tasks_of}
use Rattle.control_sets.specs.SavedNumbers.{can_stand, due_numbered, fault_in, numbered, restored, selected_numbered, work_numbered}
use Rattle.explicit_provisioning.specs.declared.comparing.ComparingStage.{ComparingStage}
use Rattle.explicit_provisioning.specs.declared.staging.StagingStage.{StagingStage}
use Rattle.explicit_provisioning.specs.ExplicitProcedures.{WatchfulTasks}
use Rattle.saved_provisioning.specs.declared.numbers.SavedExplicit.{SavedExplicit}
use Rattle.saved_provisioning.specs.SavedProvisioning.{comparing_in, look_in, provisioning_by, provisioning_in, provisioning_magic, staging_in, with_stages}
use Rattle.saved_provisioning.specs.Standings.{IsUsual, StandsFor, list_of}

same_some : {A : Type 0} (a b : A) → Some a ≡ Some b → a ≡ b
same_some a b same = cc

-- ---- the numbers of a procedure of tasks alone

record Says (numbers : SavedProcedure) (procedure : PatientProcedure) : Type 0 where
  stands : StandsFor numbers procedure.conversation.conversation.conversation
  limit : procedure.limit ≡ most_steps
  few : procedure.steps ≤ most_steps
  doubts : procedure.conversation.conversation.doubts ≡ true
  taken : procedure.conversation.conversation.taken ≡ None

module _ (numbers : SavedProcedure) (procedure : PatientProcedure) where
  says_by : (work : Option Work) (selected : Option KnownPage) (fault : Option (Option ProvisionFault)) (due : Option Bool) →
      work_numbered numbers.work numbers.control numbers.lanes ≡ work → fault_in numbers.fault ≡ fault → numbered numbers true work selected fault due ≡ Some procedure → Says numbers procedure
  says_by (Some work) (Some selected) (Some fault) (Some due) has_work has_fault found = go (nat_le numbers.steps most_steps && can_stand (tasks_of work) numbers.met fault) refl found where
    made : PatientProcedure
    made = patient_by true (record { work = work; met = numbers.met; fault = fault }) selected (record { pause = numbers.pause; limit = numbers.limit }) due numbers.idle numbers.steps

    go : (can : Bool) → (nat_le numbers.steps most_steps && can_stand (tasks_of work) numbers.met fault) ≡ can → (if can then Some made else None) ≡ Some procedure → Says numbers procedure
    go true can is =
        let (few, stands) = and_parts (nat_le numbers.steps most_steps) (can_stand (tasks_of work) numbers.met fault) can in
        subst (λ (p : PatientProcedure). Says numbers p) (same_some made procedure is) (record {
          stands = record { work = has_work; met = refl; fault = has_fault; can = stands };
          limit = refl;
          few = leb-true numbers.steps most_steps few;
          doubts = refl;
          taken = refl;
        })
    go false can is = absurd cc
  says_by _ _ _ _ has_work has_fault found = absurd cc

  says : restored numbers true ≡ Some procedure → Says numbers procedure
  unfolding restored
  says found =
      says_by (work_numbered numbers.work numbers.control numbers.lanes) (selected_numbered numbers.selection numbers.page) (fault_in numbers.fault) (due_numbered numbers.due) refl refl found

-- ---- the numbers of all three conversations

module _ (saved : SavedExplicit) (it : WatchfulTasks) where
  abbrev Stands : WatchfulTasks → Type 0
  Stands whole = IsUsual whole × StandsFor saved.procedure (list_of whole)

  stands_by : (tasks : Option PatientProcedure) (first : Option StagingStage) (last : Option ComparingStage) (look : Option Look) → restored saved.procedure true ≡ tasks →
      provisioning_by saved tasks first last look ≡ Some it → Stands it
  stands_by (Some tasks) (Some first) (Some last) (Some look) is found =
      let said = says saved.procedure tasks is in
      subst Stands (same_some (with_stages saved tasks first last look) it found)
      (record { watches = refl; limit = said.limit; few = said.few; doubts = said.doubts; taken = said.taken; change = refl }, said.stands)
  stands_by _ _ _ _ is found = absurd cc

  sound_by : (sound : Bool) →
      (if sound then provisioning_by saved (restored saved.procedure true) (staging_in saved.staging saved.mixed) (comparing_in saved.comparing) (look_in saved.look saved.left) else None) ≡ Some it → Stands it
  sound_by true found = stands_by (restored saved.procedure true) (staging_in saved.staging saved.mixed) (comparing_in saved.comparing) (look_in saved.look saved.left) refl found
  sound_by false found = absurd cc

  pub kept_stands : provisioning_in saved ≡ Some it → IsUsual it × StandsFor saved.procedure (list_of it)
  unfolding provisioning_in
  kept_stands found = sound_by (saved.magic == provisioning_magic) found
