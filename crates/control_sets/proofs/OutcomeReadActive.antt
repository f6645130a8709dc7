-- A success of provisioning has read the control bytes as active.
use Rattle.std.proofs.Common.{Bool, ◌≡◌, ℕ, List, [], ◌∷◌, Ok, refl, subst, inl, inr}
use Rattle.field_tables.specs.LaneSets.{Lanes, byte_of}
use Rattle.bus_model.specs.declared.operation.Step.{Step}
use Rattle.conversations.specs.Selecting.{trusted}
use Rattle.control_sets.specs.Pages.{EachStep, History, read_selection, selection}
use Rattle.control_sets.specs.OutcomeOperations.{Confirms, apply, control_page, read_active, read_module_state, read_staged, set_deinit, stage, status_page}
use Rattle.control_sets.specs.OutcomeOfProvisioning.{IsProvisioningBy, IsProvisioningStepBy}
use Rattle.control_sets.specs.OutcomeSuccess.{ReadsActive}
use Rattle.control_sets.proofs.OutcomeWords.{not_among, success_ends}

confirmed : (doubts : Bool) (control : List ℕ) (lanes : Lanes) (step : Step) (before : History) → step.op ≡ read_active → IsProvisioningStepBy doubts control lanes step before → Confirms status_page (trusted doubts before)
confirmed doubts control lanes step before is (inl among) = absurd (not_among (read_module_state ∷ read_selection ∷ selection control_page ∷ selection status_page ∷ []) step.op read_active is refl among)
confirmed doubts control lanes step before is (inr (inl (among, there))) = there
confirmed doubts control lanes step before is (inr (inr (among, there))) = absurd (not_among (set_deinit (byte_of lanes) ∷ stage control ∷ read_staged ∷ apply (byte_of lanes) ∷ []) step.op read_active is refl among)

pub reads_active : (doubts : Bool) (control : List ℕ) (lanes : Lanes) (full : Type 0) (history : History) (steps : ℕ) → IsProvisioningBy doubts control lanes full history (Ok steps) → ReadsActive doubts control history
reads_active doubts control lanes full history steps outcome =
    let ends = success_ends outcome.answered in
    record {
      last = ends.last;
      before = ends.before;
      split = ends.split;
      gives = ends.ends;
      confirmed = confirmed doubts control lanes ends.last ends.before ends.ends.0 (subst (EachStep (IsProvisioningStepBy doubts control lanes)) ends.split outcome.shape).0;
    }
