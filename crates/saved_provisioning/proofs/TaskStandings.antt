-- What a reply makes of a list of tasks shows in its numbers.
use Rattle.std.proofs.Common.{◌≡◌, ◌⊎◌, inl, inr, ◌<◌, ◌≤◌, ◌+◌, ℕ, true, length, Option, Some, None, refl, sym, ap, subst, ◌∙◌, arith}
use Rattle.std.proofs.lemmas.Bool.{and_from, le-leb, leb-true, lt-ltb}
use Rattle.std.proofs.lemmas.Option.{slice_get_within}
use Rattle.bus_model.specs.declared.operation.Reply.{Reply}
use Rattle.conversations.specs.declared.next.Next.TheVariants.{Do, Wait, End}
use Rattle.bus_model.specs.declared.operation.Op.{Op}
use Rattle.control_sets.specs.declared.fault.ProvisionFault.{ProvisionFault}
use Rattle.control_sets.specs.declared.procedures.judgement.ReplyJudgement.{ReplyJudgement}
use Rattle.control_sets.specs.declared.procedures.judgement.ReplyJudgement.TheVariants.{Met, NotYet, Fails}
use Rattle.control_sets.specs.declared.procedures.procedure.TaskList.{TaskList}
use Rattle.control_sets.specs.declared.procedures.procedure.Work.{Work}
use Rattle.control_sets.specs.declared.procedures.procedure.Work.TheVariants.{Provisioning, Activation}
use Rattle.control_sets.specs.declared.procedures.procedure.saved.SavedProcedure.{SavedProcedure}
use Rattle.control_sets.specs.declared.procedures.task.Task.{Task}
use Rattle.control_sets.specs.Judgements.{judgement}
use Rattle.control_sets.specs.Progress.{after_reply, hand, judged_at, list_at, task_at, tasks_of, told_at, wants, wants_by}
use Rattle.control_sets.specs.SavedNumbers.{fault_in, is_found, saved_fault}
use Rattle.control_sets.specs.declared.procedures.saved_fault.SavedFault.{SavedFault}
use Rattle.saved_provisioning.proofs.ReplyFaults.{fails_found, fault_back}
use Rattle.saved_provisioning.specs.Standings.{CameFrom, StandsFor}

-- ---- a fault is told at the end

ends_by : (fault : Option ProvisionFault) (found : Option Task) (end : Option ProvisionFault) → wants_by fault found ≡ End end → end ≡ fault
ends_by fault None end is = cc
ends_by fault (Some task) end is = absurd cc

pub fault_told : (list : TaskList) (end : Option ProvisionFault) → wants list ≡ End end → end ≡ list.fault
fault_told list end is = ends_by list.fault (hand list) end is

goes_by : (work : Work) (met : ℕ) (fault : Option ProvisionFault) (op : Op) → wants (list_at work (met, fault)) ≡ Do op → None ≡ fault
goes_by work met None op is = refl
goes_by work met (Some fault) op is = absurd cc

pub no_fault_yet : (list : TaskList) (op : Op) → wants list ≡ Do op → None ≡ list.fault
no_fault_yet list op is = goes_by list.work list.met list.fault op is

never_by : (fault : Option ProvisionFault) (found : Option Task) (time : ℕ) → wants_by fault found ≡ Wait time → ⊥
never_by fault None time is = cc
never_by fault (Some task) time is = cc

pub never_waits : (list : TaskList) (time : ℕ) → wants list ≡ Wait time → ⊥
never_waits list time is = never_by list.fault (hand list) time is

-- ---- a task more was met, or a fault was found, or nothing changed

pub record HasMet (before after : TaskList) : Type 0 where
  pub going : before.fault ≡ None
  pub same : after ≡ list_at before.work (before.met + 1, None)
  pub more : before.met < length (tasks_of before.work)

pub record HasFailed (before after : TaskList) : Type 0 where
  pub fault : ProvisionFault
  pub same : after ≡ list_at before.work (before.met, Some fault)
  pub more : before.met < length (tasks_of before.work)
  pub found : is_found fault ≡ true

abbrev pub Turned : TaskList → TaskList → Type 0
Turned before after = (after ≡ before) ⊎ (HasMet before after ⊎ HasFailed before after)

module _ (work : Work) (met : ℕ) (reply : Reply) where
  by_judgement : (task : Task) (judged : ReplyJudgement) → met < length (tasks_of work) → judgement task reply ≡ judged → Turned (list_at work (met, None)) (list_at work (judged_at (met, None) judged))
  by_judgement task Met more is = inr (inl (record { going = refl; same = refl; more = more }))
  by_judgement task NotYet more is = inl refl
  by_judgement task (Fails fault) more is = inr (inr (record { fault = fault; same = refl; more = more; found = fails_found task reply fault is }))

  turned_by : (fault : Option ProvisionFault) (found : Option Task) → task_at (tasks_of work) met fault ≡ found → Turned (list_at work (met, fault)) (list_at work (told_at found (met, fault) reply))
  turned_by fault None is = inl refl
  turned_by (Some fault) (Some task) is = absurd cc
  turned_by None (Some task) is = by_judgement task (judgement task reply) (slice_get_within (tasks_of work) met task is) refl

turned : (before : TaskList) (reply : Reply) → Turned before (after_reply before reply)
turned before reply = turned_by before.work before.met reply before.fault (hand before) refl

pub came_turned : (before after : TaskList) → CameFrom before after → Turned before after
came_turned before after (inl same) = inl same
came_turned before after (inr (reply, told)) = subst (λ (list : TaskList). Turned before list) (sym told) (turned before reply)

-- there are no more than eight tasks
pub few_tasks : (work : Work) → length (tasks_of work) ≤ 8
few_tasks (Provisioning control lanes) = leb-true (length (tasks_of (Provisioning control lanes))) 8 refl
few_tasks (Activation control lanes) = leb-true (length (tasks_of (Activation control lanes))) 8 refl

-- ---- the numbers

module _ (numbers : SavedProcedure) (before after : TaskList) (stands : StandsFor numbers before) where
  pub stands_same : after.met ≡ before.met → after.fault ≡ None → Turned before after → StandsFor numbers after
  stands_same still none (inl same) = subst (λ (list : TaskList). StandsFor numbers list) (sym same) stands
  stands_same still none (inr (inl met)) = let more : after.met ≡ before.met + 1 = ap (λ (list : TaskList). list.met) met.same in absurd (omega (arith, more, still))
  stands_same still none (inr (inr failed)) = let some : after.fault ≡ Some failed.fault = ap (λ (list : TaskList). list.fault) failed.same in absurd cc

  met_stands : HasMet before after → StandsFor (record numbers { met = numbers.met + 1 }) after
  met_stands met = subst (λ (list : TaskList). StandsFor (record numbers { met = numbers.met + 1 }) list) (sym met.same) (record {
    work = stands.work;
    met = ap (λ (n : ℕ). n + 1) stands.met;
    fault = stands.fault ∙ ap (λ (fault : Option ProvisionFault). Some fault) met.going;
    can = le-leb (before.met + 1) (length (tasks_of before.work)) (omega (arith, met.more));
  })

  failed_stands : (saved : SavedFault) (failed : HasFailed before after) → fault_in saved ≡ Some (Some failed.fault) → StandsFor (record numbers { fault = saved }) after
  failed_stands saved failed is = subst (λ (list : TaskList). StandsFor (record numbers { fault = saved }) list) (sym failed.same) (record {
    work = stands.work;
    met = stands.met;
    fault = is;
    can = and_from _ _ (lt-ltb before.met (length (tasks_of before.work)) failed.more) failed.found;
  })

  pub stands_failed : (fault : ProvisionFault) → after.fault ≡ Some fault → Turned before after → StandsFor (record numbers { fault = saved_fault (Some fault) }) after
  stands_failed fault told (inl same) = subst (λ (list : TaskList). StandsFor (record numbers { fault = saved_fault (Some fault) }) list) (sym same) (record {
    work = stands.work;
    met = stands.met;
    fault = fault_back (Some fault) ∙ ap (λ (found : Option ProvisionFault). Some found) (sym told ∙ ap (λ (list : TaskList). list.fault) same);
    can = stands.can;
  })
  stands_failed fault told (inr (inl met)) = let none : after.fault ≡ None = ap (λ (list : TaskList). list.fault) met.same in absurd cc
  stands_failed fault told (inr (inr failed)) =
      let some : after.fault ≡ Some failed.fault = ap (λ (list : TaskList). list.fault) failed.same in
      let same : Some fault ≡ Some failed.fault = sym told ∙ some in
      failed_stands (saved_fault (Some fault)) failed (fault_back (Some fault) ∙ ap (λ (found : Option ProvisionFault). Some found) same)

  has_met : after.fault ≡ None → (after ≡ before → ⊥) → Turned before after → HasMet before after
  has_met none other (inl same) = absurd (other same)
  has_met none other (inr (inl met)) = met
  has_met none other (inr (inr failed)) = let some : after.fault ≡ Some failed.fault = ap (λ (list : TaskList). list.fault) failed.same in absurd cc

  pub stands_met : after.fault ≡ None → (after ≡ before → ⊥) → Turned before after → StandsFor (record numbers { met = numbers.met + 1 }) after
  stands_met none other turned = met_stands (has_met none other turned)

  -- they count no further than to eight
  pub few_met : after.fault ≡ None → (after ≡ before → ⊥) → Turned before after → numbers.met < 8
  few_met none other turned =
      let met = has_met none other turned in
      let few = few_tasks before.work in
      let most : before.met < length (tasks_of before.work) = met.more in
      let is : numbers.met ≡ before.met = stands.met in
      omega (arith, few, most, is)
