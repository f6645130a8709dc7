-- The accepted stores of a procedure are those of the tasks that were met, in their order.
use Rattle.std.proofs.Common.{◌≡◌, ℕ, Bool, true, false, not, ◌||◌, List, [], ◌∷◌, ◌++◌, Some, None, if◌then◌else◌, refl, sym, ap, subst, ◌∙◌, inl, inr, append-nil, append_assoc}
use Rattle.std.proofs.lemmas.Bool.{and_from, and_parts, cases_Bool, or_left}
use Rattle.std.proofs.lemmas.List.Folds.{list_all-append}
use Rattle.std.specs.List.{list_all}
use Rattle.field_tables.specs.LaneSets.{Lanes, byte_of}
use Rattle.bus_model.specs.declared.operation.Op.{Op}
use Rattle.bus_model.specs.declared.operation.Op.TheVariants.{Fetch, Store}
use Rattle.bus_model.specs.declared.operation.Reply.{Reply}
use Rattle.bus_model.specs.declared.operation.Reply.TheVariants.{Bytes}
use Rattle.bus_model.specs.declared.operation.Step.{Step}
use Rattle.control_sets.specs.declared.procedures.judgement.ReplyJudgement.{ReplyJudgement}
use Rattle.control_sets.specs.declared.procedures.task.Task.{Task}
use Rattle.control_sets.specs.declared.procedures.task.Task.TheVariants.{Deinitialize, Stage, Apply}
use Rattle.control_sets.specs.Pages.{EachStep, History, selection}
use Rattle.control_sets.specs.Tasks.{operation, page_of, provisioning}
use Rattle.control_sets.specs.Procedures.{in_hand, is_met, is_on, meets, was_met}
use Rattle.control_sets.specs.Judgements.{judged, judgement}
use Rattle.control_sets.specs.OutcomeOfProvisioning.{IsPrefix, accepted_store, accepted_stores}
use Rattle.control_sets.specs.OutcomeOperations.{apply, set_deinit, stage}
use Rattle.control_sets.proofs.Doubts.{on_all}
use Rattle.control_sets.proofs.OutcomePlaces.{AllMet}
use Rattle.control_sets.proofs.OutcomeSelections.{Here}
use Rattle.control_sets.proofs.Silence.{all_apart, in_hand_first, in_hand_past, met_stays, read_back_silent, rest_silent, selection_silent, unmet_stays}
use Rattle.control_sets.proofs.TaskLaws.{judged_own}
use Rattle.control_sets.proofs.UnderWayLaws.{none_met}

abbrev store_of : Op → List Op
store_of (Store dev offset bytes) = Store dev offset bytes ∷ []
store_of (Fetch dev offset count) = []

-- the operations of tasks that are stores
abbrev stores_of : List Task → List Op
stores_of [] = []
stores_of (task ∷ tasks) = store_of (operation task) ++ stores_of tasks

stores_of-append : (first rest : List Task) → stores_of (first ++ rest) ≡ stores_of first ++ stores_of rest
stores_of-append [] rest = refl
stores_of-append (task ∷ first) rest = ap (λ (ops : List Op). store_of (operation task) ++ ops) (stores_of-append first rest) ∙ sym (append_assoc (store_of (operation task)) (stores_of first) (stores_of rest))

none_either : (met : Bool) → ◌≡◌ {A = List Op} [] (if met then [] else [])
none_either true = refl
none_either false = refl

-- a store is accepted where it meets its task
accepted : (task : Task) (reply : Reply) → accepted_store (operation task) reply ≡ (if is_met (judgement task reply) then store_of (operation task) else [])
unfolding judged
accepted (Deinitialize bits) (Bytes bytes) = refl
accepted (Deinitialize bits) _ = refl
accepted (Stage control) (Bytes bytes) = refl
accepted (Stage control) _ = refl
accepted (Apply bits) (Bytes bytes) = refl
accepted (Apply bits) _ = refl
accepted task reply = none_either (is_met (judgement task reply))

selects_nothing : (page : ℕ) (reply : Reply) → accepted_store (selection page) reply ≡ []
selects_nothing page (Bytes read) = refl
selects_nothing page _ = refl

-- the tasks up to some were met, and their stores accepted
record Grown (tasks : List Task) (history : History) : Type 0 where
  earlier : List Task
  later : List Task
  split : tasks ≡ earlier ++ later
  met : AllMet earlier history
  unmet : list_all (λ task. not (was_met task history)) later ≡ true
  stored : accepted_stores history ≡ stores_of earlier

module _ {doubts : Bool} (tasks : List Task) (apart : all_apart tasks ≡ true) (step : Step) (before : History) (here : Here doubts tasks step before)
    (earlier : List Task) (met : AllMet earlier before) (stored : accepted_stores before ≡ stores_of earlier) where
  -- the step meets no task
  quiet : (later : List Task) → tasks ≡ earlier ++ later → list_all (λ task. not (was_met task (step ∷ before))) later ≡ true → accepted_store step.op step.reply ≡ [] → Grown tasks (step ∷ before)
  quiet later split unmet none = record {
    earlier = earlier;
    later = later;
    split = split;
    met = met_stays step before earlier met;
    unmet = unmet;
    stored = ap (λ (more : List Op). accepted_stores before ++ more) none ∙ append-nil (accepted_stores before) ∙ stored;
  }

  -- it is one of the task in hand
  works : (task : Task) (later : List Task) → tasks ≡ earlier ++ task ∷ later → list_all (λ task. not (was_met task before)) (task ∷ later) ≡ true → step.op ≡ operation task → is_on (page_of task) before ≡ true → Grown tasks (step ∷ before)
  works task later split unmet own there =
      let rest = unmet_stays step before later (rest_silent step before task own earlier later (subst (λ (tasks : List Task). all_apart tasks ≡ true) split apart)) (and_parts _ _ unmet).1 in
      let made : accepted_store step.op step.reply ≡ (if meets task step before then store_of (operation task) else []) =
      ap (λ (op : Op). accepted_store op step.reply) own ∙ accepted task step.reply
      ∙ ap (λ (judged : ReplyJudgement). if is_met judged then store_of (operation task) else []) (sym (judged_own task step before own there)) in
      elim (cases_Bool (meets task step before)) as (λ _. Grown tasks (step ∷ before)) [
        | inl now ↦ record {
          earlier = earlier ++ task ∷ [];
          later = later;
          split = split ∙ sym (append_assoc earlier (task ∷ []) later);
          met = list_all-append _ earlier (task ∷ []) ∙ and_from _ _ (met_stays step before earlier met) (and_from _ _ (or_left _ _ now) refl);
          unmet = rest;
          stored =
              (λ i. stored i ++ (made ∙ ap (λ (b : Bool). if b then store_of (operation task) else []) now) i)
              ∙ ap (λ (ops : List Op). stores_of earlier ++ ops) (sym (append-nil (store_of (operation task))))
              ∙ sym (stores_of-append earlier (task ∷ []));
        }
        | inr no_ ↦ quiet (task ∷ later) split (and_from _ _ (ap (λ (b : Bool). not (b || was_met task before)) no_ ∙ (and_parts _ _ unmet).0) rest)
            (made ∙ ap (λ (b : Bool). if b then store_of (operation task) else []) no_)
      ]

  grows : (later : List Task) → tasks ≡ earlier ++ later → list_all (λ task. not (was_met task before)) later ≡ true → Grown tasks (step ∷ before)
  grows [] split unmet = let none : None ≡ Some here.turn.task = sym (ap (λ (tasks : List Task). in_hand tasks before) split ∙ in_hand_past earlier [] before met) ∙ here.turn.hand in absurd cc
  grows (task ∷ later) split unmet =
      let hand : Some here.turn.task ≡ Some task =
      sym here.turn.hand ∙ ap (λ (tasks : List Task). in_hand tasks before) split ∙ in_hand_past earlier (task ∷ later) before met ∙ in_hand_first task later before (and_parts _ _ unmet).0 in
      let same : here.turn.task ≡ task = cc in
      elim here.turn.does as (λ _. Grown tasks (step ∷ before)) [
        | inl reads ↦ quiet (task ∷ later) split (unmet_stays step before (task ∷ later) (read_back_silent step before (task ∷ later) reads.is) unmet)
            (ap (λ (op : Op). accepted_store op step.reply) reads.is)
        | inr (inl selects) ↦ quiet (task ∷ later) split (unmet_stays step before (task ∷ later) (selection_silent step before selects.page (task ∷ later) selects.is) unmet)
            (ap (λ (op : Op). accepted_store op step.reply) selects.is ∙ selects_nothing selects.page step.reply)
        | inr (inr of_task) ↦ works task later split unmet (of_task.is ∙ ap operation same)
            (ap (λ (task : Task). is_on (page_of task) before) (sym same) ∙ on_all doubts (page_of here.turn.task) before of_task.there)
      ]

grown : (doubts : Bool) (tasks : List Task) → all_apart tasks ≡ true → (history : History) → EachStep (Here doubts tasks) history → Grown tasks history
grown doubts tasks apart [] each = record { earlier = []; later = tasks; split = refl; met = refl; unmet = none_met tasks; stored = refl }
grown doubts tasks apart (step ∷ before) each =
    let g = grown doubts tasks apart before each.1 in
    grows tasks apart step before each.0 g.earlier g.met g.stored g.later g.split g.unmet

-- those of provisioning
pub in_order : (control : List ℕ) (lanes : Lanes) (doubts : Bool) (history : History) → EachStep (Here doubts (provisioning control lanes)) history →
    IsPrefix (accepted_stores history) (set_deinit (byte_of lanes) ∷ stage control ∷ apply (byte_of lanes) ∷ [])
in_order control lanes doubts history each =
    let g = grown doubts (provisioning control lanes) refl history each in
    record { rest = stores_of g.later; split = ap (λ (ops : List Op). ops ++ stores_of g.later) g.stored ∙ sym (stores_of-append g.earlier g.later) ∙ ap stores_of (sym g.split) }
