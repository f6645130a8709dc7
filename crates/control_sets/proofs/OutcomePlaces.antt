-- A task in its place among those of a procedure: which steps met it, and which tasks were met before it.
use Rattle.std.proofs.Common.{◌≡◌, ◌≢◌, ◌⊎◌, ℕ, suc, ◌<◌, Bool, true, false, not, List, [], ◌∷◌, ◌++◌, length, Some, None, drop, get_or, take, refl, sym, ap, subst, ◌∙◌, inl, inr, if◌then◌else◌, arith}
use Rattle.std.proofs.lemmas.Bool.{and_from, not-false, or_cases, or_left, or_right}
use Rattle.std.proofs.lemmas.List.{get_or-take, length-take}
use Rattle.std.proofs.lemmas.List.Folds.{list_all-append}
use Rattle.std.proofs.lemmas.List.Sums.{AllPass-from_list_all}
use Rattle.std.proofs.lemmas.Option.{get_or_from_slice_get, slice_get_within}
use Rattle.std.specs.List.{list_all, slice_get}
use Rattle.bus_model.specs.declared.operation.Op.{Op}
use Rattle.bus_model.specs.declared.operation.Step.{Step}
use Rattle.bus_model.specs.Operations.{Answers}
use Rattle.conversations.specs.Selecting.{trusted}
use Rattle.control_sets.specs.declared.fault.ProvisionFault.{ProvisionFault}
use Rattle.control_sets.specs.declared.procedures.task.Task.{Task}
use Rattle.control_sets.specs.declared.procedures.task.Task.TheVariants.{FindReady}
use Rattle.control_sets.specs.declared.procedures.judgement.ReplyJudgement.TheVariants.{NotYet}
use Rattle.control_sets.specs.Pages.{EachStep, History}
use Rattle.control_sets.specs.Tasks.{operation}
use Rattle.control_sets.specs.Judgements.{judged, judgement}
use Rattle.control_sets.specs.Procedures.{EachAnswers, EachGoesOn, GoesOn, fault_by, fault_in, in_hand, judgement_at, meets, was_met}
use Rattle.control_sets.specs.OutcomeSteps.{IsAnswered, Reads, Stands}
use Rattle.control_sets.specs.OutcomeOfProvisioning.{FindsReady, IsStore}
use Rattle.control_sets.proofs.Finding.{absent}
use Rattle.control_sets.proofs.OutcomeFinds.{Finds, answers_of, fault_else, finds, found, its_op, met_as, no_fault_of, shows, shows_by, stands}
use Rattle.control_sets.proofs.OutcomeReplies.{HasEight, Shows, told}
use Rattle.control_sets.proofs.OutcomeSelections.{Here}
use Rattle.control_sets.proofs.OutcomeTurns.{IsAt, ReadsBack, Selects, Turn, Works, differs, is_at, meets_by, meets_is, peel}
use Rattle.control_sets.proofs.OutcomeWords.{contradicts}
use Rattle.control_sets.proofs.Silence.{in_hand_past, met_stays}
use Rattle.control_sets.proofs.TaskLaws.{judged_own}

abbrev pub AllMet : List Task → History → Type 0
AllMet tasks history = list_all (λ task. was_met task history) tasks ≡ true

-- the task stands there, and no other one has its operation
pub record IsPlace (tasks : List Task) (place : ℕ) (task : Task) : Type 0 where
  pub has : slice_get tasks place ≡ Some task
  pub split : tasks ≡ take place tasks ++ task ∷ drop (suc place) tasks
  pub earlier_differ : list_all (differs (operation task)) (take place tasks) ≡ true
  pub later_differ : list_all (differs (operation task)) (drop (suc place) tasks) ≡ true
  pub eight : HasEight task

module _ {tasks : List Task} {place : ℕ} {task : Task} (at : IsPlace tasks place task) where
  is_here : get_or tasks place task ≡ task
  is_here = get_or_from_slice_get tasks place task task at.has

  -- where all tasks before a later one were met, it was
  pub was_before : (later : ℕ) (history : History) → place < later → AllMet (take later tasks) history → was_met task history ≡ true
  was_before later history before met =
      let test : Task → Bool = λ task. was_met task history in
      let same : get_or (take later tasks) place task ≡ task = get_or-take later tasks place task before ∙ is_here in
      let within : place < length tasks = slice_get_within tasks place task at.has in
      let below : place < length (take later tasks) = omega (arith, before, within, length-take later tasks) in
      ap test (sym same) ∙ AllPass-from_list_all test (take later tasks) met place task below

  -- and where no task is in hand
  was_too : (history : History) → in_hand tasks history ≡ None → was_met task history ≡ true
  was_too history none =
      let test : Task → Bool = λ task. not (was_met task history) in
      not-false (was_met task history) (ap test (sym is_here) ∙ absent test tasks place task none (slice_get_within tasks place task at.has))

  -- a step with its operation
  pub at_it : {doubts : Bool} {step : Step} {before : History} → Turn doubts tasks step before → step.op ≡ operation task → IsAt (take place tasks) task before
  at_it {doubts} {step} {before} turn is =
      is_at (take place tasks) task (drop (suc place) tasks) step before at.earlier_differ at.later_differ (subst (λ (tasks : List Task). Turn doubts tasks step before) at.split turn) is

  -- where it was met, all before it were
  pub first_met : (doubts : Bool) (history : History) → EachStep (Turn doubts tasks) history → was_met task history ≡ true → AllMet (take place tasks) history
  first_met doubts [] turns e = cc
  first_met doubts (step ∷ before) turns e = elim (or_cases (meets task step before) (was_met task before) e) as (λ _. AllMet (take place tasks) (step ∷ before)) [
    | inl now ↦ met_stays step before (take place tasks) (at_it turns.0 (meets_is task step before now).is).met
    | inr earlier ↦ met_stays step before (take place tasks) (first_met doubts before turns.1 earlier)
  ]

  -- where a step found it, it was met
  pub standing : (doubts : Bool) (history : History) → EachStep (Turn doubts tasks) history → EachAnswers history → Stands (Finds task) history → was_met task history ≡ true
  standing doubts [] turns fits s = absurd s
  standing doubts (step ∷ before) turns fits (inl now) =
      or_left _ _ (meets_by task step before (found task step before at.eight fits.0 (at_it turns.0 (its_op task step now)).there now))
  standing doubts (step ∷ before) turns fits (inr earlier) = or_right _ _ (standing doubts before turns.1 fits.1 earlier)

  no_fault : (step : Step) (before : History) → fault_by tasks step before ≡ None → fault_in (judgement_at task step before) ≡ None
  no_fault step before none = no_fault_of (take place tasks) task (drop (suc place) tasks) step before (subst (λ (tasks : List Task). fault_by tasks step before ≡ None) at.split none)

  -- where each answer decides it, one that was read and ended nothing met it
  answered_met : (doubts : Bool) (history : History) → ((bytes : List ℕ) → judged task bytes ≡ NotYet → ⊥) → EachStep (Turn doubts tasks) history → EachGoesOn tasks history →
      Stands (IsAnswered (operation task)) history → was_met task history ≡ true
  answered_met doubts [] decides turns on s = absurd s
  answered_met doubts (step ∷ before) decides turns on (inr earlier) = or_right _ _ (answered_met doubts before decides turns.1 on.1 earlier)
  answered_met doubts (step ∷ before) decides turns on (inl (bytes, gives, _)) =
      let e = judged_own task step before gives.0 (at_it turns.0 gives.0).there ∙ ap (judgement task) gives.1 in
      or_left _ _ (met_as task step before (judged task bytes) e (decides bytes) (no_fault step before on.0.no_fault))

  module _ {doubts : Bool} {step : Step} {before : History} (here : Here doubts tasks step before) where
    pub was_found : was_met task before ≡ true → Stands (Finds task) before
    was_found met = stands task before at.eight here.fits met

    pub found_first : (later : ℕ) → place < later → AllMet (take later tasks) before → Stands (Finds task) before
    found_first later below met = was_found (was_before later before below met)

    pub not_found : was_met task before ≡ false → Stands (Finds task) before → ⊥
    not_found unmet found = contradicts (standing doubts before here.turns here.fits found) unmet

    pub found_once : step.op ≡ operation task → Stands (Finds task) before → ⊥
    found_once is = not_found (at_it here.turn is).unmet

    pub read_once : ((bytes : List ℕ) → judged task bytes ≡ NotYet → ⊥) → IsAnswered (operation task) step → Stands (IsAnswered (operation task)) before → ⊥
    read_once decides read earlier = contradicts (answered_met doubts before decides here.turns here.goes_on earlier) (at_it here.turn read.1.0).unmet

    -- what the step shows of it is a fault of the step
    pub faulty : (fault : ProvisionFault) → Reads (operation task) (Shows task fault) step → fault_by tasks step before ≡ None → ⊥
    faulty fault (bytes, gives, s) none =
        let e = judged_own task step before gives.0 (at_it here.turn gives.0).there ∙ ap (judgement task) gives.1 in
        let answers = subst (Answers (operation task)) gives.1 (answers_of task step here.fit gives.0) in
        let (shown, fails) = shows_by task step before bytes fault (judged task bytes) e (told task (record { items = bytes }) at.eight answers) s in
        let h : None ≡ Some shown = sym (no_fault step before none) ∙ ap fault_in fails in
        cc

    -- of the last task
    module _ (last : drop (suc place) tasks ≡ []) where
      none_after : (history : History) → AllMet (take place tasks) history → was_met task history ≡ true → in_hand tasks history ≡ None
      none_after history met own =
          ap (λ (tasks : List Task). in_hand tasks history) at.split
          ∙ in_hand_past (take place tasks) (task ∷ drop (suc place) tasks) history met
          ∙ ap (λ (b : Bool). if not b then Some task else in_hand (drop (suc place) tasks) history) own
          ∙ ap (λ (tasks : List Task). in_hand tasks history) last

      -- a step that finds it ends all
      pub ends_on : GoesOn tasks (step ∷ before) → Finds task step → ⊥
      ends_on on finds_it =
          let now = at_it here.turn (its_op task step finds_it) in
          let met = meets_by task step before (found task step before at.eight here.fit now.there finds_it) in
          on.unmet (none_after (step ∷ before) (met_stays step before (take place tasks) now.met) (or_left _ _ met))

      -- and the step that ends all finds it
      pub ends_well : in_hand tasks before ≢ None → in_hand tasks (step ∷ before) ≡ None → Finds task step
      ends_well unmet none = elim (or_cases (meets task step before) (was_met task before) (was_too (step ∷ before) none)) as (λ _. Finds task step) [
        | inl now ↦ finds task step before at.eight here.fit (meets_is task step before now)
        | inr earlier ↦ absurd (unmet (none_after before (first_met doubts before here.turns earlier) earlier))
      ]

-- two tasks, one before the other
module _ {tasks : List Task} {place later : ℕ} {task other : Task} (at : IsPlace tasks place task) (its : IsPlace tasks later other) {doubts : Bool} {step : Step} {before : History} (here : Here doubts tasks step before) (below : place < later) where
  pub found_before : step.op ≡ operation other → Stands (Finds task) before
  found_before is = found_first at here later below (at_it its here.turn is).met

  pub not_found_after : was_met task before ≡ false → Stands (Finds other) before → ⊥
  not_found_after unmet s = contradicts (was_before at later before below (first_met its doubts before here.turns (standing its doubts before here.turns here.fits s))) unmet

-- by cases on the task in hand: all before it were met, and it wasn't
module _ (before : History) (P : Task → Type 0) (task : Task) where
  abbrev pub Which : List Task → List Task → Type 0
  Which first [] = P task
  Which first (next ∷ rest) = (AllMet first before → was_met next before ≡ false → P next) → Which (first ++ next ∷ []) rest

  anyhow : (first rest : List Task) → P task → Which first rest
  anyhow first [] p = p
  anyhow first (next ∷ rest) p = λ _. anyhow (first ++ next ∷ []) rest p

  pub which : (first rest : List Task) → AllMet first before → in_hand rest before ≡ Some task → Which first rest
  which first [] met hand = absurd cc
  which first (next ∷ rest) met hand = λ case. elim (peel next task rest before hand) as (λ _. Which (first ++ next ∷ []) rest) [
    | inl here ↦ anyhow (first ++ next ∷ []) rest (subst P (sym here.0) (case met here.1))
    | inr later ↦ which (first ++ next ∷ []) rest (list_all-append _ first (next ∷ []) ∙ and_from _ _ met (and_from _ _ later.0 refl)) later.1
  ]

-- by cases on the task that a step shows a fault of
module _ (step : Step) (before : History) (fits : Answers step.op step.reply) (fault : ProvisionFault) (P : Type 0) where
  abbrev pub WhichShows : List Task → Type 0
  WhichShows [] = P
  WhichShows (task ∷ rest) = ((HasEight task → Reads (operation task) (Shows task fault) step) → P) → WhichShows rest

  in_any : (rest : List Task) → P → WhichShows rest
  in_any [] p = p
  in_any (task ∷ rest) p = λ _. in_any rest p

  pub which_shows : (tasks : List Task) → fault_by tasks step before ≡ Some fault → WhichShows tasks
  which_shows [] e = absurd cc
  which_shows (task ∷ rest) e = λ case. elim (fault_else (fault_in (judgement_at task step before)) (fault_by rest step before) fault e) as (λ _. WhichShows rest) [
    | inl now ↦ in_any rest (case (λ eight. shows task step before fault eight fits now))
    | inr later ↦ which_shows rest later
  ]

-- nothing is stored before the module was found ready
stores_nothing : (op : Op) (before : History) → ReadsBack op before ⊎ (Selects FindReady op before ⊎ Works FindReady op before) → IsStore op → ⊥
stores_nothing op before (inl reads) store = subst IsStore reads.is store
stores_nothing op before (inr (inl selects)) store = let none : None ≡ Some selects.page = selects.needs in cc
stores_nothing op before (inr (inr works)) store = subst IsStore works.is store

pub ready_before : (rest : List Task) {doubts : Bool} {step : Step} {before : History} → Here doubts (FindReady ∷ rest) step before → IsStore step.op → Stands FindsReady before
ready_before rest {doubts} {step} {before} here store = elim (peel FindReady here.turn.task rest before here.turn.hand) as (λ _. Stands FindsReady before) [
  | inl now ↦
      let does = subst (λ (task : Task). ReadsBack step.op (trusted doubts before) ⊎ (Selects task step.op (trusted doubts before) ⊎ Works task step.op (trusted doubts before))) now.0 here.turn.does in
      absurd (stores_nothing step.op (trusted doubts before) does store)
  | inr later ↦ stands FindReady before tt here.fits later.0
]
