-- What a turn keeps: on which steps a reading rests, whether a module may be woken up, whether it is watched, and which reading the
-- job works for.
use Rattle.std.proofs.Common.{◌≡◌, ℕ, Bool, true, false, List, [], ◌∷◌, Option, Some, None, Result, Ok, Err, refl, sym, ap, subst, inl, inr, arith}
use Rattle.std.specs.Prelude.{◌==◌, nat_le, MatchOption, if◌then◌else◌}
use Rattle.bus_model.specs.declared.operation.Op.{Op}
use Rattle.bus_model.specs.declared.operation.Reply.{Reply}
use Rattle.bus_model.specs.Operations.{Answers}
use Rattle.conversations.specs.declared.on_page.OnPage.{OnPage}
use Rattle.conversations.specs.declared.pausing.Patience.{Patience}
use Rattle.conversations.specs.Wanted.{op_of}
use Rattle.applications.specs.declared.fault.AdvertFault.{AdvertFault}
use Rattle.applications.specs.Refusals.{advert_fault_under}
use Rattle.field_tables.specs.declared.field.Field.TheVariants as fields
use Rattle.field_tables.specs.declared.table.cmis.CmisField.TheVariants as cmis
use Rattle.std.specs.FinSet as set
use Rattle.field_tables.specs.Readings.{number}
use Rattle.paged_memory.specs.Images.{Memory}
use Rattle.paged_memory.specs.PageAddressing.{History}
use Rattle.control_sets.specs.declared.fault.ProvisionFault.{ProvisionFault}
use Rattle.control_sets.specs.declared.procedures.power.Power.{Power}
use Rattle.control_sets.specs.declared.procedures.power.Power.TheVariants.{Awake, Asleep}
use Rattle.control_sets.specs.declared.procedures.power.PowerChange.{PowerChange}
use Rattle.control_sets.specs.declared.procedures.power.PowerStage.{PowerStage}
use Rattle.control_sets.specs.declared.procedures.procedure.TaskList.{TaskList}
use Rattle.control_sets.specs.declared.procedures.procedure.Work.{Work}
use Rattle.control_sets.specs.PowerProgress.{PatientPower, change_after, moved_to, power_wants, stage_after}
use Rattle.control_sets.specs.Progress.{PatientProcedure}
use Rattle.module_reading.specs.declared.halves.Halves.{Halves}
use Rattle.port_manager.specs.declared.deciding.Decision.{Decision}
use Rattle.port_manager.specs.declared.deciding.Decision.TheVariants.{Leave, Wake, Sleep, Hold, Activate, Provision}
use Rattle.port_manager.specs.declared.deciding.Goal.{Goal}
use Rattle.port_manager.specs.declared.deciding.LeftBecause.TheVariants.{Advert, NoPlan, NeedsPower}
use Rattle.port_manager.specs.declared.deciding.LeftBecause.TheVariants as left
use Rattle.port_manager.specs.declared.deciding.Wanted.{Wanted}
use Rattle.port_manager.specs.declared.job.Job.{Job}
use Rattle.port_manager.specs.declared.job.Job.TheVariants.{Reading, Waking, Sleeping, Provisioning, Activating, Confirming, Watching}
use Rattle.port_manager.specs.declared.look.Look.{Look}
use Rattle.port_manager.specs.declared.port.Outcome.TheVariants as outcome
use Rattle.port_manager.specs.declared.turn.Note.TheVariants as note
use Rattle.port_manager.specs.Turns.{Turn}
use Rattle.port_manager.specs.Turns.{On, Paused, Failed, Left}
use Rattle.port_manager.specs.Decisions.{IsDecision, IsDecisionFor, IsDecisionIn, IsJudged, has_no_plan, if_permitted, page_of_lanes, sleep_in, sleep_within}
use Rattle.port_manager.specs.Goals.{IsGoalOf, are_up, conventions_of, has_all, may_activate, may_provision}
use Rattle.port_manager.specs.Jobs.{asked, paged_look, look_after, procedure_after, reading, reading_after, reading_wants, paged_tasks, waking_after}
use Rattle.port_manager.specs.Patients.{Patient, after_on, wants_on}
use Rattle.port_manager.specs.Requests.{granted}
use Rattle.port_manager.specs.Stories.{Story, make, request_in, settled_note, step_with, steps_of}
use Rattle.port_manager.specs.Readings.{GivesActivation, GivesGoal, GivesProvisioning, GivesSleep, GivesWaking, IsJustRead, IsWhole, RestsIn}
use Rattle.port_manager.specs.Standing.{IfTrue, IsFounded, IsNamed, IsReadingOf, IsTame, IsWatching}
use Rattle.port_manager.specs.Turns.{decided, going}
use Rattle.port_manager.proofs.LookPages.{knows_nothing, look_known}
use Rattle.port_manager.proofs.PatientLaws.{kept_on, kept_within}
use Rattle.port_manager.proofs.SinceLaws.{activation_goal, provisioned_activates, since_map}
use Rattle.port_manager.proofs.TurnCases.{Follows, IsAnyTurn, later, pause_of, turn_all}

abbrev pub IfOn : Turn → (Job → Type 0) → Type 0
IfOn (On job note) P = P job
IfOn (Paused job time) P = P job
IfOn (Failed why) P = Unit {0}
IfOn (Left reason) P = Unit {0}

pub on_going : (P : Job → Type 0) (pause : Option ℕ) (job : Job) → P job → IfOn (going pause job) P
on_going P None job p = p
on_going P (Some time) job p = p

-- ---- which steps a reading took

pub begun_founded : (history : History) (woken : Bool) → IsFounded history (reading woken)
begun_founded history woken = record { recent = []; earlier = history; all = refl; took = refl }

module _ (history : History) (op : Op) (reply : Reply) (answers : Answers op reply) where
  pub took_more : (job : Patient (OnPage Halves)) → op_of (reading_wants job) ≡ Some op → IsReadingOf history job → IsReadingOf (step_with op reply ∷ history) (reading_after job reply)
  took_more job asks of =
      record { recent = step_with op reply ∷ of.recent; earlier = of.earlier; all = ap (λ (h : History). step_with op reply ∷ h) of.all; took = (job, of.took, asks, answers, refl) }

  later_founded : (job : Job) → asked job ≡ Some op → IsFounded history job → IsFounded (step_with op reply ∷ history) (later job reply)
  later_founded (Reading job woken) asks of = took_more job asks of
  later_founded (Waking job) asks of = tt
  later_founded (Sleeping job) asks of = tt
  later_founded (Provisioning job goal) asks of = tt
  later_founded (Activating job goal) asks of = tt
  later_founded (Confirming job) asks of = look_known job op reply history asks of
  later_founded (Watching job) asks of = look_known job op reply history asks of

decided_founded : (history : History) (woken requested : Bool) (patience : Patience) (decision : Decision) → IfOn (decided woken requested patience decision) (IsFounded history)
decided_founded history woken requested patience (Leave reason) = tt
decided_founded history true requested patience Wake = tt
decided_founded history false requested patience Wake = tt
decided_founded history woken requested patience Sleep = tt
decided_founded history woken requested patience (Hold goal) = knows_nothing history
decided_founded history woken requested patience (Activate goal) = tt
decided_founded history woken requested patience (Provision goal) = tt

follows_founded : (history : History) (wanted : Wanted) (job : Job) (reply : Reply) → Follows (λ turn. IfOn turn (IsFounded history)) wanted job reply
follows_founded history wanted (Reading job woken) reply = λ decision whole judged. decided_founded history woken _ _ decision
follows_founded history wanted (Waking job) reply = begun_founded history true
follows_founded history wanted (Sleeping job) reply = tt
follows_founded history wanted (Provisioning job goal) reply = tt
follows_founded history wanted (Activating job goal) reply = knows_nothing history
follows_founded history wanted (Confirming job) reply = knows_nothing history
follows_founded history wanted (Watching job) reply = knows_nothing history

pub turn_founded : (history : History) (wanted : Wanted) (op : Op) (reply : Reply) (job : Job) (turn : Turn) → IsFounded history job → asked job ≡ Some op → Answers op reply → IsAnyTurn wanted job reply turn
    → IfOn turn (IsFounded (step_with op reply ∷ history))
turn_founded history wanted op reply job turn of asks answers is =
    turn_all (λ turn. IfOn turn (IsFounded (step_with op reply ∷ history))) (λ why. tt) wanted job reply turn
    (λ next e. on_going (IsFounded (step_with op reply ∷ history)) (pause_of job reply) (later job reply) (later_founded history op reply answers job asks of))
    (follows_founded (step_with op reply ∷ history) wanted job reply) is

-- the image that a reading has was just read by its last step
pub just_read : (history : History) (op : Op) (reply : Reply) (job : Patient (OnPage Halves)) → IsReadingOf history job → op_of (reading_wants job) ≡ Some op → Answers op reply → IsWhole (reading_wants (reading_after job reply))
    → IsJustRead (step_with op reply ∷ history) (reading_after job reply).conversation.conversation.conversation.image
just_read history op reply job of asks answers whole =
    let more = took_more history op reply answers job asks of in
    record { steps = more.recent; earlier = more.earlier; all = more.all; whole = record { reading = reading_after job reply; took = more.took; whole = whole; is = refl } }

-- ---- whether it may wake a module up

later_tame : (job : Job) (reply : Reply) → IsTame job → IsTame (later job reply)
later_tame (Reading job woken) reply tame = tame
later_tame (Waking job) reply tame = absurd tame
later_tame (Sleeping job) reply tame = tt
later_tame (Provisioning job goal) reply tame = tt
later_tame (Activating job goal) reply tame = tt
later_tame (Confirming job) reply tame = tt
later_tame (Watching job) reply tame = tt

decided_tame : (woken requested : Bool) (patience : Patience) (decision : Decision) → woken ≡ true → IfOn (decided woken requested patience decision) IsTame
decided_tame woken requested patience (Leave reason) tame = tt
decided_tame woken requested patience Wake tame = subst (λ (woken : Bool). IfOn (decided woken requested patience Wake) IsTame) (sym tame) tt
decided_tame woken requested patience Sleep tame = tt
decided_tame woken requested patience (Hold goal) tame = tt
decided_tame woken requested patience (Activate goal) tame = tt
decided_tame woken requested patience (Provision goal) tame = tt

follows_tame : (wanted : Wanted) (job : Job) (reply : Reply) → IsTame job → Follows (λ turn. IfOn turn IsTame) wanted job reply
follows_tame wanted (Reading job woken) reply tame = λ decision whole judged. decided_tame woken _ _ decision tame
follows_tame wanted (Waking job) reply tame = absurd tame
follows_tame wanted (Sleeping job) reply tame = tt
follows_tame wanted (Provisioning job goal) reply tame = tt
follows_tame wanted (Activating job goal) reply tame = tt
follows_tame wanted (Confirming job) reply tame = tt
follows_tame wanted (Watching job) reply tame = tt

pub turn_tame : (wanted : Wanted) (reply : Reply) (job : Job) (turn : Turn) → IsTame job → IsAnyTurn wanted job reply turn → IfOn turn IsTame
turn_tame wanted reply job turn tame is =
    turn_all (λ turn. IfOn turn IsTame) (λ why. tt) wanted job reply turn (λ next e. on_going IsTame (pause_of job reply) (later job reply) (later_tame job reply tame)) (follows_tame wanted job reply tame) is

-- ---- whether it watches

-- it watches if it is settled by what is noted
abbrev pub Settles : Bool → Turn → Type 0
Settles before (On job note) = IfTrue (settled_note note before) (IsWatching job)
Settles before (Paused job time) = IfTrue before (IsWatching job)
Settles before (Failed why) = Unit {0}
Settles before (Left reason) = Unit {0}

pub later_watching : (job : Job) (reply : Reply) → IsWatching job → IsWatching (later job reply)
later_watching (Reading job woken) reply watches = absurd watches
later_watching (Waking job) reply watches = absurd watches
later_watching (Sleeping job) reply watches = absurd watches
later_watching (Provisioning job goal) reply watches = absurd watches
later_watching (Activating job goal) reply watches = absurd watches
later_watching (Confirming job) reply watches = absurd watches
later_watching (Watching job) reply watches = tt

settles_going : (before : Bool) (pause : Option ℕ) (job : Job) (reply : Reply) → IfTrue before (IsWatching job) → Settles before (going pause (later job reply))
settles_going true None job reply watches = later_watching job reply watches
settles_going true (Some time) job reply watches = later_watching job reply watches
settles_going false None job reply watches = tt
settles_going false (Some time) job reply watches = tt

decided_settles : (before woken requested : Bool) (patience : Patience) (decision : Decision) → Settles before (decided woken requested patience decision)
decided_settles before woken requested patience (Leave reason) = tt
decided_settles before true requested patience Wake = tt
decided_settles before false requested patience Wake = tt
decided_settles before woken requested patience Sleep = tt
decided_settles before woken requested patience (Hold goal) = tt
decided_settles before woken requested patience (Activate goal) = tt
decided_settles before woken requested patience (Provision goal) = tt

follows_settles : (before : Bool) (wanted : Wanted) (job : Job) (reply : Reply) → IfTrue before (IsWatching job) → Follows (Settles before) wanted job reply
follows_settles before wanted (Reading job woken) reply watches = λ decision whole judged. decided_settles before woken _ _ decision
follows_settles before wanted (Waking job) reply watches = tt
follows_settles before wanted (Sleeping job) reply watches = tt
follows_settles before wanted (Provisioning job goal) reply watches = tt
follows_settles before wanted (Activating job goal) reply watches = watches
follows_settles before wanted (Confirming job) reply watches = tt
follows_settles before wanted (Watching job) reply watches = tt

pub turn_settles : (before : Bool) (wanted : Wanted) (reply : Reply) (job : Job) (turn : Turn) → IfTrue before (IsWatching job) → IsAnyTurn wanted job reply turn → Settles before turn
turn_settles before wanted reply job turn watches is =
    turn_all (Settles before) (λ why. tt) wanted job reply turn (λ next e. settles_going before (pause_of job reply) job reply watches) (follows_settles before wanted job reply watches) is

-- ---- what stays of a job

pub work_kept : (work : Work) (job : PatientProcedure) (reply : Reply) → job.conversation.conversation.conversation.work ≡ work → (procedure_after job reply).conversation.conversation.conversation.work ≡ work
work_kept work job reply is =
    kept_within (λ on. on.conversation.work ≡ work) (wants_on paged_tasks) (after_on paged_tasks) job reply
    (kept_on (λ (list : TaskList). list.work ≡ work) paged_tasks job.conversation.conversation reply is is (λ number. is))

pub goal_kept : (P : Goal → Type 0) (job : Patient (OnPage Look)) (reply : Reply) → P job.conversation.conversation.conversation.goal → P (look_after job reply).conversation.conversation.conversation.goal
goal_kept P job reply is =
    kept_within (λ on. P on.conversation.goal) (wants_on paged_look) (after_on paged_look) job reply
    (kept_on (λ (look : Look). P look.goal) paged_look job.conversation.conversation reply is is (λ number. is))

moved_power : (power : Power) (change : PowerChange) (result : Result PowerStage ProvisionFault) → change.power ≡ power → (moved_to change result).power ≡ power
moved_power power change (Ok stage) is = is
moved_power power change (Err fault) is = is

pub power_kept : (power : Power) (job : PatientPower) (reply : Reply) → job.conversation.conversation.power ≡ power → (waking_after job reply).conversation.conversation.power ≡ power
power_kept power job reply is =
    kept_within (λ (change : PowerChange). change.power ≡ power) power_wants change_after job reply
    (moved_power power job.conversation.conversation (stage_after job.conversation.conversation.power job.conversation.conversation.stage reply) is)

-- ---- which reading it works for

module _ (story : Story) (op : Op) (reply : Reply) (wanted : Wanted) (now : ℕ) where
  abbrev history : History
  history = step_with op reply ∷ steps_of story

  abbrev wishes : Wanted
  wishes = granted (request_in story) wanted

  abbrev pub NamesNext : Turn → Type 0
  NamesNext (On job noted) = IsNamed (make op reply wanted now (outcome.Went noted) ∷ story) job
  NamesNext (Paused job time) = (moment : ℕ) → IsNamed (make op reply wanted now (outcome.Paused moment) ∷ story) job
  NamesNext (Failed why) = Unit {0}
  NamesNext (Left reason) = Unit {0}

  later_named : (job : Job) → IsNamed story job → IsNamed story (later job reply)
  later_named (Reading job woken) named = tt
  later_named (Waking job) named = (power_kept Awake job reply named.0, named.1)
  later_named (Sleeping job) named = (power_kept Asleep job reply named.0, named.1)
  later_named (Provisioning job goal) named = (work_kept _ job reply named.0, named.1)
  later_named (Activating job goal) named = (work_kept _ job reply named.0, named.1)
  later_named (Confirming job) named = goal_kept (λ goal. RestsIn story goal) job reply named
  later_named (Watching job) named = goal_kept (λ goal. RestsIn story goal) job reply named

  named_quiet : (job : Job) → IsNamed story job → IsNamed (make op reply wanted now (outcome.Went note.Quiet) ∷ story) job
  named_quiet (Reading job woken) named = tt
  named_quiet (Waking job) named = named
  named_quiet (Sleeping job) named = named
  named_quiet (Provisioning job goal) named = named
  named_quiet (Activating job goal) named = named
  named_quiet (Confirming job) named = named
  named_quiet (Watching job) named = named

  named_paused : (moment : ℕ) (job : Job) → IsNamed story job → IsNamed (make op reply wanted now (outcome.Paused moment) ∷ story) job
  named_paused moment (Reading job woken) named = tt
  named_paused moment (Waking job) named = named
  named_paused moment (Sleeping job) named = named
  named_paused moment (Provisioning job goal) named = named
  named_paused moment (Activating job goal) named = named
  named_paused moment (Confirming job) named = named
  named_paused moment (Watching job) named = named

  going_named : (pause : Option ℕ) (job : Job) → IsNamed story job → NamesNext (going pause job)
  going_named None job named = named_quiet job named
  going_named (Some time) job named = λ moment. named_paused moment job named

  -- what an image gives
  abbrev Given : Decision → Type 0
  Given (Leave reason) = Unit {0}
  Given Wake = GivesWaking history wishes
  Given Sleep = GivesSleep history wishes
  Given (Hold goal) = GivesGoal goal history wishes
  Given (Activate goal) = GivesActivation goal history wishes
  Given (Provision goal) = GivesProvisioning goal history wishes

  decided_names : (woken requested : Bool) (patience : Patience) (decision : Decision) → Given decision → NamesNext (decided woken requested patience decision)
  decided_names woken requested patience (Leave reason) given = tt
  decided_names true requested patience Wake given = tt
  decided_names false requested patience Wake given = (refl, given)
  decided_names woken requested patience Sleep given = (refl, given)
  decided_names woken requested patience (Hold goal) given = inl given
  decided_names woken requested patience (Activate goal) given = (refl, given)
  decided_names woken requested patience (Provision goal) given = (refl, given)

  permits : (may : Bool) (decision : Decision) → (may ≡ true → Given decision) → Given (if_permitted may decision)
  permits true decision gives = gives refl
  permits false decision gives = tt

  judged_gives : (goal : Goal) (activate provision : Decision) (none has up : Bool) → GivesGoal goal history wishes → Given activate → Given provision
      → Given (if none then Leave NoPlan else if has then (if up then Hold goal else activate) else provision)
  judged_gives goal activate provision true has up gives activates provisions = tt
  judged_gives goal activate provision false true true gives activates provisions = gives
  judged_gives goal activate provision false true false gives activates provisions = activates
  judged_gives goal activate provision false false up gives activates provisions = provisions

  gives_judged : (image : Memory) (found : Option (List ℕ)) (decision : Decision) → IsJustRead history image → page_of_lanes image ≡ found → IsJudged wishes image found decision → Given decision
  gives_judged image None decision was there is = subst Given (sym is) tt
  gives_judged image (Some page) decision was there (goal, has, is) =
      let of : IsGoalOf wishes image goal = record { page = page; there = there; has = has } in
      let activates = may_activate page goal.lanes wishes.may_take_down in
      let provisions = may_provision page goal.outside wishes.may_take_down in
      subst Given (sym is)
      (judged_gives goal (if_permitted activates (Activate goal)) (if_permitted provisions (Provision goal)) (has_no_plan wishes goal) (has_all page goal.control) (are_up page goal.control goal.lanes) (image, was, of)
      (permits activates (Activate goal) (λ may. (image, was, of, inr may))) (permits provisions (Provision goal) (λ may. (image, was, of, may))))

  gives_waking : (image : Memory) (within : Bool) → nat_le (number image (fields.Cmis cmis.MaxPower)) wishes.max_power ≡ within → IsJustRead history image → Given (if within then Wake else Leave NeedsPower)
  gives_waking image true e was = (image, was, grind (arith, e))
  gives_waking image false e was = tt

  gives_in : (image : Memory) (ready : Bool) (decision : Decision) → IsJustRead history image → IsDecisionIn wishes image ready decision → Given decision
  gives_in image true decision was is = gives_judged image (page_of_lanes image) decision was refl is
  gives_in image false decision was is = subst Given (sym is) (gives_waking image (nat_le (number image (fields.Cmis cmis.MaxPower)) wishes.max_power) refl was)

  gives_unless : (image : Memory) (decision : Decision) (fault : Option AdvertFault) → IsJustRead history image
      → MatchOption fault (IsDecisionIn wishes image (number image (fields.Cmis cmis.ModuleState) == 3) decision) (λ fault. decision ≡ Leave (Advert fault)) → Given decision
  gives_unless image decision None was is = gives_in image (number image (fields.Cmis cmis.ModuleState) == 3) decision was is
  gives_unless image decision (Some fault) was is = subst Given (sym is) tt

  gives_sleep : (image : Memory) (found : Option (List ℕ)) → wishes.asleep ≡ true → IsJustRead history image → page_of_lanes image ≡ found → Given (sleep_in wishes.may_take_down found)
  gives_sleep image None asleep was there = tt
  gives_sleep image (Some page) asleep was there = permits (may_activate page set.empty wishes.may_take_down) Sleep (λ may. (image, was, asleep, page, there, may))

  gives_within : (image : Memory) (low : Bool) → wishes.asleep ≡ true → IsJustRead history image → Given (if low then Leave left.Asleep else sleep_in wishes.may_take_down (page_of_lanes image))
  gives_within image true asleep was = tt
  gives_within image false asleep was = gives_sleep image (page_of_lanes image) asleep was refl

  gives_asleep : (image : Memory) (decision : Decision) (fault : Option AdvertFault) → wishes.asleep ≡ true → IsJustRead history image
      → MatchOption fault (decision ≡ sleep_within wishes.may_take_down image) (λ fault. decision ≡ Leave (Advert fault)) → Given decision
  gives_asleep image decision None asleep was is = subst Given (sym is) (gives_within image (number image (fields.Cmis cmis.ModuleState) == 1) asleep was)
  gives_asleep image decision (Some fault) asleep was is = subst Given (sym is) tt

  gives_for : (asleep : Bool) (image : Memory) (decision : Decision) → wishes.asleep ≡ asleep → IsJustRead history image → IsDecisionFor asleep wishes image decision → Given decision
  gives_for true image decision asleep was is = gives_asleep image decision (advert_fault_under (conventions_of wishes) image) asleep was is
  gives_for false image decision asleep was is = gives_unless image decision (advert_fault_under (conventions_of wishes) image) was is

  gives : (image : Memory) (decision : Decision) → IsJustRead history image → IsDecision wishes image decision → Given decision
  gives image decision was is = gives_for wishes.asleep image decision refl was is

  follows_names : (job : Job) → Answers op reply → asked job ≡ Some op → IsFounded (steps_of story) job → IsNamed story job → Follows NamesNext wishes job reply
  follows_names (Reading job woken) answers asks of named = λ decision whole judged. decided_names woken _ _ decision (gives _ decision (just_read (steps_of story) op reply job of asks answers whole) judged)
  follows_names (Waking job) answers asks of named = tt
  follows_names (Sleeping job) answers asks of named = tt
  follows_names (Provisioning job goal) answers asks of named = (refl, since_map (GivesProvisioning goal) (GivesActivation goal) (provisioned_activates goal) story named.1)
  follows_names (Activating job goal) answers asks of named = since_map (GivesActivation goal) (GivesGoal goal) (activation_goal goal) story named.1
  follows_names (Confirming job) answers asks of named = inr (goal_kept (λ goal. RestsIn story goal) job reply named)
  follows_names (Watching job) answers asks of named = goal_kept (λ goal. RestsIn story goal) job reply named

  pub turn_names : (job : Job) (turn : Turn) → Answers op reply → asked job ≡ Some op → IsFounded (steps_of story) job → IsNamed story job → IsAnyTurn wishes job reply turn → NamesNext turn
  turn_names job turn answers asks of named is =
      turn_all NamesNext (λ why. tt) wishes job reply turn (λ next e. going_named (pause_of job reply) (later job reply) (later_named job named)) (follows_names job answers asks of named) is
