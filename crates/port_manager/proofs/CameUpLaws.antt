-- What came up was found as it is wanted: by the look after activation, or by a reading.
use Rattle.std.proofs.Common.{◌≡◌, ◌⊎◌, inl, inr, ℕ, Bool, true, false, List, ◌∷◌, Option, Some, None, refl, sym, ap, subst, ◌∙◌}
use Rattle.std.specs.Prelude.{◌&&◌, ◌==◌, MatchOption, if◌then◌else◌, slice_index}
use Rattle.std.proofs.lemmas.Bool.{and_parts}
use Rattle.applications.specs.declared.fault.AdvertFault.{AdvertFault}
use Rattle.applications.specs.Refusals.{advert_fault_under}
use Rattle.bus_model.specs.declared.operation.Op.{Op}
use Rattle.bus_model.specs.declared.operation.Reply.{Reply}
use Rattle.bus_model.specs.declared.operation.Reply.TheVariants.{Bytes, Done, Refused}
use Rattle.bus_model.specs.Operations.{Answers}
use Rattle.conversations.specs.declared.next.Next.{Next}
use Rattle.conversations.specs.declared.next.Next.TheVariants.{Do, End}
use Rattle.conversations.specs.declared.on_page.OnPage.{OnPage}
use Rattle.conversations.specs.declared.pausing.Patience.{Patience}
use Rattle.conversations.specs.declared.pausing.Timed.{Timed}
use Rattle.conversations.specs.declared.pausing.Timed.TheVariants.{InTime, Overdue}
use Rattle.conversations.specs.declared.within.Spent.{Spent}
use Rattle.conversations.specs.Pauses.{is_refused, next_pausing}
use Rattle.conversations.specs.Selecting.{after_missing, lacked, told_lacked}
use Rattle.conversations.specs.Wanted.{op_of}
use Rattle.field_tables.specs.declared.field.Field.TheVariants as fields
use Rattle.field_tables.specs.declared.table.cmis.CmisField.TheVariants as cmis
use Rattle.field_tables.specs.FieldValues.{number_in_byte}
use Rattle.field_tables.specs.Readings.{number}
use Rattle.paged_memory.specs.Images.{Memory}
use Rattle.paged_memory.specs.declared.page_addressing.PageAddressing.TheVariants.{BankAndPage}
use Rattle.paged_memory.specs.KnownPages.{is_awaited, missing_page, selecting_first, wanted as page_first}
use Rattle.paged_memory.specs.PageAddressing.{History, is_page_confirmed, read_selection}
use Rattle.port_manager.specs.declared.deciding.Decision.{Decision}
use Rattle.port_manager.specs.declared.deciding.Decision.TheVariants.{Leave, Wake, Sleep, Hold, Activate, Provision}
use Rattle.port_manager.specs.declared.deciding.Goal.{Goal}
use Rattle.port_manager.specs.declared.deciding.LeftBecause.TheVariants as left
use Rattle.port_manager.specs.declared.deciding.Wanted.{Wanted}
use Rattle.port_manager.specs.declared.job.Job.{Job}
use Rattle.port_manager.specs.declared.job.Job.TheVariants as jobs
use Rattle.port_manager.specs.declared.look.Look.{Look}
use Rattle.port_manager.specs.declared.look.LookStage.{LookStage}
use Rattle.port_manager.specs.declared.look.LookStage.TheVariants as looking
use Rattle.port_manager.specs.declared.port.Outcome.TheVariants as outcome
use Rattle.port_manager.specs.declared.port.Port.{Port}
use Rattle.port_manager.specs.declared.turn.Note.TheVariants as notes
use Rattle.port_manager.specs.CameUp.{CameUpAsWanted, IfUp, IsFoundUp, IsLookedAt, IsUpSo, ShowsUp}
use Rattle.port_manager.specs.Decisions.{IsDecision, IsDecisionFor, IsDecisionIn, IsJudged, has_no_plan, if_permitted, page_of_lanes, sleep_in, sleep_within}
use Rattle.port_manager.specs.Goals.{are_up, conventions_of, has_all, may_activate, may_provision}
use Rattle.port_manager.specs.Jobs.{asked, look_after, look_wants, paged_look, watching}
use Rattle.port_manager.specs.Looks as looks
use Rattle.port_manager.specs.Patients.{Patient, after_on, wants_on}
use Rattle.port_manager.specs.Ports.{outcome_of}
use Rattle.port_manager.specs.Readings.{IsJustRead}
use Rattle.port_manager.specs.Requests.{granted}
use Rattle.port_manager.specs.Runs.{Reaches}
use Rattle.port_manager.specs.Standing.{IsFounded, IsKnownOf, IsNamed}
use Rattle.port_manager.specs.Stories.{Story, make, request_in, step_with, steps_of}
use Rattle.port_manager.specs.Turns.{IsTurnOf, Turn, UnlessApplyRefused, decided, going, seen}
use Rattle.port_manager.specs.Turns as turns
use Rattle.port_manager.proofs.LookPages.{stands_on}
use Rattle.port_manager.proofs.MadeOperationLaws.{IsTurnAfter, each_made}
use Rattle.port_manager.proofs.PatientLaws.{asked_on, doubting_if, kept_within, never_waits, on_ends, paged_never, pausing_ends, trusting_if, within_ends}
use Rattle.port_manager.proofs.TurnCases.{Follows, IsAnyTurn, goes, later, look_never, pause_of, turn_all}
use Rattle.port_manager.proofs.TurnLaws.{NamesNext, just_read, turn_names}

-- ---- what a look has fetched

-- the look took the reply to its own operation, or is as it was
module _ (on : OnPage Look) (inner op : Op) (reply : Reply) (is : op ≡ page_first BankAndPage on.selection (looks.needed on.conversation) inner) where
  abbrev pub IsOwn : Look → Type 0
  IsOwn look = ((op ≡ inner) × (missing_page on.selection (looks.needed on.conversation) ≡ None) × (look ≡ looks.after on.conversation reply)) ⊎ (look ≡ on.conversation)

  lacks_none : (found : Option ℕ) → told_lacked (λ (look : Look) number. look) found on.conversation ≡ on.conversation
  lacks_none None = refl
  lacks_none (Some page) = refl

  own_missing : (missing : Option ℕ) → missing_page on.selection (looks.needed on.conversation) ≡ missing → is_awaited on.selection ≡ false → IsOwn (after_missing looks.after false missing on reply).conversation
  own_missing None m closed =
      inl (
        is ∙ ap (λ (b : Bool). if b then read_selection BankAndPage else selecting_first BankAndPage inner (missing_page on.selection (looks.needed on.conversation))) closed ∙ ap (selecting_first BankAndPage inner) m,
        m,
        refl,
      )
  own_missing (Some page) m closed = inr refl

  own_trusting : (awaited : Bool) → is_awaited on.selection ≡ awaited → IsOwn (trusting_if awaited paged_look on reply).conversation
  own_trusting true e = inr (lacks_none (lacked BankAndPage (looks.needed on.conversation) on.taken reply))
  own_trusting false e = own_missing (missing_page on.selection (looks.needed on.conversation)) refl e

  own_doubting : (doubt : Bool) (after : OnPage Look) → IsOwn after.conversation → IsOwn (doubting_if doubt after).conversation
  own_doubting true after own = own
  own_doubting false after own = own

  pub own_or_same : IsOwn (after_on paged_look on reply).conversation
  own_or_same =
      let after = trusting_if (is_awaited on.selection) paged_look on reply in
      own_doubting (after.doubts && is_refused reply) after (own_trusting (is_awaited on.selection) refl)

not_seen : (ready : Bool) → (if ready then looking.Lanes else looking.Seen false) ≡ looking.Seen true → ⊥
not_seen true e = cc
not_seen false e = cc

-- a look ends so by page 11h alone
seen_by : (goal : Goal) (at : LookStage) (op : Op) (reply : Reply) (before : History) → ((page : ℕ) → looks.page_at at ≡ Some page → is_page_confirmed BankAndPage page before ≡ true) → looks.wants_at at ≡ Do op
    → looks.stage_after goal at reply ≡ looking.Seen true → IsLookedAt goal op reply before
seen_by goal looking.Lower op (Bytes bytes) before confirmed wants e = absurd (not_seen (number_in_byte (fields.Cmis cmis.ModuleState) (slice_index bytes.items 3) == 3) e)
seen_by goal looking.Lower op Done before confirmed wants e = absurd cc
seen_by goal looking.Lower op Refused before confirmed wants e = absurd cc
seen_by goal looking.Lanes op (Bytes bytes) before confirmed wants e =
    let same : looks.fetch_half 128 ≡ op = cc in
    let both : (has_all bytes.items goal.control && are_up bytes.items goal.control goal.lanes) ≡ true = cc in
    let parts = and_parts (has_all bytes.items goal.control) (are_up bytes.items goal.control goal.lanes) both in
    (bytes.items, confirmed 0x11 refl, sym same, refl, record { has = parts.0; up = parts.1 })
seen_by goal looking.Lanes op Done before confirmed wants e = absurd cc
seen_by goal looking.Lanes op Refused before confirmed wants e = absurd cc
seen_by goal (looking.Seen wanted) op reply before confirmed wants e = absurd cc

end_seen : (at : LookStage) (end : Bool) → looks.wants_at at ≡ End end → at ≡ looking.Seen end
end_seen looking.Lower end e = absurd cc
end_seen looking.Lanes end e = absurd cc
end_seen (looking.Seen wanted) end e = let same : wanted ≡ end = cc in ap (λ (b : Bool). looking.Seen b) same

wants_none : (at : LookStage) (op : Op) → at ≡ looking.Seen true → looks.wants_at at ≡ Do op → ⊥
wants_none at op is wants = let no : ◌≡◌ {A = Next Bool} (End true) (Do op) = sym (ap looks.wants_at is) ∙ wants in cc

look_ended : (job : Patient (OnPage Look)) (spent : Spent (Timed Bool)) → look_wants job ≡ End spent → spent.end ≡ Some (InTime true) → job.conversation.conversation.conversation.stage ≡ looking.Seen true
look_ended job spent e in_time =
    let on = job.conversation.conversation in
    let pausing = within_ends job.steps job.limit (next_pausing job.conversation.due job.conversation.idle job.conversation.patience (wants_on paged_look on)) spent (InTime true) e in_time in
    let paged = pausing_ends job.conversation.due job.conversation.idle job.conversation.patience (wants_on paged_look on) true pausing in
    end_seen on.conversation.stage true (on_ends BankAndPage on.selection (looks.needed on.conversation) (looks.wants on.conversation) true paged)

found_by : (on : OnPage Look) (inner op : Op) (reply : Reply) (is : op ≡ page_first BankAndPage on.selection (looks.needed on.conversation) inner) (look : Look) (before : History) → IsKnownOf before on.selection
    → looks.wants on.conversation ≡ Do inner → look.stage ≡ looking.Seen true → IsOwn on inner op reply is look → IsLookedAt look.goal op reply before
found_by on inner op reply is look before known wants ended (inr same) = absurd (wants_none on.conversation.stage inner (ap (λ (look : Look). look.stage) (sym same) ∙ ended) wants)
found_by on inner op reply is look before known wants ended (inl (own, none, same)) =
    subst (λ (goal : Goal). IsLookedAt goal op reply before) (sym (ap (λ (look : Look). look.goal) same))
    (subst (λ (op : Op). IsLookedAt on.conversation.goal op reply before) (sym own)
    (seen_by on.conversation.goal on.conversation.stage inner reply before (stands_on on.selection (looks.needed on.conversation) before known none) wants (ap (λ (look : Look). look.stage) (sym same) ∙ ended)))

look_found : (job : Patient (OnPage Look)) (op : Op) (reply : Reply) (spent : Spent (Timed Bool)) (before : History) → IsKnownOf before job.conversation.conversation.selection → op_of (look_wants job) ≡ Some op
    → look_wants (look_after job reply) ≡ End spent → spent.end ≡ Some (InTime true) → IsLookedAt (look_after job reply).conversation.conversation.conversation.goal op reply before
look_found job op reply spent before known asks e in_time =
    let on = job.conversation.conversation in
    let a = asked_on paged_look job op asks in
    found_by on a.inner op reply a.is (look_after job reply).conversation.conversation.conversation before known a.wants (look_ended (look_after job reply) spent e in_time)
    (kept_within (λ (after : OnPage Look). IsOwn on a.inner op reply a.is after.conversation) (wants_on paged_look) (after_on paged_look) job reply (own_or_same on a.inner op reply a.is))

-- ---- what a reading has read

abbrev IfHold : Decision → (Goal → Type 0) → Type 0
IfHold (Leave reason) P = Unit {0}
IfHold Wake P = Unit {0}
IfHold Sleep P = Unit {0}
IfHold (Hold goal) P = P goal
IfHold (Activate goal) P = Unit {0}
IfHold (Provision goal) P = Unit {0}

-- page 11h of the image shows the goal as up
abbrev IsUpIn : Memory → Goal → Type 0
IsUpIn image goal = (page : List ℕ) × (page_of_lanes image ≡ Some page) × ShowsUp goal page

module _ (wanted : Wanted) (image : Memory) where
  abbrev Shown : Decision → Type 0
  Shown decision = IfHold decision (IsUpIn image)

  permits : (may : Bool) (decision : Decision) → Shown decision → Shown (if_permitted may decision)
  permits true decision shown = shown
  permits false decision shown = tt

  judged_shown : (page : List ℕ) (goal : Goal) (activate provision : Decision) (none has up : Bool) → page_of_lanes image ≡ Some page → has_all page goal.control ≡ has → are_up page goal.control goal.lanes ≡ up → Shown activate → Shown provision
      → Shown (if none then Leave left.NoPlan else if has then (if up then Hold goal else activate) else provision)
  judged_shown page goal activate provision true has up there e f activates provisions = tt
  judged_shown page goal activate provision false true true there e f activates provisions = (page, there, record { has = e; up = f })
  judged_shown page goal activate provision false true false there e f activates provisions = activates
  judged_shown page goal activate provision false false up there e f activates provisions = provisions

  shown_judged : (found : Option (List ℕ)) (decision : Decision) → page_of_lanes image ≡ found → IsJudged wanted image found decision → Shown decision
  shown_judged None decision there is = subst Shown (sym is) tt
  shown_judged (Some page) decision there (goal, has, is) =
      let activates = may_activate page goal.lanes wanted.may_take_down in
      let provisions = may_provision page goal.outside wanted.may_take_down in
      subst Shown (sym is)
      (judged_shown page goal (if_permitted activates (Activate goal)) (if_permitted provisions (Provision goal)) (has_no_plan wanted goal) (has_all page goal.control) (are_up page goal.control goal.lanes) there refl refl
      (permits activates (Activate goal) tt) (permits provisions (Provision goal) tt))

  shown_waking : (within : Bool) → Shown (if within then Wake else Leave left.NeedsPower)
  shown_waking true = tt
  shown_waking false = tt

  shown_in : (ready : Bool) (decision : Decision) → IsDecisionIn wanted image ready decision → Shown decision
  shown_in true decision is = shown_judged (page_of_lanes image) decision refl is
  shown_in false decision is = subst Shown (sym is) (shown_waking _)

  shown_unless : (decision : Decision) (fault : Option AdvertFault) → MatchOption fault (IsDecisionIn wanted image (number image (fields.Cmis cmis.ModuleState) == 3) decision) (λ fault. decision ≡ Leave (left.Advert fault)) → Shown decision
  shown_unless decision None is = shown_in (number image (fields.Cmis cmis.ModuleState) == 3) decision is
  shown_unless decision (Some fault) is = subst Shown (sym is) tt

  shown_sleep : (found : Option (List ℕ)) → Shown (sleep_in wanted.may_take_down found)
  shown_sleep None = tt
  shown_sleep (Some page) = permits _ Sleep tt

  shown_within : (low : Bool) → Shown (if low then Leave left.Asleep else sleep_in wanted.may_take_down (page_of_lanes image))
  shown_within true = tt
  shown_within false = shown_sleep (page_of_lanes image)

  shown_asleep : (decision : Decision) (fault : Option AdvertFault) → MatchOption fault (decision ≡ sleep_within wanted.may_take_down image) (λ fault. decision ≡ Leave (left.Advert fault)) → Shown decision
  shown_asleep decision None is = subst Shown (sym is) (shown_within (number image (fields.Cmis cmis.ModuleState) == 1))
  shown_asleep decision (Some fault) is = subst Shown (sym is) tt

  shown_for : (asleep : Bool) (decision : Decision) → IsDecisionFor asleep wanted image decision → Shown decision
  shown_for true decision is = shown_asleep decision (advert_fault_under (conventions_of wanted) image) is
  shown_for false decision is = shown_unless decision (advert_fault_under (conventions_of wanted) image) is

  pub decision_shown : (decision : Decision) → IsDecision wanted image decision → Shown decision
  decision_shown decision is = shown_for wanted.asleep decision is

-- ---- a turn

module _ (before : Story) (op : Op) (reply : Reply) (wanted : Wanted) where
  abbrev IsUpTurn : Turn → Type 0
  IsUpTurn (turns.On job note) = IfUp note ((goal : Goal) × (patience : Patience) × (job ≡ watching goal patience) × IsFoundUp goal op reply before)
  IsUpTurn (turns.Paused job time) = Unit {0}
  IsUpTurn (turns.Failed why) = Unit {0}
  IsUpTurn (turns.Left reason) = Unit {0}

  going_up : (pause : Option ℕ) (job : Job) → IsUpTurn (going pause job)
  going_up None job = tt
  going_up (Some time) job = tt

  decided_up : (image : Memory) (woken requested : Bool) (patience : Patience) (decision : Decision) → IsJustRead (step_with op reply ∷ steps_of before) image → IfHold decision (IsUpIn image) → IsUpTurn (decided woken requested patience decision)
  decided_up image woken requested patience (Leave reason) read shown = tt
  decided_up image true requested patience Wake read shown = tt
  decided_up image false requested patience Wake read shown = tt
  decided_up image woken requested patience Sleep read shown = tt
  decided_up image woken requested patience (Hold goal) read shown = (goal, patience, refl, inr (image, read, shown.0, shown.1, shown.2))
  decided_up image woken requested patience (Activate goal) read shown = tt
  decided_up image woken requested patience (Provision goal) read shown = tt

  follows_up : (job : Job) → ((look : Patient (OnPage Look)) → job ≡ jobs.Confirming look → ⊥) → Answers op reply → asked job ≡ Some op → IsFounded (steps_of before) job → Follows IsUpTurn wanted job reply
  follows_up (jobs.Reading job woken) other answers asks of = λ decision whole judged.
      decided_up _ woken _ _ decision (just_read (steps_of before) op reply job of asks answers whole) (decision_shown wanted _ decision judged)
  follows_up (jobs.Waking job) other answers asks of = tt
  follows_up (jobs.Sleeping job) other answers asks of = tt
  follows_up (jobs.Provisioning job goal) other answers asks of = tt
  follows_up (jobs.Activating job goal) other answers asks of = tt
  follows_up (jobs.Confirming job) other answers asks of = absurd (other job refl)
  follows_up (jobs.Watching job) other answers asks of = tt

  seen_up : (goal : Goal) (patience : Patience) (end : Option (Timed Bool)) → (end ≡ Some (InTime true) → IsLookedAt goal op reply (steps_of before)) → IsUpTurn (seen goal patience notes.CameUp end)
  seen_up goal patience None found = tt
  seen_up goal patience (Some Overdue) found = tt
  seen_up goal patience (Some (InTime true)) found = (goal, patience, refl, inl (found refl))
  seen_up goal patience (Some (InTime false)) found = tt

  confirming_up : (job : Patient (OnPage Look)) (turn : Turn) → IsFounded (steps_of before) (jobs.Confirming job) → asked (jobs.Confirming job) ≡ Some op → IsTurnOf wanted (jobs.Confirming job) reply turn → IsUpTurn turn
  confirming_up job turn of asks is =
      let after = look_after job reply in
      let goal = after.conversation.conversation.conversation.goal in
      goes (look_wants after) (pause_of (jobs.Confirming job) reply) (jobs.Confirming after) (λ end turn. turn ≡ seen goal after.conversation.patience notes.CameUp end) turn IsUpTurn is
      (λ op e. going_up (pause_of (jobs.Confirming job) reply) (jobs.Confirming after))
      (λ time e. never_waits (wants_on paged_look) (after_on paged_look) job reply time (paged_never paged_look look_never) e)
      (λ spent e ended. subst IsUpTurn (sym ended) (seen_up goal after.conversation.patience spent.end (λ in_time. look_found job op reply spent (steps_of before) of asks e in_time)))

  unless_up : (refused : Bool) (job : Patient (OnPage Look)) (turn : Turn) → IsFounded (steps_of before) (jobs.Confirming job) → asked (jobs.Confirming job) ≡ Some op → UnlessApplyRefused refused (IsTurnOf wanted (jobs.Confirming job) reply) turn → IsUpTurn turn
  unless_up true job turn of asks is = subst IsUpTurn (sym is) tt
  unless_up false job turn of asks is = confirming_up job turn of asks is

  other_up : (job : Job) (turn : Turn) → ((look : Patient (OnPage Look)) → job ≡ jobs.Confirming look → ⊥) → Answers op reply → asked job ≡ Some op → IsFounded (steps_of before) job → IsAnyTurn wanted job reply turn → IsUpTurn turn
  other_up job turn other answers asks of is =
      turn_all IsUpTurn (λ why. tt) wanted job reply turn (λ next e. going_up (pause_of job reply) (later job reply)) (follows_up job other answers asks of) is

  turn_up : (job : Job) (turn : Turn) → Answers op reply → asked job ≡ Some op → IsFounded (steps_of before) job → IsAnyTurn wanted job reply turn → IsUpTurn turn
  turn_up (jobs.Reading job woken) turn answers asks of is = other_up (jobs.Reading job woken) turn (λ look e. cc) answers asks of is
  turn_up (jobs.Waking job) turn answers asks of is = other_up (jobs.Waking job) turn (λ look e. cc) answers asks of is
  turn_up (jobs.Sleeping job) turn answers asks of is = other_up (jobs.Sleeping job) turn (λ look e. cc) answers asks of is
  turn_up (jobs.Provisioning job goal) turn answers asks of is = other_up (jobs.Provisioning job goal) turn (λ look e. cc) answers asks of is
  turn_up (jobs.Activating job goal) turn answers asks of is = other_up (jobs.Activating job goal) turn (λ look e. cc) answers asks of is
  turn_up (jobs.Confirming job) turn answers asks of (again, is) = unless_up _ job turn of asks is
  turn_up (jobs.Watching job) turn answers asks of is = other_up (jobs.Watching job) turn (λ look e. cc) answers asks of is

-- ---- a story

module _ (before : Story) (op : Op) (reply : Reply) (wanted : Wanted) (now : ℕ) where
  abbrev wishes : Wanted
  wishes = granted (request_in before) wanted

  turn_said : (port : Port) (turn : Turn) → IsUpTurn before op reply wishes turn → NamesNext before op reply wanted now turn → IsUpSo before op reply wanted now (outcome_of port turn now)
  turn_said port (turns.On job notes.Quiet) up named = tt
  turn_said port (turns.On job notes.Identified) up named = tt
  turn_said port (turns.On job notes.Woken) up named = tt
  turn_said port (turns.On job notes.Provisioned) up named = tt
  turn_said port (turns.On job notes.CameUp) (goal, patience, is, found) named = (goal, subst (IsNamed (make op reply wanted now (outcome.Went notes.CameUp) ∷ before)) is named, found)
  turn_said port (turns.On job notes.Held) up named = tt
  turn_said port (turns.Paused job time) up named = tt
  turn_said port (turns.Failed why) up named = tt
  turn_said port (turns.Left reason) up named = tt

  turned_said : (port : Port) (job : Job) (turn : Turn) → IsTurnAfter before op reply wanted job turn → IsUpSo before op reply wanted now (outcome_of port turn now)
  turned_said port job turn is =
      turn_said port turn (turn_up before op reply wishes job turn is.answers is.asks is.founded is.leads) (turn_names before op reply wanted now job turn is.answers is.asks is.founded is.named is.leads)

pub came_up_as_wanted : (story : Story) (port : Port) → Reaches story port → CameUpAsWanted story
came_up_as_wanted = each_made IsUpSo (λ before op reply wanted now. tt) turned_said
