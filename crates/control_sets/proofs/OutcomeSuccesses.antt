-- Steps that are provisioning and activation with success. They are told to the task list one by one.
use Rattle.std.proofs.Common.{◌≡◌, ℕ, ◌+◌, ◌/◌, ◌%◌, ◌-◌, ◌^◌, ◌<◌, ◌≤◌, ◌==◌, ◌&&◌, ◌||◌, not, Bool, List, [], ◌∷◌, length, get_or, None, Some, Ok, false, true, refl, sym, ap, subst, ◌∙◌, inl, inr, nat_le, nat_lt, arith}
use Rattle.std.specs.Prelude.{find, slice_get}
use Rattle.std.specs.List.{list_all, range_with_len}
use Rattle.bus_model.specs.declared.operation.Reply.{Reply}
use Rattle.bus_model.specs.declared.operation.Reply.TheVariants.{Bytes, Done}
use Rattle.bus_model.specs.declared.operation.Step.{Step}
use Rattle.bus_model.specs.Operations.{Answers}
use Rattle.field_tables.specs.LaneBytes.{byte_of-lanes_in, contains-run_of}
use Rattle.field_tables.specs.LaneSets.{Lanes, byte_of, every_lane, lanes_in, run_of}
use Rattle.field_tables.specs.Numbers.{number_in}
use Rattle.field_tables.proofs.LaneLaws.{lanes_in-mask}
use Rattle.datapath_states.specs.Lanes.{code_in, codes_in}
use Rattle.datapath_states.specs.StateCodes.{code_of}
use Rattle.datapath_states.specs.declared.state.PathState.{PathState}
use Rattle.datapath_states.specs.declared.state.PathState.TheVariants.{Activated, Deactivated}
use Rattle.control_sets.specs.declared.procedures.judgement.ReplyJudgement.{ReplyJudgement}
use Rattle.control_sets.specs.declared.procedures.judgement.ReplyJudgement.TheVariants.{Met, NotYet}
use Rattle.control_sets.specs.declared.procedures.procedure.Work.{Work}
use Rattle.control_sets.specs.declared.procedures.procedure.Work.TheVariants.{Activation, Provisioning}
use Rattle.control_sets.specs.declared.procedures.task.Task.{Task}
use Rattle.control_sets.specs.declared.procedures.task.Task.TheVariants.{AwaitApplied, AwaitDeactivated, FindReady}
use Rattle.control_sets.specs.Judgements.{at_lane, is_rejection, is_reserved_state, is_reserved_status, judged, judgement, judged_states, judged_statuses, met_if, unless_rejected, unless_reserved}
use Rattle.control_sets.specs.OutcomeExamples.{activated, all_tell, gave, on_controls, on_page, on_status_at_once, pairs, provisioned, provisioned_beside_reserved_codes, provisioned_on, ready, took}
use Rattle.control_sets.specs.OutcomeOfActivation.{IsActivation}
use Rattle.control_sets.specs.OutcomeOfProvisioning.{IsProvisioning}
use Rattle.control_sets.specs.OutcomeOperations.{apply, control_page, read_active, read_path_states, read_staged, read_statuses, set_deinit, stage, status_page}
use Rattle.control_sets.specs.Pages.{History, is_open, is_page_confirmed, read_selection, selection}
use Rattle.control_sets.specs.Procedures.{HasEnded, is_on}
use Rattle.control_sets.specs.Progress.{judged_at, tasks_of}
use Rattle.control_sets.specs.Tasks.{activation, operation, page_of, provisioning}
use Rattle.control_sets.proofs.OutcomeIsActivation.{ended_is_activation}
use Rattle.control_sets.proofs.OutcomeIsProvisioning.{ended_is_provisioning}
use Rattle.control_sets.proofs.Turns.{Stands, at_start, ended_at, selected, stays_closed, works, works_apart}

-- ---- what lanes tell, by a test of which lanes are looked at

abbrev states_told : (ℕ → Bool) → PathState → List ℕ → ReplyJudgement
states_told has state codes =
    unless_reserved codes (find (λ lane. has lane && is_reserved_state (at_lane codes lane)) (range_with_len 1 8))
    (met_if (list_all (λ lane. not (has lane) || at_lane codes lane == code_of state) (range_with_len 1 8)))

abbrev statuses_told : (ℕ → Bool) → List ℕ → ReplyJudgement
statuses_told has codes =
    unless_reserved codes (find (λ lane. has lane && is_reserved_status (at_lane codes lane)) (range_with_len 1 8))
    (unless_rejected codes (find (λ lane. has lane && is_rejection (at_lane codes lane)) (range_with_len 1 8))
    (met_if (list_all (λ lane. not (has lane) || at_lane codes lane == 1) (range_with_len 1 8))))

abbrev is_in_run : ℕ → ℕ → ℕ → Bool
is_in_run first count lane = nat_le first lane && nat_lt lane (first + count)

states_by : (first count : ℕ) (state : PathState) (codes : List ℕ) → judged_states (run_of first count) (run_of first count) state codes ≡ states_told (is_in_run first count) state codes
states_by first count state codes = λ i. states_told (λ lane. contains-run_of first count lane i) state codes

statuses_by : (first count : ℕ) (codes : List ℕ) → judged_statuses (run_of first count) codes ≡ statuses_told (is_in_run first count) codes
statuses_by first count codes = λ i. statuses_told (λ lane. contains-run_of first count lane i) codes

-- the byte of a run of lanes
byte_of_run : (first count byte : ℕ) → 1 ≤ first → first + count ≤ 9 → 2 ^ (first - 1 + count) - 2 ^ (first - 1) ≡ byte → byte < 256 → byte_of (run_of first count) ≡ byte
byte_of_run first count byte from to is fits = ap byte_of (sym (lanes_in-mask first count from to) ∙ ap lanes_in is) ∙ byte_of-lanes_in byte fits

-- ---- some steps more

-- so many tasks are met
abbrev Comes : Work → History → ℕ → Type 0
Comes work history met = Stands false (tasks_of work) history met None

abbrev nth_task : Work → ℕ → Task
nth_task work met = get_or (tasks_of work) met FindReady

-- by the step of a task
pub makes : (work : Work) (met : ℕ) (history : History) (reply : Reply) (judged : ReplyJudgement) → slice_get (tasks_of work) met ≡ Some (nth_task work met) → Answers (operation (nth_task work met)) reply →
    judgement (nth_task work met) reply ≡ judged → is_open history ≡ false → is_on (page_of (nth_task work met)) history ≡ true → Comes work history met →
    let s = judged_at (met, None) judged in Stands false (tasks_of work) (record { op = operation (nth_task work met); reply = reply } ∷ history) s.0 s.1
makes work met history reply judged found answers says closed on at =
    let step : Step = record { op = operation (nth_task work met); reply = reply } in
    record {
      come = works false (tasks_of work) (works_apart work) history step answers met (nth_task work met) found at.come refl closed on judged says;
      closed = λ none. stays_closed false (tasks_of work) (works_apart work) history step answers met (nth_task work met) found at.come refl closed on;
    }

-- and by those that select a page that is missing
chooses : (work : Work) (met page : ℕ) (history : History) → slice_get (tasks_of work) met ≡ Some (nth_task work met) → page_of (nth_task work met) ≡ Some page → is_open history ≡ false → is_page_confirmed page history ≡ false →
    Comes work history met → Comes work (on_page page history) met
chooses work met page history found needs closed unconfirmed at =
    let asked = selected false (tasks_of work) (works_apart work) history (took (selection page)) tt met None (Some (nth_task work met)) found (inr (closed, (page, needs, unconfirmed, refl))) at in
    selected false (tasks_of work) (works_apart work) (took (selection page) ∷ history) (gave read_selection (page / 256 ∷ page % 256 ∷ [])) refl met None (Some (nth_task work met)) found (inl (refl, refl)) asked

-- ---- provisioning

abbrev down_on : ℕ → History
down_on bits = took (set_deinit bits) ∷ on_controls

abbrev found_on : ℕ → List ℕ → History
found_on bits states = gave read_path_states states ∷ on_page status_page (down_on bits)

abbrev staged_on : ℕ → List ℕ → History
staged_on bits states = gave read_staged pairs ∷ took (stage pairs) ∷ on_page control_page (found_on bits states)

abbrev applied_on : ℕ → List ℕ → History
applied_on bits states = on_page status_page (took (apply bits) ∷ staged_on bits states)

module _ (lanes : Lanes) (bits : ℕ) (states early late : List ℕ) (is : byte_of lanes ≡ bits) (states_4 : length states ≡ 4) (early_4 : length early ≡ 4) (late_4 : length late ≡ 4)
    (down : judged (AwaitDeactivated lanes) states ≡ Met) (in_progress : judged (AwaitApplied lanes) early ≡ NotYet) (success : judged (AwaitApplied lanes) late ≡ Met) where
  abbrev work : Work
  work = Provisioning pairs lanes

  found_ready : Comes work (ready ∷ []) 1
  unfolding judged
  found_ready = makes work 0 [] (Bytes (record { items = 0x06 ∷ [] })) Met refl refl refl refl refl (at_start false (provisioning pairs lanes))

  to_controls : Comes work on_controls 1
  to_controls = chooses work 1 control_page (ready ∷ []) refl refl refl refl found_ready

  taken_down : Comes work (down_on bits) 2
  taken_down = subst (λ (b : ℕ). Comes work (down_on b) 2) is (makes work 1 on_controls Done Met refl tt refl refl refl to_controls)

  found_down : Comes work (found_on bits states) 3
  found_down = makes work 2 (on_page status_page (down_on bits)) (Bytes (record { items = states })) Met refl states_4 down refl refl (chooses work 2 status_page (down_on bits) refl refl refl refl taken_down)

  checked : Comes work (staged_on bits states) 5
  unfolding judged
  checked =
      let there = chooses work 3 control_page (found_on bits states) refl refl refl refl found_down in
      let staged = makes work 3 (on_page control_page (found_on bits states)) Done Met refl tt refl refl refl there in
      makes work 4 (took (stage pairs) ∷ on_page control_page (found_on bits states)) (Bytes (record { items = pairs })) Met refl refl refl refl refl staged

  asked_for : Comes work (applied_on bits states) 6
  asked_for =
      let asked = subst (λ (b : ℕ). Comes work (took (apply b) ∷ staged_on bits states) 6) is (makes work 5 (staged_on bits states) Done Met refl tt refl refl refl checked) in
      chooses work 6 status_page (took (apply bits) ∷ staged_on bits states) refl refl refl refl asked

  ends : Comes work (provisioned_on bits states early late) 8
  unfolding judged
  ends =
      let asked = applied_on bits states in
      let waits = makes work 6 asked (Bytes (record { items = early })) NotYet refl early_4 in_progress refl refl asked_for in
      let applied = makes work 6 (gave read_statuses early ∷ asked) (Bytes (record { items = late })) Met refl late_4 success refl refl waits in
      makes work 7 (gave read_statuses late ∷ gave read_statuses early ∷ asked) (Bytes (record { items = pairs })) Met refl refl refl refl refl applied

  succeeds : (full : Type 0) → IsProvisioning pairs lanes full (provisioned_on bits states early late) (Ok 17)
  succeeds full =
      let ended : HasEnded (provisioning pairs lanes) (provisioned_on bits states early late) (Ok 17) = ended_at false (provisioning pairs lanes) (provisioned_on bits states early late) (omega arith) 8 None refl ends in
      ended_is_provisioning false pairs lanes refl full (provisioned_on bits states early late) (Ok 17) ended

every_byte : byte_of every_lane ≡ 0xFF
every_byte = byte_of_run 1 8 0xFF (omega arith) (omega arith) refl (omega arith)

pub all_provisioned : (full : Type 0) → IsProvisioning pairs every_lane full provisioned (Ok 17)
unfolding judged code_in number_in
all_provisioned =
    succeeds every_lane 0xFF (all_tell 0x11) (all_tell 0xCC) (all_tell 0x11) every_byte refl refl refl
    (states_by 1 8 Deactivated (codes_in (all_tell 0x11) 8)) (statuses_by 1 8 (codes_in (all_tell 0xCC) 8)) (statuses_by 1 8 (codes_in (all_tell 0x11) 8))

pub provisioned_beside : (full : Type 0) → IsProvisioning pairs (run_of 5 4) full provisioned_beside_reserved_codes (Ok 17)
unfolding judged code_in number_in
provisioned_beside =
    succeeds (run_of 5 4) 0xF0 (0x00 ∷ 0xF8 ∷ 0x11 ∷ 0x11 ∷ []) (0x88 ∷ 0xB9 ∷ 0xCC ∷ 0xCC ∷ []) (0x88 ∷ 0xB9 ∷ 0x11 ∷ 0x11 ∷ [])
    (byte_of_run 5 4 0xF0 (omega arith) (omega arith) refl (omega arith)) refl refl refl
    (states_by 5 4 Deactivated (codes_in (0x00 ∷ 0xF8 ∷ 0x11 ∷ 0x11 ∷ []) 8))
    (statuses_by 5 4 (codes_in (0x88 ∷ 0xB9 ∷ 0xCC ∷ 0xCC ∷ []) 8))
    (statuses_by 5 4 (codes_in (0x88 ∷ 0xB9 ∷ 0x11 ∷ 0x11 ∷ []) 8))

-- ---- activation, on all lanes

abbrev bringing_up : Work
bringing_up = Activation pairs every_lane

abbrev found_active : History
found_active = gave read_active pairs ∷ on_status_at_once

abbrev released : History
released = took (set_deinit 0x00) ∷ on_page control_page found_active

to_active : Comes bringing_up found_active 2
unfolding judged
to_active =
    let found = makes bringing_up 0 [] (Bytes (record { items = 0x06 ∷ [] })) Met refl refl refl refl refl (at_start false (activation pairs every_lane)) in
    makes bringing_up 1 on_status_at_once (Bytes (record { items = pairs })) Met refl refl refl refl refl (chooses bringing_up 1 status_page (ready ∷ []) refl refl refl refl found)

to_released : Comes bringing_up released 3
to_released =
    subst (λ (b : ℕ). Comes bringing_up (took (set_deinit (255 - b)) ∷ on_page control_page found_active) 3) every_byte
    (makes bringing_up 2 (on_page control_page found_active) Done Met refl tt refl refl refl (chooses bringing_up 2 control_page found_active refl refl refl refl to_active))

comes_up : Comes bringing_up activated 4
unfolding judged code_in number_in
comes_up =
    let there = chooses bringing_up 3 status_page released refl refl refl refl to_released in
    let waits = makes bringing_up 3 (on_page status_page released) (Bytes (record { items = all_tell 0x22 })) NotYet refl refl (states_by 1 8 Activated (codes_in (all_tell 0x22) 8)) refl refl there in
    makes bringing_up 3 (gave read_path_states (all_tell 0x22) ∷ on_page status_page released) (Bytes (record { items = all_tell 0x44 })) Met refl refl (states_by 1 8 Activated (codes_in (all_tell 0x44) 8)) refl refl waits

pub all_activated : (full : Type 0) → IsActivation pairs every_lane full activated (Ok 11)
all_activated full =
    let ended : HasEnded (activation pairs every_lane) activated (Ok 11) = ended_at false (activation pairs every_lane) activated (omega arith) 4 None refl comes_up in
    ended_is_activation false pairs every_lane refl full activated (Ok 11) ended
