-- The numbers of a conversation stand for it.
use Rattle.std.proofs.Common.{◌⊎◌, inl, inr, ◌≡◌, ◌≤◌, ◌<◌, ◌+◌, ◌==◌, ℕ, Bool, true, false, List, length, take, Option, Some, None, refl, ap, sym, subst, ◌∙◌, if◌then◌else◌}
use Rattle.std.specs.Prelude.{◌&&◌, ◌||◌, IsTrue, is_some, nat_le, not}
use Rattle.std.specs.Prelude.{unwrap_or as or_else}
use Rattle.std.specs.List.{list_all}
use Rattle.std.specs.List.{slice_index}
use Rattle.std.specs.Option.{option_map}
use Rattle.std.proofs.lemmas.Bool.{and_from, eqb-true, le-leb, lt-ltb}
use Rattle.field_tables.specs.LaneSets.{lanes_in}
use Rattle.conversations.specs.declared.watching.Look.{Look}
use Rattle.conversations.specs.declared.watching.Look.TheVariants.{Seen, Due, Left}
use Rattle.conversations.specs.Pauses.{counted}
use Rattle.conversations.specs.Watching.{look_after_wait}
use Rattle.module_states.specs.declared.state.ModuleState.{ModuleState as State}
use Rattle.module_states.specs.Codes.{state_at}
use Rattle.paged_memory.specs.declared.page_addressing.KnownPage.{KnownPage}
use Rattle.control_sets.specs.PatientProcedures.{WatchfulProcedure}
use Rattle.control_sets.specs.declared.fault.ProvisionFault.{ProvisionFault}
use Rattle.control_sets.specs.declared.procedures.power.Power.{Power}
use Rattle.control_sets.specs.declared.procedures.power.Power.TheVariants.{Awake, Asleep}
use Rattle.control_sets.specs.declared.procedures.power.PowerStage.{PowerStage}
use Rattle.control_sets.specs.declared.procedures.procedure.Work.{Work}
use Rattle.control_sets.specs.declared.procedures.procedure.Work.TheVariants.{Provisioning, Activation}
use Rattle.control_sets.specs.declared.procedures.procedure.saved.SavedProcedure.{SavedProcedure}
use Rattle.control_sets.specs.OutcomeAnswers.{most_steps}
use Rattle.control_sets.specs.PowerProgress.{PatientPower, patient_power}
use Rattle.control_sets.specs.Progress.{PatientProcedure, patient_by, tasks_of}
use Rattle.control_sets.specs.SavedNumbers.{can_stand, due_numbered, fault_in, numbered, restored, saved_fault, selected_numbered, work_numbered}
use Rattle.control_sets.specs.SavedPower.{can_stop, change_of, has_no_more, power_numbered, restored_power, stage_numbered}
use Rattle.firmware_api.specs.declared.conversation.numbers.SavedConversation.{SavedConversation}
use Rattle.firmware_api.specs.declared.half.HalfBytes.{HalfBytes}
use Rattle.firmware_api.specs.declared.kept.Kept.{Kept}
use Rattle.firmware_api.specs.declared.kept.Kept.TheVariants.{OfTasks, OfPower, OfReading}
use Rattle.firmware_api.specs.Halves.{has_place, memory_of}
use Rattle.conversations.specs.Patiently.{Patient, paused}
use Rattle.firmware_api.specs.KeptConversations.{InHand, after_pause, halves_of}
use Rattle.firmware_api.specs.SavedConversations.{AreOfReading, HasNumbers, HasRead, code_in, conversation_in, fault_of_look, is_reading, is_sound, fault_at, look_by, look_in, number_of_look, paused_look, paused_numbers, paused_procedure, procedure_by, procedure_numbers, reading_by, reading_in, reading_with, tasks_in, work_of_reading}
use Rattle.firmware_api.specs.Statuses.{number_of}

pub same_some : {A : Type 0} (a b : A) → Some a ≡ Some b → a ≡ b
same_some a b same = cc

-- ---- parts

yes_back : (bit : Bool) → (number_of bit == 1) ≡ bit
yes_back true = refl
yes_back false = refl

yes_few : (bit : Bool) → nat_le (number_of bit) 1 ≡ true
yes_few true = refl
yes_few false = refl

taken_back : (taken : Option ℕ) → (if number_of (is_some taken) == 1 then Some (or_else taken 0) else None) ≡ taken
taken_back None = refl
taken_back (Some page) = refl

taken_page : (taken : Option ℕ) → (number_of (is_some taken) == 1 || or_else taken 0 == 0) ≡ true
taken_page None = refl
taken_page (Some page) = refl

pub due_back : (due : Bool) → due_numbered (number_of due) ≡ Some due
due_back true = refl
due_back false = refl

-- ---- works

-- one of two, by its number
chosen : {A : Type 0} (number n m : ℕ) (a b x : A) → (if number == n then Some a else (if number == m then Some b else None)) ≡ Some x → (number ≡ n) ⊎ (number ≡ m)
chosen number n m a b x is = by (number == n) refl (number == m) refl is where
  by : (one : Bool) → (number == n) ≡ one → (other : Bool) → (number == m) ≡ other → (if one then Some a else (if other then Some b else None)) ≡ Some x → (number ≡ n) ⊎ (number ≡ m)
  by true one other e is = inl (eqb-true number n one)
  by false one true other is = inr (eqb-true number m other)
  by false one false other is = absurd cc

-- it is no reading
not_reading : (number n m : ℕ) → (n == work_of_reading) ≡ false → (m == work_of_reading) ≡ false → (number ≡ n) ⊎ (number ≡ m) → (number == work_of_reading) ≡ false
not_reading number n m one other (inl is) = ap (λ (k : ℕ). k == work_of_reading) is ∙ one
not_reading number n m one other (inr is) = ap (λ (k : ℕ). k == work_of_reading) is ∙ other

other_work : (saved : SavedProcedure) (work : Work) → work_numbered saved.work saved.control saved.lanes ≡ Some work → (saved.work == work_of_reading) ≡ false
other_work saved work is = not_reading saved.work 1 2 refl refl (chosen saved.work 1 2 (Provisioning saved.control (lanes_in saved.lanes)) (Activation saved.control (lanes_in saved.lanes)) work is)

other_power : (saved : SavedProcedure) (power : Power) → power_numbered saved.work ≡ Some power → (saved.work == work_of_reading) ≡ false
other_power saved power is = not_reading saved.work 3 4 refl refl (chosen saved.work 3 4 Awake Asleep power is)

-- ---- procedures of tasks

module _ (saved : SavedProcedure) (doubts : Bool) (procedure : PatientProcedure) where
  tasks_by : (work : Option Work) (selected : Option KnownPage) (fault : Option (Option ProvisionFault)) (due : Option Bool) →
      work_numbered saved.work saved.control saved.lanes ≡ work → numbered saved doubts work selected fault due ≡ Some procedure →
      ((saved.work == work_of_reading) ≡ false) × (procedure.limit ≡ most_steps)
  tasks_by (Some work) (Some selected) (Some fault) (Some due) is found = (other_work saved work is, go (nat_le saved.steps most_steps && can_stand (tasks_of work) saved.met fault) found)
    where
      made : PatientProcedure
      made = patient_by doubts (record { work = work; met = saved.met; fault = fault }) selected (record { pause = saved.pause; limit = saved.limit }) due saved.idle saved.steps

      go : (can : Bool) → (if can then Some made else None) ≡ Some procedure → procedure.limit ≡ most_steps
      go true found = ap (λ (p : PatientProcedure). p.limit) (sym (same_some made procedure found))
      go false found = absurd cc
  tasks_by _ _ _ _ is found = absurd cc

  pub tasks_say : restored saved doubts ≡ Some procedure → ((saved.work == work_of_reading) ≡ false) × (procedure.limit ≡ most_steps)
  unfolding restored
  tasks_say found =
      tasks_by (work_numbered saved.work saved.control saved.lanes) (selected_numbered saved.selection saved.page) (fault_in saved.fault) (due_numbered saved.due) refl found

found_tasks : (saved : SavedConversation) (halves : List HalfBytes) (procedure : PatientProcedure) → is_sound saved ≡ true → (saved.saved.work == work_of_reading) ≡ false →
    restored saved.saved (saved.doubts == 1) ≡ Some procedure → (look : Look) → look_in saved ≡ Some look → conversation_in saved halves ≡ Some (tasks_in saved procedure look)
unfolding conversation_in
found_tasks saved halves procedure sound other is look looks = rw (sound, other, is, looks) refl

sound_procedure : (saved : SavedProcedure) (doubts watches : Bool) (look : Look) → is_sound (procedure_numbers saved doubts watches look) ≡ true
sound_procedure saved true true look = refl
sound_procedure saved true false look = refl
sound_procedure saved false true look = refl
sound_procedure saved false false look = refl

watches_back : (saved : SavedProcedure) (it : WatchfulProcedure) →
    tasks_in (procedure_numbers saved it.conversation.conversation.conversation.doubts it.watches it.look) it.conversation it.look ≡ OfTasks it
watches_back saved it = rw (yes_back it.watches) refl

look_back : (look : Look) → look_by (number_of_look look) (fault_in (saved_fault (fault_of_look look))) ≡ Some look
look_back Seen = refl
look_back Due = refl
look_back (Left code) = by (state_at code) refl where
  by : (found : Option State) → state_at code ≡ found → look_by 0 (fault_in (saved_fault (Some (fault_at code found)))) ≡ Some (Left code)
  by (Some state) is = ap (λ (s : Option State). option_map Left (if is_some s then Some code else None)) is
  by None is = ap (λ (s : Option State). option_map Left (if is_some s then None else Some code)) is

pub tasks_back : (it : WatchfulProcedure) (saved : SavedProcedure) (halves : List HalfBytes) → restored saved it.conversation.conversation.conversation.doubts ≡ Some it.conversation →
    conversation_in (procedure_numbers saved it.conversation.conversation.conversation.doubts it.watches it.look) halves ≡ Some (OfTasks it)
tasks_back it saved halves is =
    let doubts = it.conversation.conversation.conversation.doubts in
    found_tasks (procedure_numbers saved doubts it.watches it.look) halves it.conversation (sound_procedure saved doubts it.watches it.look) (tasks_say saved doubts it.conversation is).0
    (ap (λ (d : Bool). restored saved d) (yes_back doubts) ∙ is) it.look (look_back it.look)
    ∙ ap (λ (kept : Kept). Some kept) (watches_back saved it)

-- ---- changes of power

module _ (saved : SavedProcedure) (change : PatientPower) where
  change_by : (power : Option Power) (stage : Option PowerStage) (fault : Option (Option ProvisionFault)) (due : Option Bool) →
      power_numbered saved.work ≡ power → change_of saved power stage fault due ≡ Some change → ((saved.work == work_of_reading) ≡ false) × (change.limit ≡ most_steps)
  change_by (Some power) (Some stage) (Some fault) (Some due) is found = (other_power saved power is, go (nat_le saved.steps most_steps && (can_stop fault && has_no_more saved)) found)
    where
      made : PatientPower
      made = patient_power (record { power = power; stage = stage; fault = fault }) (record { pause = saved.pause; limit = saved.limit }) due saved.idle saved.steps

      go : (can : Bool) → (if can then Some made else None) ≡ Some change → change.limit ≡ most_steps
      go true found = ap (λ (p : PatientPower). p.limit) (sym (same_some made change found))
      go false found = absurd cc
  change_by _ _ _ _ is found = absurd cc

  pub power_says : restored_power saved ≡ Some change → ((saved.work == work_of_reading) ≡ false) × (change.limit ≡ most_steps)
  unfolding restored_power
  power_says found = change_by (power_numbered saved.work) (stage_numbered saved.met (slice_index saved.control 0)) (fault_in saved.fault) (due_numbered saved.due) refl found

found_power : (saved : SavedConversation) (halves : List HalfBytes) (change : PatientPower) → is_sound saved ≡ true → (saved.saved.work == work_of_reading) ≡ false →
    restored saved.saved (saved.doubts == 1) ≡ None → restored_power saved.saved ≡ Some change → conversation_in saved halves ≡ Some (OfPower change)
unfolding conversation_in
found_power saved halves change sound other none is = rw (sound, other, none, is) refl

pub power_back : (change : PatientPower) (saved : SavedProcedure) (halves : List HalfBytes) → ((doubts : Bool) → restored saved doubts ≡ None) → restored_power saved ≡ Some change →
    conversation_in (procedure_numbers saved false false Seen) halves ≡ Some (OfPower change)
power_back change saved halves none is = found_power (procedure_numbers saved false false Seen) halves change refl (power_says saved change is).0 (none false) is

-- ---- readings

-- the numbers of a reading with its halves and its part
pub record Writes (new : SavedConversation) (read : Patient InHand) (count : ℕ) : Type 0 where
  pub magic : (new.magic == 0x44434331) ≡ true
  pub saved : AreOfReading new.saved read
  pub doubts : new.doubts ≡ number_of read.conversation.conversation.conversation.doubts
  pub taken : new.taken ≡ number_of (is_some read.conversation.conversation.conversation.taken)
  pub taken_page : new.taken_page ≡ or_else read.conversation.conversation.conversation.taken 0
  pub halves : new.halves ≡ count
  pub piece : new.piece ≡ read.conversation.conversation.piece
  pub part : take new.read new.part ≡ read.conversation.conversation.part.items
  pub short : new.read ≡ length read.conversation.conversation.part.items
  pub watches : new.watches ≡ 0

found_reading : (saved : SavedConversation) (halves : List HalfBytes) (selection : KnownPage) (due : Bool) → is_sound saved ≡ true → saved.saved.work ≡ work_of_reading →
    is_reading saved halves ≡ true → selected_numbered saved.saved.selection saved.saved.page ≡ Some selection → due_numbered saved.saved.due ≡ Some due →
    conversation_in saved halves ≡ Some (reading_with saved halves selection due)
unfolding conversation_in
found_reading saved halves selection due sound five reads selected is_due = rw (sound, five, reads, selected, is_due) refl

is_true : (b : Bool) → IsTrue b → b ≡ true
is_true b holds = holds

module _ (new : SavedConversation) (read : Patient InHand) (count : ℕ) (halves : List HalfBytes) (writes : Writes new read count) (has : HasNumbers read count) (has_read : HasRead read (take count halves)) where
  sound_reading : is_sound new ≡ true
  sound_reading =
      let on = read.conversation.conversation.conversation in
      and_from _ _ writes.magic (and_from _ _ (subst (λ (n : ℕ). nat_le n 1 ≡ true) (sym writes.doubts) (yes_few on.doubts))
      (and_from _ _ (subst (λ (n : ℕ). nat_le n 1 ≡ true) (sym writes.taken) (yes_few (is_some on.taken)))
      (and_from _ _ (subst (λ (n : ℕ). (n == 1 || new.taken_page == 0) ≡ true) (sym writes.taken)
      (subst (λ (n : ℕ). (number_of (is_some on.taken) == 1 || n == 0) ≡ true) (sym writes.taken_page) (taken_page on.taken)))
      (subst (λ (n : ℕ). nat_le n 1 ≡ true) (sym writes.watches) refl))))

  reads_so : is_reading new halves ≡ true
  reads_so =
      let numbers = writes.saved in
      let (limit, few, most, made) = has.room in
      and_from _ _ (le-leb new.saved.steps most_steps (subst (λ (n : ℕ). n ≤ most_steps) (sym numbers.steps) few))
      (and_from _ _ (le-leb new.saved.met 5 (subst (λ (n : ℕ). n ≤ 5) (sym numbers.met) most))
      (and_from _ _ (le-leb new.saved.met new.saved.steps (subst (λ (n : ℕ). n ≤ new.saved.steps) (sym numbers.met) (subst (λ (n : ℕ). (halves_of read).settled ≤ n) (sym numbers.steps) made)))
      (and_from _ _ (le-leb new.halves new.saved.met (subst (λ (n : ℕ). n ≤ new.saved.met) (sym writes.halves) (subst (λ (n : ℕ). count ≤ n) (sym numbers.met) has.count)))
      (and_from _ _ (lt-ltb 0 new.piece (subst (λ (n : ℕ). 0 < n) (sym writes.piece) has.piece))
      (and_from _ _ (lt-ltb new.read 128 (subst (λ (n : ℕ). n < 128) (sym writes.short) has.part))
      (is_true _ (subst (λ (n : ℕ). IsTrue (list_all has_place (take n halves))) (sym writes.halves) has_read.1)))))))

  same_reading : reading_with new halves read.conversation.conversation.conversation.selection read.conversation.due ≡ OfReading read
  same_reading =
      let numbers = writes.saved in
      let image : memory_of (take new.halves halves) ≡ (halves_of read).image = ap (λ (n : ℕ). memory_of (take n halves)) writes.halves ∙ sym has_read.0 in
      let taken : (if new.taken == 1 then Some new.taken_page else None) ≡ read.conversation.conversation.conversation.taken =
      ap (λ (n : ℕ). if n == 1 then Some new.taken_page else None) writes.taken
      ∙ ap (λ (n : ℕ). if number_of (is_some read.conversation.conversation.conversation.taken) == 1 then Some n else None) writes.taken_page
      ∙ taken_back read.conversation.conversation.conversation.taken in
      let doubts : (new.doubts == 1) ≡ read.conversation.conversation.conversation.doubts =
      ap (λ (n : ℕ). n == 1) writes.doubts ∙ yes_back read.conversation.conversation.conversation.doubts in
      (λ i. OfReading (record {
        conversation = record {
          conversation = record {
            conversation = record {
              conversation = record { request = record { halves = numbers.request i }; image = image i; settled = numbers.met i };
              selection = read.conversation.conversation.conversation.selection;
              taken = taken i;
              doubts = doubts i;
            };
            piece = writes.piece i;
            part = record { items = writes.part i };
          };
          patience = numbers.patience i;
          due = read.conversation.due;
          idle = numbers.idle i;
        };
        steps = numbers.steps i;
        limit = sym has.room.0 i;
      }))

  pub reading_back : conversation_in new halves ≡ Some (OfReading read)
  reading_back =
      found_reading new halves read.conversation.conversation.conversation.selection read.conversation.due sound_reading writes.saved.work reads_so writes.saved.selected writes.saved.due
      ∙ ap (λ (kept : Kept). Some kept) same_reading

-- ---- after a pause

module _ (saved : SavedProcedure) where
  tasks_pause : (doubts : Bool) (procedure : PatientProcedure) (work : Option Work) (selected : Option KnownPage) (fault : Option (Option ProvisionFault)) (due : Option Bool) →
      numbered saved doubts work selected fault due ≡ Some procedure → numbered (paused_procedure saved) doubts work selected fault (Some false) ≡ Some (paused procedure)
  tasks_pause doubts procedure (Some work) (Some selected) (Some fault) (Some due) found = go (nat_le saved.steps most_steps && can_stand (tasks_of work) saved.met fault) found
    where
      made : Bool → ℕ → PatientProcedure
      made due idle = patient_by doubts (record { work = work; met = saved.met; fault = fault }) selected (record { pause = saved.pause; limit = saved.limit }) due idle saved.steps

      go : (can : Bool) → (if can then Some (made due saved.idle) else None) ≡ Some procedure → (if can then Some (made false (counted (saved.idle + saved.pause))) else None) ≡ Some (paused procedure)
      go true found = ap (λ (p : PatientProcedure). Some (paused p)) (same_some (made due saved.idle) procedure found)
      go false found = absurd cc
  tasks_pause doubts procedure _ _ _ _ found = absurd cc

  restored_pause : (doubts : Bool) (procedure : PatientProcedure) → restored saved doubts ≡ Some procedure → restored (paused_procedure saved) doubts ≡ Some (paused procedure)
  unfolding restored
  restored_pause doubts procedure found =
      tasks_pause doubts procedure (work_numbered saved.work saved.control saved.lanes) (selected_numbered saved.selection saved.page) (fault_in saved.fault) (due_numbered saved.due) found

  power_pause : (change : PatientPower) (power : Option Power) (stage : Option PowerStage) (fault : Option (Option ProvisionFault)) (due : Option Bool) →
      change_of saved power stage fault due ≡ Some change → change_of (paused_procedure saved) power stage fault (Some false) ≡ Some (paused change)
  power_pause change (Some power) (Some stage) (Some fault) (Some due) found = go (nat_le saved.steps most_steps && (can_stop fault && has_no_more saved)) found
    where
      made : Bool → ℕ → PatientPower
      made due idle = patient_power (record { power = power; stage = stage; fault = fault }) (record { pause = saved.pause; limit = saved.limit }) due idle saved.steps

      go : (can : Bool) → (if can then Some (made due saved.idle) else None) ≡ Some change → (if can then Some (made false (counted (saved.idle + saved.pause))) else None) ≡ Some (paused change)
      go true found = ap (λ (p : PatientPower). Some (paused p)) (same_some (made due saved.idle) change found)
      go false found = absurd cc
  power_pause change _ _ _ _ found = absurd cc

  restored_power_pause : (change : PatientPower) → restored_power saved ≡ Some change → restored_power (paused_procedure saved) ≡ Some (paused change)
  unfolding restored_power
  restored_power_pause change found =
      power_pause change (power_numbered saved.work) (stage_numbered saved.met (slice_index saved.control 0)) (fault_in saved.fault) (due_numbered saved.due) found

  no_tasks : (power : Option Power) (change : PatientPower) (stage : Option PowerStage) (fault : Option (Option ProvisionFault)) (due : Option Bool) → power_numbered saved.work ≡ power →
      change_of saved power stage fault due ≡ Some change → work_numbered saved.work saved.control saved.lanes ≡ None
  no_tasks (Some power) change stage fault due is found = by (chosen saved.work 3 4 Awake Asleep power is) where
    by : (saved.work ≡ 3) ⊎ (saved.work ≡ 4) → work_numbered saved.work saved.control saved.lanes ≡ None
    by (inl three) = ap (λ (n : ℕ). work_numbered n saved.control saved.lanes) three
    by (inr four) = ap (λ (n : ℕ). work_numbered n saved.control saved.lanes) four
  no_tasks None change stage fault due is found = absurd cc

  none_numbered : (doubts : Bool) (work : Option Work) (selected : Option KnownPage) (fault : Option (Option ProvisionFault)) (due : Option Bool) → work ≡ None → numbered (paused_procedure saved) doubts work selected fault due ≡ None
  none_numbered doubts None selected fault due none = refl
  none_numbered doubts (Some work) selected fault due none = absurd cc

  power_apart : (doubts : Bool) (change : PatientPower) → restored_power saved ≡ Some change → restored (paused_procedure saved) doubts ≡ None
  unfolding restored restored_power
  power_apart doubts change found =
      none_numbered doubts (work_numbered saved.work saved.control saved.lanes) (selected_numbered saved.selection saved.page) (fault_in saved.fault) (Some false)
      (no_tasks (power_numbered saved.work) change (stage_numbered saved.met (slice_index saved.control 0)) (fault_in saved.fault) (due_numbered saved.due) refl found)

module _ (saved : SavedConversation) (halves : List HalfBytes) where
  paused_reading : (reads : Bool) (selected : Option KnownPage) (due : Option Bool) (kept : Kept) →
      (if reads then reading_by saved halves selected due else None) ≡ Some kept →
      (if reads then reading_by (paused_numbers saved) halves selected (Some false) else None) ≡ Some (after_pause kept)
  paused_reading true (Some selected) (Some due) kept is = ap (λ (k : Kept). Some (after_pause k)) (same_some (reading_with saved halves selected due) kept is)
  paused_reading _ _ _ kept is = absurd cc

  by_numbers : (watches zero one : Bool) (number : ℕ) (look : Look) → (if zero then Some Seen else (if one then Some Due else None)) ≡ Some look → (number == 0) ≡ zero → (number == 1) ≡ one →
      look_by (if watches then 1 else number) (Some None) ≡ Some (look_after_wait watches look)
  by_numbers true true one number look is zeros ones = ap (λ (l : Look). Some (look_after_wait true l)) (same_some Seen look is)
  by_numbers true false true number look is zeros ones = ap (λ (l : Look). Some (look_after_wait true l)) (same_some Due look is)
  by_numbers true false false number look is zeros ones = absurd cc
  by_numbers false true one number look is zeros ones = rw (zeros) (ap (λ (l : Look). Some (look_after_wait false l)) (same_some Seen look is))
  by_numbers false false true number look is zeros ones = rw (zeros, ones) (ap (λ (l : Look). Some (look_after_wait false l)) (same_some Due look is))
  by_numbers false false false number look is zeros ones = absurd cc

  left_by_number : (watches zero : Bool) (code : Option ℕ) (look : Look) → (if zero then option_map Left code else None) ≡ Some look →
      (if zero then option_map Left code else None) ≡ Some (look_after_wait watches look)
  left_by_number watches true (Some code) look is = ap (λ (l : Look). Some (look_after_wait watches l)) (same_some (Left code) look is)
  left_by_number watches true None look is = absurd cc
  left_by_number watches false code look is = absurd cc

  look_pause : (watches : Bool) (number : ℕ) (fault : Option (Option ProvisionFault)) (look : Look) → look_by number fault ≡ Some look → look_by (paused_look watches number fault) fault ≡ Some (look_after_wait watches look)
  look_pause watches number None look is = absurd cc
  look_pause watches number (Some None) look is = by_numbers watches (number == 0) (number == 1) number look is refl refl
  look_pause watches number (Some (Some fault)) look is = left_by_number watches (number == 0) (code_in fault) look is

  looked_pause : (procedure : PatientProcedure) (kept : Kept) (look : Option Look) → look_in saved ≡ look → option_map (tasks_in saved procedure) look ≡ Some kept →
      option_map (tasks_in (paused_numbers saved) (paused procedure)) (look_in (paused_numbers saved)) ≡ Some (after_pause kept)
  looked_pause procedure kept None is found = absurd cc
  looked_pause procedure kept (Some look) is found =
      ap (λ (l : Option Look). option_map (tasks_in (paused_numbers saved) (paused procedure)) l) (look_pause (saved.watches == 1) saved.look (fault_in saved.left) look is)
      ∙ ap (λ (k : Kept). Some (after_pause k)) (same_some (tasks_in saved procedure look) kept found)

  paused_procedure_by : (tasks : Option PatientProcedure) (change : Option PatientPower) (kept : Kept) → restored saved.saved (saved.doubts == 1) ≡ tasks → restored_power saved.saved ≡ change →
      procedure_by saved tasks change ≡ Some kept →
      procedure_by (paused_numbers saved) (restored (paused_procedure saved.saved) (saved.doubts == 1)) (restored_power (paused_procedure saved.saved)) ≡ Some (after_pause kept)
  paused_procedure_by (Some procedure) change kept has_tasks has_change is =
      ap (λ (t : Option PatientProcedure). procedure_by (paused_numbers saved) t (restored_power (paused_procedure saved.saved))) (restored_pause saved.saved (saved.doubts == 1) procedure has_tasks)
      ∙ looked_pause procedure kept (look_in saved) refl is
  paused_procedure_by None (Some change) kept has_tasks has_change is =
      ap (λ (t : Option PatientProcedure). procedure_by (paused_numbers saved) t (restored_power (paused_procedure saved.saved))) (power_apart saved.saved (saved.doubts == 1) change has_change)
      ∙ ap (λ (p : Option PatientPower). option_map OfPower p) (restored_power_pause saved.saved change has_change)
      ∙ ap (λ (k : Kept). Some (after_pause k)) (same_some (OfPower change) kept is)
  paused_procedure_by None None kept has_tasks has_change is = absurd cc

  paused_by : (sound five : Bool) (kept : Kept) →
      (if not sound then None else (if five then reading_in saved halves else procedure_by saved (restored saved.saved (saved.doubts == 1)) (restored_power saved.saved))) ≡ Some kept →
      (if not sound then None else (if five then reading_in (paused_numbers saved) halves else procedure_by (paused_numbers saved) (restored (paused_procedure saved.saved) (saved.doubts == 1)) (restored_power (paused_procedure saved.saved)))) ≡ Some (after_pause kept)
  paused_by false five kept is = absurd cc
  paused_by true true kept is = paused_reading (is_reading saved halves) (selected_numbered saved.saved.selection saved.saved.page) (due_numbered saved.saved.due) kept is
  paused_by true false kept is = paused_procedure_by (restored saved.saved (saved.doubts == 1)) (restored_power saved.saved) kept refl refl is

  pub paused_back : (kept : Kept) → conversation_in saved halves ≡ Some kept → conversation_in (paused_numbers saved) halves ≡ Some (after_pause kept)
  unfolding conversation_in
  paused_back kept is = paused_by (is_sound saved) (saved.saved.work == work_of_reading) kept is
