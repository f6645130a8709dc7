-- What the numbers say that were taken for a conversation.
use Rattle.std.proofs.Common.{◌≡◌, ◌≤◌, ◌==◌, ℕ, zero, suc, Bool, true, false, List, [], ◌∷◌, length, take, Option, Some, None, refl, subst, arith, if◌then◌else◌, nat_lt, option_map}
use Rattle.std.specs.Prelude.{nat_le, not}
use Rattle.std.specs.FinMap as map
use Rattle.std.proofs.lemmas.Bool.{and_parts, leb-true, ltb-true}
use Rattle.conversations.specs.declared.watching.Look.{Look}
use Rattle.paged_memory.specs.declared.page_addressing.KnownPage.{KnownPage}
use Rattle.control_sets.specs.OutcomeAnswers.{most_steps}
use Rattle.control_sets.specs.PowerProgress.{PatientPower}
use Rattle.control_sets.specs.Progress.{PatientProcedure}
use Rattle.control_sets.specs.SavedNumbers.{due_numbered, restored, selected_numbered}
use Rattle.control_sets.specs.SavedPower.{restored_power}
use Rattle.firmware_api.specs.declared.conversation.numbers.SavedConversation.{SavedConversation}
use Rattle.firmware_api.specs.declared.half.HalfBytes.{HalfBytes}
use Rattle.firmware_api.specs.declared.kept.Kept.{Kept}
use Rattle.firmware_api.specs.declared.kept.Kept.TheVariants.{OfTasks, OfPower, OfReading}
use Rattle.firmware_api.specs.KeptConversations.{halves_of}
use Rattle.firmware_api.specs.SavedConversations.{HasNumbers, HasRead, conversation_in, halves_in, is_reading, is_sound, look_in, procedure_by, reading_by, reading_in, reading_with, tasks_in, work_of_reading}
use Rattle.firmware_api.proofs.HalfMemories.{memory_has_few}
use Rattle.firmware_api.proofs.SavedLaws.{power_says, same_some, tasks_say}

-- it may make as many steps as each, and a reading has the halves
abbrev pub Fits : SavedConversation → List HalfBytes → Kept → Type 0
Fits saved halves (OfTasks procedure) = procedure.conversation.limit ≡ most_steps
Fits saved halves (OfPower change) = change.limit ≡ most_steps
Fits saved halves (OfReading read) = HasNumbers read saved.halves × HasRead read (halves_in saved halves) × (map.len (halves_of read).image ≤ 5)

pub take_few : {A : Type 0} (n : ℕ) (l : List A) → length (take n l) ≤ n
take_few zero l = omega arith
take_few (suc n) [] = omega arith
take_few (suc n) (x ∷ l) = let rest = take_few n l in omega (arith, rest)

reading_fits : (saved : SavedConversation) (halves : List HalfBytes) (selection : KnownPage) (due : Bool) → is_reading saved halves ≡ true → Fits saved halves (reading_with saved halves selection due)
reading_fits saved halves selection due reads =
    let (steps, rest) = and_parts (nat_le saved.saved.steps most_steps) _ reads in
    let (met, rest) = and_parts (nat_le saved.saved.met 5) _ rest in
    let (made, rest) = and_parts (nat_le saved.saved.met saved.saved.steps) _ rest in
    let (counted, rest) = and_parts (nat_le saved.halves saved.saved.met) _ rest in
    let (some, rest) = and_parts (nat_lt 0 saved.piece) _ rest in
    let (short, places) = and_parts (nat_lt saved.read 128) _ rest in
    let most = leb-true saved.saved.met 5 met in
    let count = leb-true saved.halves saved.saved.met counted in
    let part = take_few saved.read saved.part in
    let read = ltb-true saved.read 128 short in
    let few = memory_has_few (halves_in saved halves) in
    let taken = take_few saved.halves halves in (
      record {
        room = (refl, leb-true saved.saved.steps most_steps steps, most, leb-true saved.saved.met saved.saved.steps made);
        count = count;
        piece = ltb-true 0 saved.piece some;
        part = omega (arith, part, read);
      },
      (refl, places),
      omega (arith, few, taken, count, most),
    )

module _ (saved : SavedConversation) (halves : List HalfBytes) (kept : Kept) where
  by_reading : (reads : Bool) (selected : Option KnownPage) (due : Option Bool) → is_reading saved halves ≡ reads →
      (if reads then reading_by saved halves selected due else None) ≡ Some kept → Fits saved halves kept
  by_reading true (Some selection) (Some due) reads is =
      subst (Fits saved halves) (same_some (reading_with saved halves selection due) kept is) (reading_fits saved halves selection due reads)
  by_reading _ _ _ reads is = absurd cc

  by_look : (procedure : PatientProcedure) (look : Option Look) → procedure.limit ≡ most_steps → option_map (tasks_in saved procedure) look ≡ Some kept → Fits saved halves kept
  by_look procedure (Some look) limit found = subst (Fits saved halves) (same_some (tasks_in saved procedure look) kept found) limit
  by_look procedure None limit found = absurd cc

  by_procedure : (tasks : Option PatientProcedure) (change : Option PatientPower) → restored saved.saved (saved.doubts == 1) ≡ tasks → restored_power saved.saved ≡ change →
      procedure_by saved tasks change ≡ Some kept → Fits saved halves kept
  by_procedure (Some procedure) change is is_change found = by_look procedure (look_in saved) (tasks_say saved.saved (saved.doubts == 1) procedure is).1 found
  by_procedure None (Some change) is is_change found = subst (Fits saved halves) (same_some (OfPower change) kept found) (power_says saved.saved change is_change).1
  by_procedure None None is is_change found = absurd cc

  by_sound : (sound five : Bool) →
      (if not sound then None else (if five then reading_in saved halves else procedure_by saved (restored saved.saved (saved.doubts == 1)) (restored_power saved.saved))) ≡ Some kept → Fits saved halves kept
  by_sound false five is = absurd cc
  by_sound true true is = by_reading (is_reading saved halves) (selected_numbered saved.saved.selection saved.saved.page) (due_numbered saved.saved.due) refl is
  by_sound true false is = by_procedure (restored saved.saved (saved.doubts == 1)) (restored_power saved.saved) refl refl is

  pub fits : conversation_in saved halves ≡ Some kept → Fits saved halves kept
  unfolding conversation_in
  fits is = by_sound (is_sound saved) (saved.saved.work == work_of_reading) is
