-- Conversations at their beginning, which were told nothing.
use Rattle.std.proofs.Common.{◌≡◌, ◌<◌, ℕ, Bool, true, false, List, [], take, Some, None, refl, ap, sym, subst, ◌∙◌, arith}
use Rattle.std.specs.FinMap as map
use Rattle.bus_model.specs.declared.device.Dev.TheVariants.{A0}
use Rattle.bus_model.specs.declared.operation.Op.TheVariants.{Fetch}
use Rattle.conversations.specs.declared.pausing.Patience.{Patience}
use Rattle.conversations.specs.declared.watching.Look.TheVariants.{Seen}
use Rattle.conversations.specs.Events.{Events}
use Rattle.conversations.specs.Patiently.{Patient, begun_patiently}
use Rattle.conversations.specs.Selecting.{Knows, trusted}
use Rattle.paged_memory.specs.declared.page_addressing.KnownPage.TheVariants.{Unknown}
use Rattle.paged_memory.specs.declared.page_addressing.PageAddressing.TheVariants.{BankAndPage}
use Rattle.paged_memory.specs.Images.{Memory}
use Rattle.paged_memory.specs.PageAddressing.{History}
use Rattle.paged_memory.proofs.KnownPageLaws.{tells_nothing}
use Rattle.control_sets.specs.declared.procedures.power.Power.{Power}
use Rattle.control_sets.specs.declared.procedures.power.PowerStage.TheVariants.{Unread}
use Rattle.control_sets.specs.declared.procedures.procedure.Work.{Work}
use Rattle.control_sets.specs.OutcomeAnswers.{most_steps}
use Rattle.control_sets.specs.PatientProcedures.{WatchfulProcedure, watchful_of}
use Rattle.control_sets.specs.PowerProgress.{PatientPower}
use Rattle.control_sets.specs.Progress.{list_at, on_page_of, patient_of, tasks_told}
use Rattle.module_reading.specs.declared.request.Request.{Request}
use Rattle.module_reading.specs.ImageReading as reading
use Rattle.module_reading.proofs.FetchTold.{begins_told}
use Rattle.firmware_api.specs.declared.conversation.numbers.SavedConversation.{SavedConversation}
use Rattle.firmware_api.specs.declared.half.HalfBytes.{HalfBytes}
use Rattle.firmware_api.specs.declared.kept.Kept.{Kept}
use Rattle.firmware_api.specs.declared.kept.Kept.TheVariants.{OfTasks, OfPower, OfReading}
use Rattle.firmware_api.specs.KeptConversations.{Bringing, Fetching, InHand, Turning, WasTold, about, patience_of, pieces_told}
use Rattle.firmware_api.specs.Halves.{memory_of}
use Rattle.firmware_api.specs.SavedConversations.{HasRead, IsSavedAt, conversation_in}

trusted_nothing : (doubts : Bool) → trusted doubts [] ≡ []
trusted_nothing true = refl
trusted_nothing false = refl

-- what is saved is a conversation at its beginning
begins : (kept made : Kept) (saved : SavedConversation) (halves : List HalfBytes) → made ≡ kept → conversation_in saved halves ≡ Some made → WasTold [] kept →
    IsSavedAt (about kept) (patience_of kept) [] saved halves
begins kept made saved halves same is told = (kept, is ∙ ap (λ (k : Kept). Some k) same, refl, refl, told)

-- ---- tasks

knows_nothing : (doubts : Bool) → Knows false (Some BankAndPage) Unknown None (trusted doubts [])
knows_nothing doubts = subst (λ (h : History). Knows false (Some BankAndPage) Unknown None h) (sym (trusted_nothing doubts))
    (λ none. refl, (tells_nothing BankAndPage, record { was = λ page e. absurd cc; is = λ may. absurd cc }))

tasks_told_nothing : (work : Work) (doubts : Bool) → tasks_told [] (on_page_of (list_at work (0, None)) Unknown doubts)
tasks_told_nothing work doubts = (knows_nothing doubts, ([], refl, record { stands = refl; each = tt }))

abbrev pub watchful_begun : Work → Bool → Patience → WatchfulProcedure
watchful_begun work doubts patience = record { conversation = begun_patiently (on_page_of (list_at work (0, None)) Unknown doubts) patience most_steps; watches = doubts; look = Seen }

abbrev pub with_doubts : Bool → WatchfulProcedure → WatchfulProcedure
with_doubts doubts it =
    let procedure = it.conversation in
    let pausing = procedure.conversation in
    let on = pausing.conversation in
    record it { conversation = record procedure { conversation = record pausing { conversation = record on { doubts = doubts } } }; watches = doubts }

pub tasks_put : (work : Work) (doubts : Bool) (patience : Patience) (procedure made : WatchfulProcedure) (saved : SavedConversation) (halves : List HalfBytes) →
    made ≡ watchful_of (patient_of (list_at work (0, None)) Unknown patience false 0 0) → procedure ≡ with_doubts doubts made →
    ((events : Events) (halves : List HalfBytes) → WasTold events (OfTasks procedure) → procedure.conversation.limit ≡ most_steps → conversation_in saved halves ≡ Some (OfTasks procedure)) →
    IsSavedAt (Bringing work doubts doubts) patience [] saved halves
tasks_put work doubts patience procedure made saved halves is has put =
    let begun : procedure ≡ watchful_begun work doubts patience = has ∙ ap (with_doubts doubts) is in
    let told : WasTold [] (OfTasks (watchful_begun work doubts patience)) = ([], (refl, refl), (([], (refl, refl, refl), tasks_told_nothing work doubts), refl, omega arith)) in
    begins (OfTasks (watchful_begun work doubts patience)) (OfTasks procedure) saved halves (ap (λ (p : WatchfulProcedure). OfTasks p) begun)
    (put [] halves (subst (λ (p : WatchfulProcedure). WasTold [] (OfTasks p)) (sym begun) told) (ap (λ (p : WatchfulProcedure). p.conversation.limit) begun)) told

-- ---- changes of power

abbrev pub power_begun : Power → Patience → PatientPower
power_begun power patience = begun_patiently (record { power = power; stage = Unread; fault = None }) patience most_steps

pub power_put : (power : Power) (patience : Patience) (change : PatientPower) (saved : SavedConversation) (halves : List HalfBytes) → change ≡ power_begun power patience →
    ((events : Events) (halves : List HalfBytes) → WasTold events (OfPower change) → change.limit ≡ most_steps → conversation_in saved halves ≡ Some (OfPower change)) →
    IsSavedAt (Turning power) patience [] saved halves
power_put power patience change saved halves begun put =
    let told : WasTold [] (OfPower (power_begun power patience)) = (([], (refl, refl, refl), tt), refl, omega arith) in
    begins (OfPower (power_begun power patience)) (OfPower change) saved halves (ap (λ (p : PatientPower). OfPower p) begun)
    (put [] halves (subst (λ (p : PatientPower). WasTold [] (OfPower p)) (sym begun) told) (ap (λ (p : PatientPower). p.limit) begun)) told

-- ---- readings

abbrev pub reading_begun : Request → ℕ → Bool → Patience → Patient InHand
reading_begun request piece doubts patience = begun_patiently (record {
  conversation = record { conversation = reading.begun request; selection = Unknown; taken = None; doubts = doubts };
  piece = piece;
  part = record { items = [] };
}) patience most_steps

reading_told_nothing : (request : Request) (piece : ℕ) (doubts : Bool) (patience : Patience) → 0 < piece → pieces_told [] (reading_begun request piece doubts patience).conversation.conversation
reading_told_nothing request piece doubts patience some = record {
  some = some;
  short = omega arith;
  own = [];
  was_told = begins_told doubts request;
  half = Fetch A0 0 128;
  joins = (refl, refl);
  in_hand = λ op asks. (refl, refl);
  alone = λ e. refl;
}

nothing_read : ◌≡◌ {A = Memory} map.empty (memory_of [])
unfolding memory_of
nothing_read = refl

pub reading_put : (request : Request) (piece : ℕ) (doubts : Bool) (patience : Patience) (read : Patient InHand) (saved : SavedConversation) (halves : List HalfBytes) → 0 < piece →
    read ≡ reading_begun request piece doubts patience →
    ((halves : List HalfBytes) → HasRead read (take 0 halves) → conversation_in saved halves ≡ Some (OfReading read)) → IsSavedAt (Fetching request piece doubts) patience [] saved halves
reading_put request piece doubts patience read saved halves some begun put =
    let has : HasRead (reading_begun request piece doubts patience) (take 0 halves) = (nothing_read, refl) in
    begins (OfReading (reading_begun request piece doubts patience)) (OfReading read) saved halves (ap (λ (p : Patient InHand). OfReading p) begun)
    (put halves (subst (λ (r : Patient InHand). HasRead r (take 0 halves)) (sym begun) has))
    (([], (refl, refl, refl), reading_told_nothing request piece doubts patience some), refl, omega arith)
