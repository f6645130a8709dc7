-- The statistics that are read over a scripted bus with a window of a memory are that memory's.
use Rattle.std.proofs.Common.{◌≡◌, ◌∙◌, ℕ, ◌/◌, ◌%◌, ◌&&◌, ◌||◌, ◌==◌, Bool, true, false, not, if◌then◌else◌, List, [], ◌∷◌, Option, Some, None, is_some, refl, sym, ap, subst, inl, inr}
use Rattle.std.proofs.lemmas.Bool.{and_from, eq-eqb}
use Rattle.std.specs.FinMap as map
use Rattle.bus_model.specs.declared.device.Dev.TheVariants.{A0}
use Rattle.bus_model.specs.declared.operation.Op.{Op}
use Rattle.bus_model.specs.declared.operation.Reply.{Reply}
use Rattle.bus_model.specs.declared.operation.Reply.TheVariants.{Bytes, Done, Refused}
use Rattle.bus_model.specs.declared.script.Directive.{Directive}
use Rattle.bus_model.specs.Operations.{Answers}
use Rattle.bus_model.specs.Runs.{Seen}
use Rattle.bus_model.specs.ScriptedBus.{script_rules, transacted}
use Rattle.bus_model.proofs.Histories.{found_keeps, may_each}
use Rattle.bus_model.proofs.ScriptRuns.{fetched_at}
use Rattle.conversations.specs.declared.event.Event.TheVariants.{Made, Waited, Lacked, Asked}
use Rattle.conversations.specs.Events.{Events, steps_of}
use Rattle.conversations.specs.Pauses.{is_refused}
use Rattle.conversations.specs.Selecting.{since_refusal}
use Rattle.paged_memory.specs.declared.page_addressing.PageAddressing.TheVariants.{BankAndPage}
use Rattle.paged_memory.specs.Images.{Memory}
use Rattle.paged_memory.specs.ImageText.{IsImage}
use Rattle.paged_memory.specs.MappedPages.{selecting_on}
use Rattle.paged_memory.specs.PageAddressing.{EachStep, History, is_page, is_page_confirmed, is_selection_of, may_select, read_selection, reads_back, selection}
use Rattle.paged_memory.specs.Windows.{Windowed, half_at, window_conduct}
use Rattle.paged_memory.proofs.WindowHistories.{IsOf, May, Shows, State, found, left, of_after, shows_confirmed, shows_selected}
use Rattle.paged_memory.proofs.WindowReads.{reads_page}
use Rattle.paged_memory.proofs.WindowRuns.{always, shown_two}
use Rattle.vdm_reading.specs.declared.reading.VdmReading.{VdmReading}
use Rattle.vdm_reading.specs.declared.reading.VdmRequest.{VdmRequest}
use Rattle.vdm_reading.specs.declared.reading.VdmStage.TheVariants.{Over}
use Rattle.vdm_reading.specs.FrozenSteps.{IsPageRefused, IsTaken, SomeStep, WasRead, read_half}
use Rattle.vdm_reading.specs.VdmAccounts.{EachIsWanted, IsAmong, IsTold}
use Rattle.vdm_reading.specs.VdmStages.{key_of}
use Rattle.vdm_reading.specs.WindowStatistics.{AreOverWindow, NoneRefused}
use Rattle.vdm_reading.proofs.LostLaws as lost
use Rattle.vdm_reading.proofs.SetLaws.{were_read}

-- ---- what was confirmed since the newest refusal is confirmed

weaker : (reads apart one other : Bool) → (one ≡ true → other ≡ true) → (reads || (apart && one)) ≡ true → (reads || (apart && other)) ≡ true
weaker true apart one other more e = refl
weaker false true one other more e = more e
weaker false false one other more e = e

pub confirmed_all : (page : ℕ) (history : History) → is_page_confirmed BankAndPage page (since_refusal history) ≡ true → is_page_confirmed BankAndPage page history ≡ true
confirmed_all page [] e = e
confirmed_all page (step ∷ before) e = by (is_refused step.reply) (confirmed_all page before) e
  where
    by : (b : Bool) → (is_page_confirmed BankAndPage page (since_refusal before) ≡ true → is_page_confirmed BankAndPage page before ≡ true)
        → is_page_confirmed BankAndPage page (if b then [] else step ∷ since_refusal before) ≡ true → is_page_confirmed BankAndPage page (step ∷ before) ≡ true
    by true more e = absurd cc
    by false more e =
        weaker (reads_back BankAndPage page step) (not (may_select BankAndPage step.op)) (is_page_confirmed BankAndPage page (since_refusal before)) (is_page_confirmed BankAndPage page before) more e

-- ---- each reply is of the kind that its operation can have

abbrev pub EachAnswers : History → Type 0
EachAnswers history = EachStep (λ step before. Answers step.op step.reply) history

pub each_answers : (request : VdmRequest) (events : Events) → EachIsWanted request events → EachAnswers (steps_of events)
each_answers request [] each = tt
each_answers request (Made step ∷ before) (wanted, answers, each) = (answers, each_answers request before each)
each_answers request (Waited time ∷ before) (wanted, each) = each_answers request before each
each_answers request (Lacked page ∷ before) each = each_answers request before each
each_answers request (Asked number ∷ before) each = each_answers request before each

-- ---- a window of the memory

module _ (memory : Memory) (image : IsImage memory) (by : selecting_on memory A0 ≡ Some BankAndPage) (state : State) (of : IsOf memory state.1) where
  -- a page that was read is the memory's
  pub page_is : (page : ℕ) (bytes : List ℕ) (history : History) → May state history → WasRead page bytes history → map.get memory (key_of page) ≡ Some bytes
  page_is page bytes [] may read = absurd read
  page_is page bytes (step ∷ before) may (inr earlier) = page_is page bytes before may.1 earlier
  page_is page bytes (step ∷ before) may (inl (op, reply, shown)) =
      let there = left state before in
      let shows = shows_confirmed memory BankAndPage by page state before (record { memory_is = of; bank = tt }) may.1 (confirmed_all page before shown) in
      let now = found_keeps window_conduct (Shows memory page) (always (Shows memory page)) there shows in
      let given : Bytes (record { items = bytes }) ≡ (transacted window_conduct read_half there).0 =
      sym reply ∙ may.0 ∙ ap (λ (op : Op). (transacted window_conduct op there).0) op in
      reads_page memory page (found there) bytes image now (fetched_at window_conduct A0 128 128 (record { items = bytes }) there given).answer

  -- ---- a page that the memory has, where nothing is refused

  -- once its selection was taken, it is read back
  pub shown_taken : (page : ℕ) (before : History) → map.contains_key memory (key_of page) ≡ true → May state before → IsTaken page before → Shows memory page (left state before).1
  shown_taken page [] has may taken = absurd taken
  shown_taken page (step ∷ before) has may (op, reply) =
      let there = left state before in
      let done : Done ≡ (transacted window_conduct (selection BankAndPage page) there).0 = sym reply ∙ may.0 ∙ ap (λ (op : Op). (transacted window_conduct op there).0) op in
      subst (λ (op : Op). Shows memory page (transacted window_conduct op there).1.1) (sym op) (shows_selected memory BankAndPage by page there tt has done (of_after memory state before of))

  pub reads_selected : (page : ℕ) (there : State) (reply : Reply) → Shows memory page there.1 → is_refused reply ≡ false → Answers (read_selection BankAndPage) reply → reply ≡ (transacted window_conduct (read_selection BankAndPage) there).0
      → is_page BankAndPage page reply ≡ true
  reads_selected page there (Bytes bytes) shows answered kind given =
      let now = found_keeps window_conduct (Shows memory page) (always (Shows memory page)) there shows in
      let window = found there in
      let answer = (fetched_at window_conduct A0 126 2 bytes there given).answer in
      let two = shown_two (selecting_on window.memory A0) window.selection (half_at window A0 126) bytes.items (ap (λ (m : Memory). selecting_on m A0) now.memory_is ∙ by) answer in
      ap (is_selection_of BankAndPage page) two ∙ and_from (window.selection.bank == page / 256) (window.selection.page == page % 256) (eq-eqb window.selection.bank (page / 256) now.bank)
      (eq-eqb window.selection.page (page % 256) now.number)
  reads_selected page there Done shows answered kind given = absurd kind
  reads_selected page there Refused shows answered kind given = absurd cc

  unrefused : (page : ℕ) (history : History) → map.contains_key memory (key_of page) ≡ true → May state history → EachAnswers history → NoneRefused history → SomeStep (IsPageRefused page) history → ⊥
  unrefused page [] has may kinds none some = some
  unrefused page (step ∷ before) has may kinds none (inr earlier) = unrefused page before has may.1 kinds.1 none.1 earlier
  unrefused page (step ∷ before) has may kinds none (inl (inl (op, refused))) = absurd (let never : true ≡ false = sym (ap is_refused refused) ∙ none.0 in cc)
  unrefused page (step ∷ before) has may kinds none (inl (inr (inr (op, refused, shown)))) = absurd (let never : true ≡ false = sym (ap is_refused refused) ∙ none.0 in cc)
  unrefused page (step ∷ before) has may kinds none (inl (inr (inl (op, other, taken)))) =
      let there = left state before in
      let given : step.reply ≡ (transacted window_conduct (read_selection BankAndPage) there).0 = may.0 ∙ ap (λ (op : Op). (transacted window_conduct op there).0) op in
      let kind = subst (λ (op : Op). Answers op step.reply) op kinds.0 in
      let same = reads_selected page there step.reply (shown_taken page before has may.1 taken) none.0 kind given in
      absurd (let never : true ≡ false = sym same ∙ other in cc)

-- ---- a reading over it

module _ (old new : Seen (List Directive × Windowed)) (memory : Memory) (events : Events) (reading : VdmReading) (over : AreOverWindow old new memory events) (told : IsTold events reading) where
  may : May old.state (steps_of events)
  may = may_each (script_rules window_conduct) old.state (steps_of events) over.ran.allowed

  pub same : (page : ℕ) (bytes : List ℕ) → map.get reading.image (key_of page) ≡ Some bytes → map.get memory (key_of page) ≡ Some bytes
  same page bytes held = page_is memory over.image over.selecting old.state over.behind page bytes (steps_of events) may (were_read events reading told page bytes held)

  there_is : (page : ℕ) → reading.stage ≡ Over → NoneRefused (steps_of events) → IsAmong page reading.pages.items → map.contains_key memory (key_of page) ≡ true → map.contains_key reading.image (key_of page) ≡ true
  there_is page ended none among has = by (map.contains_key reading.image (key_of page)) refl
    where
      by : (b : Bool) → map.contains_key reading.image (key_of page) ≡ b → b ≡ true
      by true e = refl
      by false e =
          let lost_so = lost.lost_alone events reading told ended page among (ap not e) in
          absurd (unrefused memory over.image over.selecting old.state over.behind page (steps_of events) has may (each_answers reading.request events told.each) none lost_so.0)

  pub whole : reading.stage ≡ Over → NoneRefused (steps_of events) → (page : ℕ) → IsAmong page reading.pages.items → map.get reading.image (key_of page) ≡ map.get memory (key_of page)
  whole ended none page among = by (map.get reading.image (key_of page)) (map.get memory (key_of page)) refl refl
    where
      by : (one other : Option (List ℕ)) → map.get reading.image (key_of page) ≡ one → map.get memory (key_of page) ≡ other → one ≡ other
      by (Some bytes) other held is = sym (same page bytes held) ∙ is
      by None None held is = refl
      by None (Some bytes) held is =
          let has : map.contains_key memory (key_of page) ≡ true = ap is_some is in
          let held_too = there_is page ended none among has in
          absurd (let never : false ≡ true = sym (ap is_some held) ∙ held_too in cc)
