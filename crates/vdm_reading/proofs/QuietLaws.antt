-- Over a bus without a script a window refuses no page that its memory has.
use Rattle.std.proofs.Common.{◌≡◌, ◌∙◌, ℕ, ◌/◌, ◌%◌, Bool, true, false, not, List, [], ◌∷◌, Option, Some, None, is_some, refl, sym, ap, subst, inl, inr, if◌then◌else◌}
use Rattle.std.proofs.lemmas.Bool.{not-false}
use Rattle.std.specs.Prelude.{option_map}
use Rattle.std.specs.FinMap as map
use Rattle.std.specs.Option.{option_map_or}
use Rattle.arrayvec.specs.ArrayVec.{ArrayVec}
use Rattle.bus_model.specs.declared.device.Dev.{Dev}
use Rattle.bus_model.specs.declared.device.Dev.TheVariants.{A0}
use Rattle.bus_model.specs.declared.operation.Op.{Op}
use Rattle.bus_model.specs.declared.operation.Op.TheVariants.{Fetch, Store}
use Rattle.bus_model.specs.declared.operation.Reply.TheVariants.{Done, Refused}
use Rattle.bus_model.specs.declared.operation.Step.{Step}
use Rattle.bus_model.specs.declared.script.Directive.{Directive}
use Rattle.bus_model.specs.Operations.{Answers, fetch_reply}
use Rattle.bus_model.specs.Runs.{Seen}
use Rattle.bus_model.specs.ScriptedBus.{script_rules, transacted}
use Rattle.bus_model.proofs.Histories.{may_each}
use Rattle.conversations.specs.Events.{Events, steps_of}
use Rattle.conversations.specs.Pauses.{is_refused}
use Rattle.observables.specs.Pages.{groups, has_observables, pages_of}
use Rattle.observables.specs.Words.{byte_in}
use Rattle.paged_memory.specs.declared.key.Key.{Key}
use Rattle.paged_memory.specs.declared.page_addressing.PageAddressing.TheVariants.{BankAndPage}
use Rattle.paged_memory.specs.Images.{Memory}
use Rattle.paged_memory.specs.ImageText.{IsImage}
use Rattle.paged_memory.specs.Keys.{lower_key, upper_key}
use Rattle.paged_memory.specs.MappedPages.{selecting_on}
use Rattle.paged_memory.specs.PageAddressing.{History, read_selection, selection}
use Rattle.paged_memory.specs.Windows.{Windowed, bytes_from, half_at, window_conduct}
use Rattle.paged_memory.proofs.WindowHistories.{IsOf, May, State, left, of_after, shows_confirmed}
use Rattle.vdm_reading.specs.declared.reading.VdmReading.{VdmReading}
use Rattle.vdm_reading.specs.declared.reading.VdmStage.TheVariants.{Over}
use Rattle.vdm_reading.specs.BankPages.{bank_pages, groups_page, numbers_of}
use Rattle.vdm_reading.specs.FrozenSteps.{IsPageRefused, IsShown, SomeStep, read_half}
use Rattle.vdm_reading.specs.VdmAccounts.{IsAmong, IsTold}
use Rattle.vdm_reading.specs.VdmStages.{key_of}
use Rattle.vdm_reading.specs.WindowStatistics.{AreAllRead, AreOverWindow}
use Rattle.vdm_reading.proofs.GroupLaws.{IsGrouped, IsListed, IsNoneListed, are_listed, groups_key, offered_by, offers, pages_by}
use Rattle.vdm_reading.proofs.LostLaws as lost
use Rattle.vdm_reading.proofs.WindowLaws.{EachAnswers, confirmed_all, each_answers, page_is, reads_selected, same, shown_taken}

-- ---- no script is left after any step

script_none : (op : Op) (state : State) → state.0 ≡ [] → (transacted window_conduct op state).1.0 ≡ []
script_none op ([], window) none = refl
script_none op (directive ∷ script, window) none = absurd cc

pub unscripted : (state : State) (history : History) → state.0 ≡ [] → (left state history).0 ≡ []
unscripted state [] none = none
unscripted state (step ∷ before) none = script_none step.op (left state before) (unscripted state before none)

-- ---- what is there is answered

fetch_given : (half : Option (List ℕ)) (of : List ℕ → List ℕ) → is_some half ≡ true → is_refused (fetch_reply (option_map (λ (bytes : List ℕ). record { items = bytes }) (option_map of half))) ≡ false
fetch_given None of e = absurd cc
fetch_given (Some half) of e = refl

fetched_so : (state : State) (dev : Dev) (offset count : ℕ) → state.0 ≡ [] → is_some (half_at state.1 dev offset) ≡ true → is_refused (transacted window_conduct (Fetch dev offset count) state).0 ≡ false
fetched_so ([], window) dev offset count none there = fetch_given (half_at window dev offset) (bytes_from (selecting_on window.memory dev) window.selection offset count) there
fetched_so (directive ∷ script, window) dev offset count none there = absurd cc

stored_by : (there : Bool) (anew window : Windowed) → there ≡ true → is_refused (let given : Bool × Windowed = if there then (true, anew) else (false, window) in if given.0 then Done else Refused) ≡ false
stored_by true anew window e = refl
stored_by false anew window e = absurd cc

stored_so : (state : State) (dev : Dev) (offset : ℕ) (bytes : ArrayVec ℕ) → state.0 ≡ [] → is_some (half_at state.1 dev offset) ≡ true → is_refused (transacted window_conduct (Store dev offset bytes) state).0 ≡ false
stored_so ([], window) dev offset bytes none there = stored_by (is_some (half_at window dev offset)) _ _ there
stored_so (directive ∷ script, window) dev offset bytes none there = absurd cc

not_refused_at : (step : Step) (there : State) (op : Op) → step.op ≡ op → step.reply ≡ (transacted window_conduct step.op there).0 → is_refused (transacted window_conduct op there).0 ≡ false → is_refused step.reply ≡ false
not_refused_at step there op is may answered = ap is_refused (may ∙ ap (λ (o : Op). (transacted window_conduct o there).0) is) ∙ answered

-- ---- a page that the memory has

module _ (memory : Memory) (image : IsImage memory) (by : selecting_on memory A0 ≡ Some BankAndPage) (lower : map.contains_key memory (lower_key A0) ≡ true) (state : State) (of : IsOf memory state.1) (none : state.0 ≡ []) where
  lower_at : (before : History) → is_some (half_at (left state before).1 A0 126) ≡ true
  lower_at before = ap (λ (m : Memory). map.contains_key m (lower_key A0)) (of_after memory state before of) ∙ lower

  selects : (page : ℕ) (before : History) → is_refused (transacted window_conduct (selection BankAndPage page) (left state before)).0 ≡ false
  selects page before = stored_so (left state before) A0 126 (record { items = page / 256 ∷ page % 256 ∷ [] }) (unscripted state before none) (lower_at before)

  reads_back : (before : History) → is_refused (transacted window_conduct (read_selection BankAndPage) (left state before)).0 ≡ false
  reads_back before = fetched_so (left state before) A0 126 2 (unscripted state before none) (lower_at before)

  reads_half : (page : ℕ) (before : History) → May state before → IsShown page before → map.contains_key memory (key_of page) ≡ true → is_refused (transacted window_conduct read_half (left state before)).0 ≡ false
  reads_half page before may shown has =
      let shows = shows_confirmed memory BankAndPage by page state before (record { memory_is = of; bank = tt }) may (confirmed_all page before shown) in
      let held : is_some (half_at (left state before).1 A0 128) ≡ true = (λ i. map.contains_key (shows.memory_is i) (upper_key A0 (shows.bank i) (shows.number i))) ∙ has in
      fetched_so (left state before) A0 128 128 (unscripted state before none) held

  not_refused : (page : ℕ) (history : History) → map.contains_key memory (key_of page) ≡ true → May state history → EachAnswers history → SomeStep (IsPageRefused page) history → ⊥
  not_refused page [] has may kinds some = some
  not_refused page (step ∷ before) has may kinds (inr earlier) = not_refused page before has may.1 kinds.1 earlier
  not_refused page (step ∷ before) has may kinds (inl (inl (op, refused))) =
      let answered = not_refused_at step (left state before) (selection BankAndPage page) op may.0 (selects page before) in
      absurd (let clash : true ≡ false = sym (ap is_refused refused) ∙ answered in cc)
  not_refused page (step ∷ before) has may kinds (inl (inr (inr (op, refused, shown)))) =
      let answered = not_refused_at step (left state before) read_half op may.0 (reads_half page before may.1 shown has) in
      absurd (let clash : true ≡ false = sym (ap is_refused refused) ∙ answered in cc)
  not_refused page (step ∷ before) has may kinds (inl (inr (inl (op, other, taken)))) =
      let there = left state before in
      let answered = not_refused_at step there (read_selection BankAndPage) op may.0 (reads_back before) in
      let given : step.reply ≡ (transacted window_conduct (read_selection BankAndPage) there).0 = may.0 ∙ ap (λ (o : Op). (transacted window_conduct o there).0) op in
      let kind = subst (λ (o : Op). Answers o step.reply) op kinds.0 in
      let shown = shown_taken memory image by state of page before has may.1 taken in
      let own = reads_selected memory image by state of page there step.reply shown answered kind given in
      absurd (let clash : true ≡ false = sym own ∙ other in cc)

-- ---- a reading over it

has_page : (half : Option (List ℕ)) → option_map_or (λ (bytes : List ℕ). offers bytes) half false ≡ true → is_some half ≡ true
has_page None e = absurd cc
has_page (Some bytes) e = refl

alone : (page groups : ℕ) → IsAmong page (groups ∷ groups ∷ []) → page ≡ groups
alone page groups (inl is) = is
alone page groups (inr (inl is)) = is
alone page groups (inr (inr none)) = absurd none

module _ (old new : Seen (List Directive × Windowed)) (memory : Memory) (events : Events) (reading : VdmReading) (over : AreOverWindow old new memory events) (told : IsTold events reading)
    (ended : reading.stage ≡ Over) (none : old.state.0 ≡ []) (lower : map.contains_key memory (lower_key A0) ≡ true) (has : has_observables memory ≡ true) where
  abbrev bank : ℕ
  bank = reading.request.bank

  abbrev groups_number : ℕ
  groups_number = groups_page bank

  may : May old.state (steps_of events)
  may = may_each (script_rules window_conduct) old.state (steps_of events) over.ran.allowed

  never : (page : ℕ) → map.contains_key memory (key_of page) ≡ true → SomeStep (IsPageRefused page) (steps_of events) → ⊥
  never page there = not_refused memory over.image over.selecting lower old.state over.behind none page (steps_of events) there may (each_answers reading.request events told.each)

  -- the pages of the memory are listed
  unlisted : (page : ℕ) (bytes : List ℕ) → IsAmong page (groups_number ∷ bank_pages memory bank) → map.get memory (key_of page) ≡ Some bytes → IsNoneListed bank (steps_of events) → ⊥
  unlisted page bytes among there (inl refused) = never 0x01 (has_page (map.get memory (key_of 0x01)) has) refused
  unlisted page bytes among there (inr (inl (first, read, offered))) =
      let held = page_is memory over.image over.selecting old.state over.behind 0x01 first (steps_of events) may read in
      absurd (let clash : true ≡ false = sym has ∙ offered_by memory first held ∙ offered in cc)
  unlisted page bytes among there (inr (inr refused)) = by (map.get memory (key_of groups_number)) refl
    where
      by : (half : Option (List ℕ)) → map.get memory (key_of groups_number) ≡ half → ⊥
      by (Some of) held = never groups_number (ap is_some held) refused
      by None held =
          let all : bank_pages memory bank ≡ groups_number ∷ [] =
          ap (λ (b : Bool). numbers_of bank (if b then option_map_or pages_of (groups memory bank) (0x2F ∷ []) else [])) has
          ∙ ap (λ (half : Option (List ℕ)). numbers_of bank (option_map_or pages_of (option_map (λ (bytes : List ℕ). byte_in bytes 128 % 4) half) (0x2F ∷ [])))
          (ap (λ (key : Key). map.get memory key) (groups_key bank) ∙ held) in
          let is = alone page groups_number (subst (λ (listed : List ℕ). IsAmong page (groups_number ∷ listed)) all among) in
          absurd (let clash : Some bytes ≡ None = sym there ∙ ap (λ (n : ℕ). map.get memory (key_of n)) is ∙ held in cc)

  held_as : (page : ℕ) (bytes : List ℕ) → map.get memory (key_of page) ≡ Some bytes → map.contains_key reading.image (key_of page) ≡ true → map.get reading.image (key_of page) ≡ Some bytes
  held_as page bytes there has = by (map.get reading.image (key_of page)) refl
    where
      by : (half : Option (List ℕ)) → map.get reading.image (key_of page) ≡ half → half ≡ Some bytes
      by (Some found) held = sym (same old new memory events reading over told page found held) ∙ there
      by None held = absurd (let clash : true ≡ false = sym has ∙ ap is_some held in cc)

  listed_there : (page : ℕ) → map.contains_key memory (key_of page) ≡ true → IsAmong page reading.pages.items → map.contains_key reading.image (key_of page) ≡ true
  listed_there page there among = by (map.contains_key reading.image (key_of page)) refl
    where
      by : (b : Bool) → map.contains_key reading.image (key_of page) ≡ b → b ≡ true
      by true e = refl
      by false e = absurd (never page there (lost.lost_alone events reading told ended page among (ap not e)).0)

  grouped : IsGrouped bank reading.image reading.pages.items (steps_of events) → AreAllRead memory reading
  grouped of page bytes (inl is) there =
      let held = not-false (map.contains_key reading.image (key_of groups_number)) of.there in
      (inl is, held_as page bytes there (ap (λ (n : ℕ). map.contains_key reading.image (key_of n)) is ∙ held))
  grouped of page bytes (inr among) there =
      let first_there = page_is memory over.image over.selecting old.state over.behind 0x01 of.first (steps_of events) may of.first_read in
      let groups_there = page_is memory over.image over.selecting old.state over.behind groups_number of.groups (steps_of events) may of.groups_read in
      let all : bank_pages memory bank ≡ reading.pages.items = pages_by memory bank of.first of.groups first_there of.offered groups_there ∙ sym of.listed_are in
      let listed = subst (IsAmong page) all among in
      (inr listed, held_as page bytes there (listed_there page (ap is_some there) listed))

  by_list : IsListed bank reading.image reading.pages.items (steps_of events) → AreAllRead memory reading
  by_list (inl nothing) page bytes among there = absurd (unlisted page bytes among there nothing.1)
  by_list (inr of) page bytes among there = grouped of page bytes among there

  pub all_read : AreAllRead memory reading
  all_read page bytes among there = by_list (are_listed events reading told ended) page bytes among there
