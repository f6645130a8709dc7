-- Which page a window behind a scripted bus shows after steps that confirm one, or that selected it. Steps stand with the newest
-- first.
use Rattle.std.proofs.Common.{◌≡◌, ◌⊎◌, inl, inr, ℕ, ◌+◌, ◌/◌, ◌%◌, ◌<◌, ◌≤◌, Bool, true, false, not, ◌&&◌, ◌==◌, List, [], ◌∷◌, length, take, Option, Some, None, is_some, refl, sym, ap, subst, ◌∙◌, if◌then◌else◌, nat_lt, arith}
use Rattle.std.proofs.lemmas.Bool.{and_parts, cases_lt, eq-eqb, eqb-true, not-true, or_cases}
use Rattle.std.proofs.lemmas.Bool.Decides.{nat_tests}
use Rattle.std.proofs.lemmas.List.{length-take}
use Rattle.std.specs.Prelude.{option_map}
use Rattle.std.specs.FinMap as finmap
use Rattle.bus_model.specs.declared.device.Dev.{Dev}
use Rattle.bus_model.specs.declared.device.Dev.TheVariants.{A0, A2}
use Rattle.bus_model.specs.declared.operation.Op.{Op}
use Rattle.bus_model.specs.declared.operation.Op.TheVariants.{Fetch, Store}
use Rattle.bus_model.specs.declared.operation.Reply.{Reply}
use Rattle.bus_model.specs.declared.operation.Reply.TheVariants.{Bytes, Done, Refused}
use Rattle.bus_model.specs.declared.operation.Step.{Step}
use Rattle.bus_model.specs.declared.script.Directive.{Directive}
use Rattle.bus_model.specs.Keeping.{IsKeptBy}
use Rattle.bus_model.specs.ScriptedBus.{script_rules, settled, transacted}
use Rattle.bus_model.proofs.Histories.{AnyPin, MayEach, after, found_keeps}
use Rattle.bus_model.specs.SameOperation.{same_op}
use Rattle.bus_model.proofs.SameOperations.{ops_are}
use Rattle.bus_model.proofs.ScriptRuns.{all_allow, fetched_at, step_keeps, stored_at}
use Rattle.paged_memory.specs.declared.page_addressing.PageAddressing.{PageAddressing}
use Rattle.paged_memory.specs.declared.page_addressing.PageAddressing.TheVariants.{BankAndPage, PageAlone}
use Rattle.paged_memory.specs.declared.mapped_page.MappedPage.{MappedPage}
use Rattle.paged_memory.specs.Images.{Memory}
use Rattle.paged_memory.specs.Keys.{page_key, upper_key}
use Rattle.paged_memory.specs.PageAddressing.{History, is_page_confirmed, first_byte, is_page, is_selection_of, may_select, read_selection, reads_back, selection}
use Rattle.paged_memory.specs.MappedPages.{first_page, mapped, selected, selected_in_turn, selecting_on}
use Rattle.paged_memory.specs.Windows.{Windowed, bytes_from, window_fetched, half_at, window_stored, window_conduct}
use Rattle.paged_memory.proofs.KnownPageLaws.{parts_are}
use Rattle.paged_memory.proofs.WindowRuns.{always, shown_two}

-- a bus with a script and a window
abbrev pub State : Type 0
State = List Directive × Windowed

abbrev pub left : State → History → State
left = after (script_rules window_conduct)

abbrev pub May : State → History → Type 0
May = MayEach (script_rules window_conduct)

-- the window as a transaction finds it
abbrev pub found : State → Windowed
found state = (settled window_conduct state.0 state.1).1

-- ---- what time and the operations keep

-- the window with another selection
abbrev selecting_anew : Windowed → Dev → ℕ → List ℕ → Windowed
selecting_anew window dev address bytes =
    record window { selection = selected_in_turn (selecting_on window.memory dev) window.memory window.selection address bytes }

store_keeps : (P : Windowed → Type 0) (window : Windowed) (dev : Dev) (address : ℕ) (bytes : List ℕ) → P window → P (selecting_anew window dev address bytes) →
    P (window_stored window dev address bytes).1
store_keeps P window dev address bytes holds anew =
    elim (is_some (half_at window dev address)) as (λ b. P (let given : Bool × Windowed = if b then (true, selecting_anew window dev address bytes) else (false, window) in given.1)) [ true ↦ anew | false ↦ holds ]

-- the window is one of this memory
abbrev pub IsOf : Memory → Windowed → Type 0
IsOf memory window = window.memory ≡ memory

pub of_kept : (memory : Memory) (op : Op) → IsKeptBy window_conduct (IsOf memory) op
of_kept memory (Fetch dev address count) = λ window of. of
of_kept memory (Store dev address bytes) = (
  λ window of. store_keeps (IsOf memory) window dev address bytes.items of of,
  λ window kept of. store_keeps (IsOf memory) window dev address (take kept bytes.items) of of,
)

pub of_after : (memory : Memory) (state : State) (history : History) → IsOf memory state.1 → IsOf memory (left state history).1
of_after memory state [] of = of
of_after memory state (step ∷ before) of =
    step_keeps window_conduct AnyPin (IsOf memory) (always (IsOf memory)) step.op (of_kept memory step.op) (left state before) (all_allow (left state before).0) (of_after memory state before of)

-- and shows a page
pub record Shows (memory : Memory) (page : ℕ) (window : Windowed) : Type 0 where
  pub memory_is : window.memory ≡ memory
  pub bank : window.selection.bank ≡ page / 256
  pub number : window.selection.page ≡ page % 256

same_shows : (memory : Memory) (page : ℕ) (window : Windowed) (selection : MappedPage) → selection ≡ window.selection → Shows memory page window → Shows memory page (record window { selection = selection })
same_shows memory page window selection same shows = record {
  memory_is = shows.memory_is;
  bank = ap (λ (s : MappedPage). s.bank) same ∙ shows.bank;
  number = ap (λ (s : MappedPage). s.page) same ∙ shows.number;
}

-- how pages have to be selected
abbrev pub selecting_of : PageAddressing → Option PageAddressing
selecting_of addressing = Some addressing

-- outside of the selection
abbrev IsApart : PageAddressing → ℕ → ℕ → Type 0
IsApart addressing address count = (address + count ≤ first_byte addressing) ⊎ (128 ≤ address)

pub not_126 : (address : ℕ) → (address < 126) ⊎ (128 ≤ address) → (address == 126) ≡ false
not_126 address (inl below) = grind (arith, nat_tests)
not_126 address (inr above) = grind (arith, nat_tests)

pub not_127 : (address : ℕ) → (address < 127) ⊎ (128 ≤ address) → (address == 127) ≡ false
not_127 address (inl below) = grind (arith, nat_tests)
not_127 address (inr above) = grind (arith, nat_tests)

pub below_next : (address : ℕ) → (address < 126) ⊎ (128 ≤ address) → (address < 127) ⊎ (128 ≤ address)
below_next address (inl below) = inl (omega (arith, below))
below_next address (inr above) = inr above

stays : (addressing : PageAddressing) (memory : Memory) (selection : MappedPage) (address byte : ℕ) → (address < first_byte addressing) ⊎ (128 ≤ address) → selected (selecting_of addressing) memory selection address byte ≡ selection
stays BankAndPage memory selection address byte apart = λ i.
    if not_126 address apart i then record selection { waiting = byte }
    else if not_127 address (below_next address apart) i then mapped memory selection.waiting byte
    else selection
stays PageAlone memory selection address byte apart = λ i. if not_127 address apart i then mapped memory 0 byte else selection

first_apart : (addressing : PageAddressing) (address count : ℕ) → IsApart addressing address (count + 1) → (address < first_byte addressing) ⊎ (128 ≤ address)
first_apart addressing address count (inl low) = inl (omega (arith, low))
first_apart addressing address count (inr high) = inr high

rest_apart : (addressing : PageAddressing) (address count : ℕ) → IsApart addressing address (count + 1) → IsApart addressing (address + 1) count
rest_apart addressing address count (inl low) = inl (omega (arith, low))
rest_apart addressing address count (inr high) = inr (omega (arith, high))

all_stay : (addressing : PageAddressing) (memory : Memory) (selection : MappedPage) (address : ℕ) (bytes : List ℕ) → IsApart addressing address (length bytes) → selected_in_turn (selecting_of addressing) memory selection address bytes ≡ selection
all_stay addressing memory selection address [] apart = refl
all_stay addressing memory selection address (byte ∷ bytes) apart =
    let more : IsApart addressing address (length bytes + 1) = subst (IsApart addressing address) (omega arith) apart in
    all_stay addressing memory (selected (selecting_of addressing) memory selection address byte) (address + 1) bytes (rest_apart addressing address (length bytes) more)
    ∙ stays addressing memory selection address byte (first_apart addressing address (length bytes) more)

cut_apart : (addressing : PageAddressing) (kept address : ℕ) (bytes : List ℕ) → IsApart addressing address (length bytes) → IsApart addressing address (length (take kept bytes))
cut_apart addressing kept address bytes (inl low) = inl (omega (arith, low, length-take kept bytes))
cut_apart addressing kept address bytes (inr high) = inr high

apart_by : (addressing : PageAddressing) (address count : ℕ) → (nat_lt address 128 && nat_lt (first_byte addressing) (address + count)) ≡ false → IsApart addressing address count
apart_by addressing address count e =
    elim (cases_lt address 128) [
      | inr high ↦ inr high
      | inl below ↦ elim (cases_lt (first_byte addressing) (address + count)) [
        | inl over ↦ absurd (grind (arith, nat_tests))
        | inr under ↦ inl under
      ]
    ]

-- device A2 has no selection
none_stay : (memory : Memory) (selection : MappedPage) (address : ℕ) (bytes : List ℕ) → selected_in_turn None memory selection address bytes ≡ selection
none_stay memory selection address [] = refl
none_stay memory selection address (byte ∷ bytes) = none_stay memory selection (address + 1) bytes

pub shows_fetch : (memory : Memory) (page : ℕ) (dev : Dev) (address count : ℕ) → IsKeptBy window_conduct (Shows memory page) (Fetch dev address count)
shows_fetch memory page dev address count = λ window shows. shows

-- alone, a page is of bank 0
abbrev pub IsOfBank : PageAddressing → MappedPage → Type 0
IsOfBank BankAndPage selection = Unit {0}
IsOfBank PageAlone selection = selection.bank ≡ 0

-- what every window of the memory is
pub record IsSound (memory : Memory) (addressing : PageAddressing) (window : Windowed) : Type 0 where
  pub memory_is : window.memory ≡ memory
  pub bank : IsOfBank addressing window.selection

mapped_bank : (memory : Memory) (page : ℕ) → (mapped memory 0 page).bank ≡ 0
mapped_bank memory page =
    elim (finmap.contains_key memory (upper_key A0 0 page)) as (λ b. (let there : MappedPage = if b then record { bank = 0; page = page; waiting = 0 } else first_page in there.bank) ≡ 0) [ true ↦ refl | false ↦ refl ]

bank_stays : (addressing : PageAddressing) (memory : Memory) (selection : MappedPage) (address byte : ℕ) → IsOfBank addressing selection → IsOfBank addressing (selected (selecting_of addressing) memory selection address byte)
bank_stays BankAndPage memory selection address byte bank = tt
bank_stays PageAlone memory selection address byte bank =
    elim (address == 127) as (λ b. (let after : MappedPage = if b then mapped memory 0 byte else selection in after.bank) ≡ 0) [ true ↦ mapped_bank memory byte | false ↦ bank ]

banks_stay : (addressing : PageAddressing) (memory : Memory) (selection : MappedPage) (address : ℕ) (bytes : List ℕ) → IsOfBank addressing selection → IsOfBank addressing (selected_in_turn (selecting_of addressing) memory selection address bytes)
banks_stay addressing memory selection address [] bank = bank
banks_stay addressing memory selection address (byte ∷ bytes) bank =
    banks_stay addressing memory (selected (selecting_of addressing) memory selection address byte) (address + 1) bytes (bank_stays addressing memory selection address byte bank)

shown_one : (how : Option PageAddressing) (shown : MappedPage) (half : Option (List ℕ)) (bytes : List ℕ) → how ≡ (Some PageAlone)
    → option_map (bytes_from how shown 127 1) half ≡ Some bytes → bytes ≡ shown.page ∷ []
shown_one (Some PageAlone) shown None bytes is same = absurd cc
shown_one (Some PageAlone) shown (Some half) bytes is same = cc
shown_one (Some BankAndPage) shown half bytes is same = absurd cc
shown_one None shown half bytes is same = absurd cc

module _ (memory : Memory) (addressing : PageAddressing) (by : selecting_on memory A0 ≡ selecting_of addressing) where
  by_window : (window : Windowed) → IsOf memory window → selecting_on window.memory A0 ≡ selecting_of addressing
  by_window window of = ap (λ (m : Memory). selecting_on m A0) of ∙ by

  shows_store : (page : ℕ) (address : ℕ) (bytes : List ℕ) (window : Windowed) → IsApart addressing address (length bytes) → Shows memory page window → Shows memory page (window_stored window A0 address bytes).1
  shows_store page address bytes window apart shows =
      let same = ap (λ (s : Option PageAddressing). selected_in_turn s window.memory window.selection address bytes) (by_window window shows.memory_is) ∙ all_stay addressing window.memory window.selection address bytes apart in
      store_keeps (Shows memory page) window A0 address bytes shows (same_shows memory page window _ same shows)

  shows_other : (page : ℕ) (address : ℕ) (bytes : List ℕ) (window : Windowed) → Shows memory page window → Shows memory page (window_stored window A2 address bytes).1
  shows_other page address bytes window shows =
      store_keeps (Shows memory page) window A2 address bytes shows (same_shows memory page window _ (none_stay window.memory window.selection address bytes) shows)

  -- a page that is shown stays so, while no store covers the selection
  shows_by : (page : ℕ) (op : Op) → may_select addressing op ≡ false → IsKeptBy window_conduct (Shows memory page) op
  shows_by page (Fetch dev address count) leaves = shows_fetch memory page dev address count
  shows_by page (Store A0 address bytes) leaves =
      let apart = apart_by addressing address (length bytes.items) leaves in (
        λ window shows. shows_store page address bytes.items window apart shows,
        λ window kept shows. shows_store page address (take kept bytes.items) window (cut_apart addressing kept address bytes.items apart) shows,
      )
  shows_by page (Store A2 address bytes) leaves = (
    λ window shows. shows_other page address bytes.items window shows,
    λ window kept shows. shows_other page address (take kept bytes.items) window shows,
  )

  sound_store : (dev : Dev) (address : ℕ) (bytes : List ℕ) (window : Windowed) → IsSound memory addressing window → IsSound memory addressing (window_stored window dev address bytes).1
  sound_store A0 address bytes window sound =
      let anew = subst (λ (s : Option PageAddressing). IsOfBank addressing (selected_in_turn s window.memory window.selection address bytes)) (sym (by_window window sound.memory_is))
      (banks_stay addressing window.memory window.selection address bytes sound.bank) in
      store_keeps (IsSound memory addressing) window A0 address bytes sound (record { memory_is = sound.memory_is; bank = anew })
  sound_store A2 address bytes window sound =
      let anew = subst (IsOfBank addressing) (sym (none_stay window.memory window.selection address bytes)) sound.bank in
      store_keeps (IsSound memory addressing) window A2 address bytes sound (record { memory_is = sound.memory_is; bank = anew })

  sound_by : (op : Op) → IsKeptBy window_conduct (IsSound memory addressing) op
  sound_by (Fetch dev address count) = λ window sound. sound
  sound_by (Store dev address bytes) = (
    λ window sound. sound_store dev address bytes.items window sound,
    λ window kept sound. sound_store dev address (take kept bytes.items) window sound,
  )

  pub sound_after : (state : State) (history : History) → IsSound memory addressing state.1 → IsSound memory addressing (left state history).1
  sound_after state [] sound = sound
  sound_after state (step ∷ before) sound =
      step_keeps window_conduct AnyPin (IsSound memory addressing) (always (IsSound memory addressing)) step.op (sound_by step.op) (left state before) (all_allow (left state before).0) (sound_after state before sound)

-- the page that is read is shown
shows_two : (memory : Memory) (by : selecting_on memory A0 ≡ (Some BankAndPage)) (page : ℕ) (window : Windowed) (bytes : List ℕ) → IsSound memory BankAndPage window →
    (window_fetched window A0 126 2).0 ≡ Some bytes → is_selection_of BankAndPage page bytes ≡ true → Shows memory page window
shows_two memory by page window bytes sound answer reads =
    let two = shown_two (selecting_on window.memory A0) window.selection (half_at window A0 126) bytes (by_window memory BankAndPage by window sound.memory_is) answer in
    let parts = parts_are window.selection.bank window.selection.page page (ap (is_selection_of BankAndPage page) (sym two) ∙ reads) in
    record { memory_is = sound.memory_is; bank = parts.0; number = parts.1 }

shows_one : (memory : Memory) (by : selecting_on memory A0 ≡ (Some PageAlone)) (page : ℕ) (window : Windowed) (bytes : List ℕ) → IsSound memory PageAlone window →
    (window_fetched window A0 127 1).0 ≡ Some bytes → is_selection_of PageAlone page bytes ≡ true → Shows memory page window
shows_one memory by page window bytes sound answer reads =
    let one = shown_one (selecting_on window.memory A0) window.selection (half_at window A0 127) bytes (by_window memory PageAlone by window sound.memory_is) answer in
    let parts = and_parts (page / 256 == 0) (window.selection.page == page % 256) (ap (is_selection_of PageAlone page) (sym one) ∙ reads) in
    record { memory_is = sound.memory_is; bank = sound.bank ∙ sym (eqb-true (page / 256) 0 parts.0); number = eqb-true window.selection.page (page % 256) parts.1 }

shows_reply : (memory : Memory) (addressing : PageAddressing) → selecting_on memory A0 ≡ selecting_of addressing → (page : ℕ) (there : State) (reply : Reply) → is_page addressing page reply ≡ true →
    reply ≡ (transacted window_conduct (read_selection addressing) there).0 → IsSound memory addressing there.1 →
    Shows memory page (found there) × Shows memory page (transacted window_conduct (read_selection addressing) there).1.1
shows_reply memory BankAndPage by page there (Bytes bytes) reads may sound =
    let read = fetched_at window_conduct A0 126 2 bytes there may in
    let shows = shows_two memory by page (found there) bytes.items (found_keeps window_conduct (IsSound memory BankAndPage) (always (IsSound memory BankAndPage)) there sound) read.answer reads in
    (shows, subst (Shows memory page) (sym read.left) shows)
shows_reply memory PageAlone by page there (Bytes bytes) reads may sound =
    let read = fetched_at window_conduct A0 127 1 bytes there may in
    let shows = shows_one memory by page (found there) bytes.items (found_keeps window_conduct (IsSound memory PageAlone) (always (IsSound memory PageAlone)) there sound) read.answer reads in
    (shows, subst (Shows memory page) (sym read.left) shows)
shows_reply memory addressing by page there Done reads may sound = absurd cc
shows_reply memory addressing by page there Refused reads may sound = absurd cc

-- so it is when it is read back, and afterwards
pub shows_read_back : (memory : Memory) (addressing : PageAddressing) → selecting_on memory A0 ≡ selecting_of addressing → (page : ℕ) (there : State) (step : Step) → reads_back addressing page step ≡ true →
    (script_rules window_conduct).may there step → IsSound memory addressing there.1 → Shows memory page (found there) × Shows memory page ((script_rules window_conduct).after there step).1
shows_read_back memory addressing by page there step reads may sound =
    let parts = and_parts (same_op (read_selection addressing) step.op) (is_page addressing page step.reply) reads in
    let op : read_selection addressing ≡ step.op = ops_are (read_selection addressing) step.op parts.0 in
    let here : step.reply ≡ (transacted window_conduct (read_selection addressing) there).0 = subst (λ (o : Op). step.reply ≡ (transacted window_conduct o there).0) (sym op) may in
    subst (λ (o : Op). Shows memory page (found there) × Shows memory page (transacted window_conduct o there).1.1) op (shows_reply memory addressing by page there step.reply parts.1 here sound)

-- the page that the steps confirm is shown after them
pub shows_confirmed : (memory : Memory) (addressing : PageAddressing) → selecting_on memory A0 ≡ selecting_of addressing → (page : ℕ) (state : State) (history : History) → IsSound memory addressing state.1 → May state history →
    is_page_confirmed addressing page history ≡ true → Shows memory page (left state history).1
shows_confirmed memory addressing by page state [] sound may confirmed = absurd cc
shows_confirmed memory addressing by page state (step ∷ before) sound may confirmed =
    elim (or_cases (reads_back addressing page step) (not (may_select addressing step.op) && is_page_confirmed addressing page before) confirmed) [
      | inl reads ↦ (shows_read_back memory addressing by page (left state before) step reads may.0 (sound_after memory addressing by state before sound)).1
      | inr earlier ↦
          let parts = and_parts (not (may_select addressing step.op)) (is_page_confirmed addressing page before) earlier in
          step_keeps window_conduct AnyPin (Shows memory page) (always (Shows memory page)) step.op (shows_by memory addressing by page step.op (not-true (may_select addressing step.op) parts.0)) (left state before)
          (all_allow (left state before).0) (shows_confirmed memory addressing by page state before sound may.1 parts.1)
    ]

-- ---- a selection that was taken

mapped_shows : (memory : Memory) (bank page : ℕ) → finmap.contains_key memory (upper_key A0 bank page) ≡ true → mapped memory bank page ≡ record { bank = bank; page = page; waiting = bank }
mapped_shows memory bank page there = λ i. if there i then record { bank = bank; page = page; waiting = bank } else first_page

-- a page that can be selected: alone, one of bank 0
abbrev pub IsSelectable : PageAddressing → ℕ → Type 0
IsSelectable BankAndPage page = Unit {0}
IsSelectable PageAlone page = page / 256 ≡ 0

taken_shows : (memory : Memory) (page : ℕ) (window : Windowed) (dev : Dev) (address : ℕ) (bytes : List ℕ) → (window_stored window dev address bytes).0 ≡ true → Shows memory page (selecting_anew window dev address bytes) →
    Shows memory page (window_stored window dev address bytes).1
taken_shows memory page window dev address bytes taken anew = by_test (is_some (half_at window dev address)) taken where
  by_test : (b : Bool) → (let given : Bool × Windowed = if b then (true, selecting_anew window dev address bytes) else (false, window) in given.0 ≡ true) →
      Shows memory page (let given : Bool × Windowed = if b then (true, selecting_anew window dev address bytes) else (false, window) in given.1)
  by_test true e = anew
  by_test false e = absurd cc

alone_of : (page : ℕ) → page / 256 ≡ 0 → selection PageAlone page ≡ Store A0 127 (record { items = page % 256 ∷ [] })
alone_of page alone =
    ap (λ (b : Bool). if b then Store A0 127 (record { items = page % 256 ∷ [] }) else Store A0 126 (record { items = page / 256 ∷ page % 256 ∷ [] })) (eq-eqb (page / 256) 0 alone)

shows_alone : (memory : Memory) → selecting_on memory A0 ≡ (Some PageAlone) → (page : ℕ) (there : State) → page / 256 ≡ 0 → finmap.contains_key memory (page_key page) ≡ true →
    Done ≡ (transacted window_conduct (Store A0 127 (record { items = page % 256 ∷ [] })) there).0 → IsOf memory there.1 → Shows memory page (transacted window_conduct (Store A0 127 (record { items = page % 256 ∷ [] })) there).1.1
shows_alone memory by page there selectable has may of =
    let bytes : List ℕ = page % 256 ∷ [] in
    let done = stored_at window_conduct A0 127 bytes there may in
    let window = found there in
    let still : IsOf memory window = found_keeps window_conduct (IsOf memory) (always (IsOf memory)) there of in
    let there_alone = subst (λ (bank : ℕ). finmap.contains_key memory (upper_key A0 bank (page % 256)) ≡ true) selectable has in
    let anew : selected_in_turn (selecting_on window.memory A0) window.memory window.selection 127 bytes ≡ record { bank = 0; page = page % 256; waiting = 0 } =
    ap (λ (s : Option PageAddressing). selected_in_turn s window.memory window.selection 127 bytes) (by_window memory PageAlone by window still) ∙ ap (λ (m : Memory). mapped m 0 (page % 256)) still
    ∙ mapped_shows memory 0 (page % 256) there_alone in
    subst (Shows memory page) (sym done.left) (taken_shows memory page window A0 127 bytes done.answer
    (record { memory_is = still; bank = ap (λ (s : MappedPage). s.bank) anew ∙ sym selectable; number = ap (λ (s : MappedPage). s.page) anew }))

-- where the memory has the page it is shown
pub shows_selected : (memory : Memory) (addressing : PageAddressing) → selecting_on memory A0 ≡ selecting_of addressing → (page : ℕ) (there : State) → IsSelectable addressing page → finmap.contains_key memory (page_key page) ≡ true →
    Done ≡ (transacted window_conduct (selection addressing page) there).0 → IsOf memory there.1 → Shows memory page (transacted window_conduct (selection addressing page) there).1.1
shows_selected memory BankAndPage by page there selectable has may of =
    let bytes : List ℕ = page / 256 ∷ page % 256 ∷ [] in
    let done = stored_at window_conduct A0 126 bytes there may in
    let window = found there in
    let still : IsOf memory window = found_keeps window_conduct (IsOf memory) (always (IsOf memory)) there of in
    let anew : selected_in_turn (selecting_on window.memory A0) window.memory window.selection 126 bytes ≡ record { bank = page / 256; page = page % 256; waiting = page / 256 } =
    ap (λ (s : Option PageAddressing). selected_in_turn s window.memory window.selection 126 bytes) (by_window memory BankAndPage by window still) ∙ ap (λ (m : Memory). mapped m (page / 256) (page % 256)) still
    ∙ mapped_shows memory (page / 256) (page % 256) has in
    subst (Shows memory page) (sym done.left) (taken_shows memory page window A0 126 bytes done.answer
    (record { memory_is = still; bank = ap (λ (s : MappedPage). s.bank) anew; number = ap (λ (s : MappedPage). s.page) anew }))
shows_selected memory PageAlone by page there selectable has may of =
    let bytes : List ℕ = page % 256 ∷ [] in
    let alone : selection PageAlone page ≡ Store A0 127 (record { items = bytes }) = alone_of page selectable in
    subst (λ (op : Op). Shows memory page (transacted window_conduct op there).1.1) (sym alone)
    (shows_alone memory by page there selectable has (may ∙ ap (λ (op : Op). (transacted window_conduct op there).0) alone) of)
