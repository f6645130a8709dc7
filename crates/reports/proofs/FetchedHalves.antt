-- What one reading over a scripted bus with a window of an image behind reads: the halves agree with the image's.
use Rattle.std.proofs.Common.{◌≡◌, inl, inr, ℕ, ◌<◌, Bool, true, false, List, [], ◌∷◌, map, take, Option, Some, None, Ok, reverse, refl, sym, ap, subst, ◌∙◌, arith}
use Rattle.std.proofs.lemmas.Bool.{some_since}
use Rattle.std.specs.Prelude.{IsTrue, MatchOption, is_some, not, option_map, pos, slice_index, unsigned_abs, unwrap_or}
use Rattle.std.specs.FinMap as map
use Rattle.std.specs.List.{AllByRecursion}
use Rattle.bus_model.specs.declared.device.Dev.{Dev}
use Rattle.bus_model.specs.declared.device.Dev.TheVariants.{A0, A2}
use Rattle.bus_model.specs.declared.operation.Op.{Op}
use Rattle.bus_model.specs.declared.operation.Op.TheVariants.{Fetch, Store}
use Rattle.bus_model.specs.declared.operation.Reply.TheVariants.{Bytes, Done}
use Rattle.bus_model.specs.declared.operation.Step.{Step}
use Rattle.bus_model.specs.declared.script.Directive.{Directive}
use Rattle.bus_model.specs.Keeping.{IsKeptBy}
use Rattle.bus_model.specs.Runs.{IsFull, Ran, Seen}
use Rattle.bus_model.specs.ScriptedBus.{script_rules, transacted}
use Rattle.bus_model.proofs.Histories.{AnyPin, found_keeps, may_each}
use Rattle.bus_model.proofs.ScriptRuns.{all_allow, fetched_at, step_keeps}
use Rattle.control_sets.specs.OutcomeSteps.{Gives}
use Rattle.conversations.specs.Selecting.{IsFetch, WasTaken}
use Rattle.paged_memory.specs.declared.family.Family.{Family}
use Rattle.paged_memory.specs.declared.family.Family.TheVariants.{Sff8472}
use Rattle.paged_memory.specs.declared.page_addressing.PageAddressing.{PageAddressing}
use Rattle.paged_memory.specs.declared.page_addressing.PageAddressing.TheVariants.{BankAndPage, PageAlone}
use Rattle.paged_memory.specs.Families.{managed_by}
use Rattle.paged_memory.specs.Images.{Memory}
use Rattle.paged_memory.specs.ImageText.{IsImage}
use Rattle.paged_memory.specs.Keys.{lower_key, page_key}
use Rattle.paged_memory.specs.PageAddressing.{History, reads_back, selection}
use Rattle.paged_memory.specs.MappedPages.{selecting_by, selecting_in, selecting_on}
use Rattle.paged_memory.specs.Windows.{Windowed, window_fetched, started, window_conduct}
use Rattle.paged_memory.proofs.WindowHistories.{IsOf, IsOfBank, IsSelectable, IsSound, May, Shows, State, found, left, of_after, selecting_of, shows_confirmed, shows_fetch, shows_read_back, shows_selected, sound_after}
use Rattle.paged_memory.proofs.WindowReads.{before_selection, half_page, reads_lower, reads_page}
use Rattle.paged_memory.proofs.WindowRuns.{always}
use Rattle.field_tables.specs.declared.field.Field.TheVariants as fields
use Rattle.field_tables.specs.declared.table.cmis.CmisField.TheVariants as cmis
use Rattle.field_tables.specs.FieldValues.{value_in}
use Rattle.field_tables.specs.Halves.{byte_in, is_absent}
use Rattle.field_tables.specs.Readings.{reading_at}
use Rattle.field_tables.proofs.PlaceNumbers.{number-bits_up}
use Rattle.field_tables.proofs.SameValues.{Agree, same_absent, same_number}
use Rattle.module_decoding.specs.ModuleFamilies.{identifier}
use Rattle.reports.specs.FetchedImages.{AreFetched}
use Rattle.module_reading.specs.ReadImages.{IsImageOf, IsLeftOut, IsRead, IsSettled, IsShown, SomeStep, StoresNothing}
use Rattle.module_reading.specs.Regions.{addressing_in, addressing_of, everything, family_regions, has_diagnostics, key_of, operation, regions_in, regions_of}
use Rattle.module_reading.specs.declared.region.Region.{Region}
use Rattle.module_reading.specs.declared.region.Region.TheVariants.{Lower, FirstPage, Page}
use Rattle.module_reading.specs.declared.request.Request.{Request}
use Rattle.module_reading.proofs.RegionLaws.{CanBeSelected, begins_lower, can_be_selected}
use Rattle.reports.proofs.SameFamilies.{AllAgree}
use Rattle.reports.proofs.SameIf.{each_agree}

-- ---- what a fetch of a half was answered by

-- a step of which this holds, with the steps before it
record Found (P : Step → History → Type 0) (state : State) : Type 0 where
  step : Step
  before : History
  may : May state (step ∷ before)
  is : P step before

found_step : (P : Step → History → Type 0) (state : State) (history : History) → May state history → SomeStep P history → Found P state
found_step P state [] may some = absurd some
found_step P state (step ∷ before) may (inl now) = record { step = step; before = before; may = may; is = now }
found_step P state (step ∷ before) may (inr earlier) = found_step P state before may.1 earlier

-- the half was shown, and its fetch gave these bytes
abbrev WasRead : PageAddressing → Region → List ℕ → State → Type 0
WasRead addressing region bytes state = Found (λ step before. Gives (operation region) bytes step × IsShown false addressing region before) state

answer_of : (addressing : PageAddressing) (region : Region) (bytes : List ℕ) (state : State) (dev : Dev) (offset : ℕ) → operation region ≡ Fetch dev offset 128 → (read : WasRead addressing region bytes state) →
    (window_fetched (found (left state read.before)) dev offset 128).0 ≡ Some bytes
answer_of addressing region bytes state dev offset fetch read =
    let there = left state read.before in
    let gives = read.is.0 in
    let reply : Bytes (record { items = bytes }) ≡ (transacted window_conduct (Fetch dev offset 128) there).0 =
    sym gives.1 ∙ read.may.0 ∙ ap (λ (op : Op). (transacted window_conduct op there).0) (gives.0 ∙ fetch) in
    (fetched_at window_conduct dev offset 128 (record { items = bytes }) there reply).answer

-- ---- which page is shown

fetch_keeps : (memory : Memory) (page : ℕ) (op : Op) → IsFetch op → IsKeptBy window_conduct (Shows memory page) op
fetch_keeps memory page (Fetch dev address count) fetch = shows_fetch memory page dev address count
fetch_keeps memory page (Store dev address bytes) fetch = absurd fetch

-- a fetch leaves a page shown
shows_next : (memory : Memory) (page : ℕ) (there : State) (step : Step) → IsFetch step.op → Shows memory page there.1 → Shows memory page ((script_rules window_conduct).after there step).1
shows_next memory page there step fetch shows =
    step_keeps window_conduct AnyPin (Shows memory page) (always (Shows memory page)) step.op (fetch_keeps memory page step.op fetch) there (all_allow there.0) shows

shows_first : (memory : Memory) (state : State) (history : History) → StoresNothing history → Shows memory 0 state.1 → Shows memory 0 (left state history).1
shows_first memory state [] nothing shows = shows
shows_first memory state (step ∷ before) nothing shows = shows_next memory 0 (left state before) step nothing.0 (shows_first memory state before nothing.1 shows)

shows_chosen : (memory : Memory) (addressing : PageAddressing) → selecting_on memory A0 ≡ selecting_of addressing → (page : ℕ) (state : State) (history : History) → IsSelectable addressing page → map.contains_key memory (page_key page) ≡ true → IsOf memory state.1 →
    May state history → WasTaken addressing page history → Shows memory page (left state history).1
shows_chosen memory addressing by page state [] selectable has of may selected = absurd selected
shows_chosen memory addressing by page state (step ∷ before) selectable has of may (inl accepted) =
    let there = left state before in
    let done : Done ≡ (transacted window_conduct (selection addressing page) there).0 = sym accepted.1 ∙ may.0 ∙ ap (λ (op : Op). (transacted window_conduct op there).0) accepted.0 in
    subst (λ (op : Op). Shows memory page (transacted window_conduct op there).1.1) (sym accepted.0) (shows_selected memory addressing by page there selectable has done (of_after memory state before of))
shows_chosen memory addressing by page state (step ∷ before) selectable has of may (inr (fetch, earlier)) =
    shows_next memory page (left state before) step fetch (shows_chosen memory addressing by page state before selectable has of may.1 earlier)

-- ---- how its pages are selected

value_of_byte : (bytes : List ℕ) → slice_index bytes 0 < 256 → unsigned_abs (value_in bytes (fields.Cmis cmis.Identifier) 1) ≡ slice_index bytes 0
unfolding value_in
value_of_byte bytes small = number-bits_up (byte_in bytes) 0 0 8 ∙ omega (arith, small)

pub identifier_is : (memory : Memory) (half : List ℕ) → IsImage memory → map.get memory (lower_key A0) ≡ Some half → identifier memory ≡ slice_index half 0
unfolding reading_at
identifier_is memory half image has =
    let page = half_page memory (lower_key A0) half image has in
    ap (λ (bytes : Option (List ℕ)). unsigned_abs (unwrap_or (option_map (λ bytes. value_in bytes (fields.Cmis cmis.Identifier) 1) bytes) (pos 0))) has ∙ value_of_byte half (page.bytes 0)

pub selecting_is : (memory : Memory) (half : List ℕ) → map.get memory (lower_key A0) ≡ Some half → selecting_on memory A0 ≡ selecting_by (slice_index half 0)
selecting_is memory half has = ap (λ (bytes : Option (List ℕ)). unwrap_or (option_map selecting_by (option_map (λ bytes. slice_index bytes 0) bytes)) (Some BankAndPage)) has

-- ---- the halves agree

no_half : (b : Bool) (half : Option (List ℕ)) → is_some half ≡ b → (b ≡ true → ⊥) → half ≡ None
no_half b None e none = refl
no_half b (Some bytes) e none = absurd (none (sym e))

half_of : (half : Option (List ℕ)) → not (is_some half) ≡ false → (bytes : List ℕ) × (half ≡ Some bytes)
half_of None e = absurd cc
half_of (Some bytes) e = (bytes, refl)

-- the memory's pages are selected in this way, in which this one can be, and the window is sound for it
pub record IsPaged (memory : Memory) (addressing : PageAddressing) (page : ℕ) (window : Windowed) : Type 0 where
  pub selecting : selecting_on memory A0 ≡ selecting_of addressing
  pub sound : IsSound memory addressing window
  pub selectable : IsSelectable addressing page

-- what makes a half that is read the memory's: for page 00h of flat memory that it is shown at first, for a page that it can be selected
abbrev pub IsWithin : Memory → PageAddressing → Windowed → Region → Type 0
IsWithin memory addressing window (Lower dev) = Unit {0}
IsWithin memory addressing window FirstPage = Shows memory 0 window
IsWithin memory addressing window (Page page) = IsPaged memory addressing page window

-- the memory of the window behind the bus, whatever that shows at first, and what is kept of its halves
module _ (memory copy : Memory) (state : State) (history : History) (image : IsImage memory) (of : IsOf memory state.1) (may : May state history) where
  abbrev addressing : PageAddressing
  addressing = addressing_of copy

  bytes_are : (page : ℕ) (there : State) (bytes : List ℕ) → Shows memory page there.1 → (window_fetched (found there) A0 128 128).0 ≡ Some bytes → map.get memory (page_key page) ≡ Some bytes
  bytes_are page there bytes shows answer =
      reads_page memory page (found there) bytes image (found_keeps window_conduct (Shows memory page) (always (Shows memory page)) there shows) answer

  lower_agrees : (dev : Dev) (there : State) (bytes : List ℕ) → IsOf memory there.1 → (window_fetched (found there) dev 0 128).0 ≡ Some bytes → map.get copy (lower_key dev) ≡ Some bytes → Agree copy memory (lower_key dev)
  lower_agrees dev there bytes of answer held =
      let now = found_keeps window_conduct (IsOf memory) (always (IsOf memory)) there of in
      let read = reads_lower memory dev (found there) bytes image now answer in
      let n = before_selection dev in
      ap (option_map (take n)) held ∙ ap (λ (xs : List ℕ). Some xs) read.same ∙ sym (ap (option_map (take n)) read.has)

  page_was_read : (page : ℕ) (bytes : List ℕ) → IsPaged memory addressing page state.1 → WasRead addressing (Page page) bytes state → map.get memory (page_key page) ≡ Some bytes
  page_was_read page bytes paged read =
      let shows = shows_confirmed memory addressing paged.selecting page state read.before paged.sound read.may.1 read.is.1 in
      bytes_are page (left state read.before) bytes shows (answer_of addressing (Page page) bytes state A0 128 refl read)

  agrees_read : (region : Region) (bytes : List ℕ) → IsWithin memory addressing state.1 region → WasRead addressing region bytes state → map.get copy (key_of region) ≡ Some bytes → Agree copy memory (key_of region)
  agrees_read (Lower dev) bytes is read held =
      lower_agrees dev (left state read.before) bytes (of_after memory state read.before of) (answer_of addressing (Lower dev) bytes state dev 0 refl read) held
  agrees_read FirstPage bytes shows read held =
      let there = bytes_are 0 (left state read.before) bytes (shows_first memory state read.before read.is.1 shows) (answer_of addressing FirstPage bytes state A0 128 refl read) in
      ap (option_map (take 128)) (held ∙ sym there)
  agrees_read (Page page) bytes paged read held = ap (option_map (take 128)) (held ∙ sym (page_was_read page bytes paged read))

  lacks : (page : ℕ) → IsPaged memory addressing page state.1 → 0 < page → Found (λ step before. IsTrue (reads_back addressing 0 step) × WasTaken addressing page before) state →
      map.contains_key memory (page_key page) ≡ true → ⊥
  lacks page paged above out has =
      let there = left state out.before in
      let by = paged.selecting in
      let zeroth = (shows_read_back memory addressing by 0 there out.step out.is.0 out.may.0 (sound_after memory addressing by state out.before paged.sound)).0 in
      let chosen = found_keeps window_conduct (Shows memory page) (always (Shows memory page)) there (shows_chosen memory addressing by page state out.before paged.selectable has of out.may.1 out.is.1) in
      omega (arith, above, zeroth.bank, zeroth.number, chosen.bank, chosen.number)

  agrees_by : (region : Region) (half : Option (List ℕ)) → IsWithin memory addressing state.1 region → map.get copy (key_of region) ≡ half →
      MatchOption half (IsLeftOut false addressing region history) (λ bytes. IsRead false addressing region bytes history) → Agree copy memory (key_of region)
  agrees_by region (Some bytes) is held read = agrees_read region bytes is (found_step _ state history may read) held
  agrees_by (Lower dev) None is held out = absurd out
  agrees_by FirstPage None is held out = absurd out
  agrees_by (Page page) None paged held out =
      let key = page_key page in
      let none : map.get memory key ≡ None = no_half (map.contains_key memory key) (map.get memory key) refl (lacks page paged out.0 (found_step _ state history may out.1)) in
      ap (option_map (take 128)) (held ∙ sym none)

  pub agrees_settled : (region : Region) → IsWithin memory addressing state.1 region → IsSettled false history copy region → Agree copy memory (key_of region)
  agrees_settled region is settled = agrees_by region (map.get copy (key_of region)) is refl settled

  -- of a page that was read the memory has the very bytes
  pub has_settled : (page : ℕ) (bytes : List ℕ) → IsPaged memory addressing page state.1 → IsSettled false history copy (Page page) → map.get copy (page_key page) ≡ Some bytes → map.get memory (page_key page) ≡ Some bytes
  has_settled page bytes paged settled held =
      let read = subst (λ (half : Option (List ℕ)). MatchOption half (IsLeftOut false addressing (Page page) history) (λ bytes. IsRead false addressing (Page page) bytes history)) held settled in
      page_was_read page bytes paged (found_step _ state history may read)

  -- ---- the lower half of A0 comes first

  pub first_settled : (request : Request) → IsImageOf false request history copy → IsSettled false history copy (Lower A0)
  first_settled request is = (subst (AllByRecursion (IsSettled false history copy)) (begins_lower request copy) is.each).0

  pub low_settled : (request : Request) → IsImageOf false request history copy → Agree copy memory (lower_key A0)
  low_settled request is = agrees_settled (Lower A0) tt (first_settled request is)

-- ---- all halves that reports speak of, from a new window

module _ (memory copy : Memory) (state : State) (history : History) (image : IsImage memory) (start : state.1 ≡ started memory) (may : May state history) where
  abbrev by_start : PageAddressing
  by_start = addressing_of copy

  of_start : IsOf memory state.1
  of_start = ap (λ (window : Windowed). window.memory) start

  shows_start : Shows memory 0 state.1
  shows_start = record { memory_is = of_start; bank = ap (λ (window : Windowed). window.selection.bank) start; number = ap (λ (window : Windowed). window.selection.page) start }

  sound_start : IsSound memory by_start state.1
  sound_start = record { memory_is = of_start; bank = bank_of by_start } where
    bank_of : (p : PageAddressing) → IsOfBank p state.1.selection
    bank_of BankAndPage = tt
    bank_of PageAlone = ap (λ (window : Windowed). window.selection.bank) start

  within : selecting_on memory A0 ≡ selecting_of by_start → (region : Region) → CanBeSelected by_start region → IsWithin memory by_start state.1 region
  within by (Lower dev) can = tt
  within by FirstPage can = shows_start
  within by (Page page) can = record { selecting = by; sound = sound_start; selectable = can }

  agrees : (region : Region) → IsWithin memory by_start state.1 region → IsSettled false history copy region → Agree copy memory (key_of region)
  agrees region is settled = agrees_settled memory copy state history image of_start may region is settled

  agree_all : selecting_on memory A0 ≡ selecting_of by_start → (regions : List Region) → AllByRecursion (CanBeSelected by_start) regions → AllByRecursion (IsSettled false history copy) regions → AllByRecursion (Agree copy memory) (map key_of regions)
  agree_all by [] can settled = tt
  agree_all by (region ∷ regions) can settled = (agrees region (within by region can.0) settled.0, agree_all by regions can.1 settled.1)

  agree_lowers : (diagnosed : Bool) → AllByRecursion (IsSettled false history copy) (family_regions everything Sff8472 diagnosed) → AllByRecursion (Agree copy memory) (map key_of (family_regions everything Sff8472 diagnosed))
  agree_lowers true settled = (agrees (Lower A0) tt settled.0, (agrees (Lower A2) tt settled.1.0, tt))
  agree_lowers false settled = (agrees (Lower A0) tt settled.0, tt)

  same_selecting : Agree copy memory (lower_key A0) → is_absent memory (lower_key A0) ≡ false → (family : Option Family) → managed_by (identifier copy) ≡ family → selecting_in family ≡ selecting_of (addressing_in family) →
      selecting_on memory A0 ≡ selecting_of by_start
  same_selecting low there family is right =
      let (half, has) = half_of (map.get memory (lower_key A0)) there in
      let id : identifier copy ≡ slice_index half 0 = same_number copy memory (fields.Cmis cmis.Identifier) low refl refl ∙ identifier_is memory half image has in
      selecting_is memory half has ∙ ap selecting_by (sym id) ∙ ap selecting_in is ∙ right ∙ sym (ap (λ (family : Option Family). selecting_of (addressing_in family)) is)

  -- all but modules of SFF-8472, which are asked for lower halves alone, select pages as they are asked to
  agree_in : Agree copy memory (lower_key A0) → is_absent memory (lower_key A0) ≡ false → (family : Option Family) → managed_by (identifier copy) ≡ family → AllByRecursion (IsSettled false history copy) (regions_in everything family copy) →
      AllByRecursion (Agree copy memory) (map key_of (regions_in everything family copy))
  agree_in low there (Some Sff8472) is settled = agree_lowers (has_diagnostics copy) settled
  agree_in low there other is settled =
      let can = subst (λ (by : PageAddressing). AllByRecursion (CanBeSelected by) (regions_in everything other copy)) (sym (ap addressing_in is)) (can_be_selected everything other copy) in
      agree_all (same_selecting low there other is refl) (regions_in everything other copy) can settled

  halves_agree : IsImageOf false everything history copy → AllAgree copy memory
  halves_agree is =
      let first = first_settled memory copy state history image of_start may everything is in
      let low : Agree copy memory (lower_key A0) = agrees (Lower A0) tt first in
      let present : is_absent copy (lower_key A0) ≡ false = ap not (some_since (map.get copy (lower_key A0)) ⊥ (λ bytes. IsRead false (addressing_of copy) (Lower A0) bytes history) first (λ none. none)) in
      each_agree copy memory (map key_of (regions_of everything copy))
      (agree_in low (sym (same_absent copy memory (lower_key A0) low) ∙ present) (managed_by (identifier copy)) refl is.each)

-- what is read over a scripted bus
pub fetched_agree : (old new : Seen (List Directive × Windowed)) (history : History) (memory copy : Memory) → IsImage memory → old.state.1 ≡ started memory → Ran (script_rules window_conduct) old new (reverse history) →
    AreFetched everything (IsFull new) history (Ok copy) → AllAgree copy memory
fetched_agree old new history memory copy image start ran fetching =
    halves_agree memory copy old.state history image start (may_each (script_rules window_conduct) old.state history ran.allowed) fetching.answered
