-- A module that has the halves answers each fetch and takes each store, and shows the page that was selected.
use Rattle.std.proofs.Common.{◌≡◌, ◌⊎◌, inl, inr, ◌<◌, ◌+◌, ◌*◌, ◌/◌, ◌%◌, ◌∷◌, ℕ, suc, zero, Bool, true, false, List, [], Option, Some, None, map, refl, sym, ap, subst, ◌∙◌, arith, nat_lt, if◌then◌else◌}
use Rattle.std.proofs.lemmas.Bool.{lt-ltb}
use Rattle.std.specs.Prelude.{◌==◌, is_some, ◌-◌}
use Rattle.std.specs.FinMap as finmap
use Rattle.std.specs.List.{range_with_len}
use Rattle.bus_model.specs.declared.device.Dev.TheVariants.{A0}
use Rattle.bus_model.specs.declared.operation.Op.{Op}
use Rattle.bus_model.specs.declared.operation.Op.TheVariants.{Fetch, Store}
use Rattle.bus_model.specs.declared.operation.Reply.{Reply}
use Rattle.bus_model.specs.declared.operation.Reply.TheVariants.{Bytes, Done, Refused}
use Rattle.bus_model.specs.Operations.{fetch_reply}
use Rattle.std.specs.Option.{option_map}
use Rattle.bus_model.specs.ScriptedBus.{passed_on, ticked_times}
use Rattle.field_tables.specs.LaneSets.{lanes_in}
use Rattle.field_tables.specs.Registers.{first_byte}
use Rattle.field_tables.specs.declared.field.Register.TheVariants as registers
use Rattle.paged_memory.specs.declared.mapped_page.MappedPage.{MappedPage}
use Rattle.paged_memory.specs.Images.{Memory}
use Rattle.paged_memory.specs.Keys.{lower_key, page_key, upper_key}
use Rattle.paged_memory.specs.MappedPages.{first_page, mapped, shown_key}
use Rattle.paged_memory.specs.declared.page_addressing.KnownPage.TheVariants.{Page, Unknown}
use Rattle.paged_memory.specs.KnownPages.{selection_read}
use Rattle.paged_memory.specs.PageAddressing.{read_selection, selection}
use Rattle.paged_memory.specs.declared.page_addressing.PageAddressing.TheVariants.{BankAndPage}
use Rattle.sim_module.specs.declared.module.SimModule.{SimModule}
use Rattle.sim_module.specs.Applies.{applied, applied_all}
use Rattle.sim_module.specs.Modules.{conduct}
use Rattle.sim_module.specs.Registers.{is_at, is_in}
use Rattle.sim_module.specs.ShownBytes.{cleared, fetched, fetched_from, is_mapped, shown_byte}
use Rattle.sim_module.specs.Stores.{staged_at, stored, stored_byte, stored_bytes, stored_high, stored_low}
use Rattle.sim_module.specs.Ticks.{ticked}
use Rattle.sim_module.proofs.ReadBytes.{shown_selection}
use Rattle.sim_module.proofs.SoundModule.{either, fetched_keeps, stored_keeps}
use Rattle.managed_module.specs.Managed.{HasHalves, HasHalvesOf}

-- ---- it stays so

mapped_if : (image : Memory) (selection : MappedPage) (bank page : ℕ) (there : Bool) → HasHalvesOf image selection → finmap.contains_key image (upper_key A0 bank page) ≡ there
    → HasHalvesOf image (if there then record { bank = bank; page = page; waiting = bank } else first_page)
mapped_if image selection bank page true has e = record { lower = has.lower; first = has.first; control = has.control; status = has.status; selected = e }
mapped_if image selection bank page false has e = record { lower = has.lower; first = has.first; control = has.control; status = has.status; selected = has.first }

choose : {X : Type 0} (P : X → Type 0) (b : Bool) (x y : X) → P x → P y → P (if b then x else y)
choose P true x y p q = p
choose P false x y p q = q

halves_low : (sim : SimModule) (address byte : ℕ) → HasHalves sim → HasHalves (stored_low sim address byte)
halves_low sim address byte has =
    choose (HasHalvesOf sim.image) (address == 126) (record sim.selection { waiting = byte }) (if address == 127 then mapped sim.image sim.selection.waiting byte else sim.selection)
    (record { lower = has.lower; first = has.first; control = has.control; status = has.status; selected = has.selected })
    (choose (HasHalvesOf sim.image) (address == 127) (mapped sim.image sim.selection.waiting byte) sim.selection
    (mapped_if sim.image sim.selection sim.selection.waiting byte (finmap.contains_key sim.image (upper_key A0 sim.selection.waiting byte)) has refl) has)

halves_high : (sim : SimModule) (address byte : ℕ) → HasHalves sim → HasHalves (stored_high sim address byte)
unfolding applied
halves_high sim address byte has =
    let deinit = record sim { deinit = lanes_in byte } in
    let staged = staged_at sim (address - first_byte registers.StagedControl + 1) byte in
    let rest = if is_in registers.StagedControl address then staged else sim in
    either HasHalves (is_at registers.DPDeinit address) deinit (if is_at registers.ApplyDPInit address then applied sim (lanes_in byte) else rest) has
    (either HasHalves (is_at registers.ApplyDPInit address) (applied sim (lanes_in byte)) rest
    (either HasHalves _ sim (applied_all sim (lanes_in byte)) has has)
    (either HasHalves (is_in registers.StagedControl address) staged sim has has))

halves_byte : (sim : SimModule) (address byte : ℕ) → HasHalves sim → HasHalves (stored_byte sim address byte)
unfolding stored_byte
halves_byte sim address byte has =
    let next = if is_mapped sim 0x10 then stored_high sim address byte else sim in
    either HasHalves (nat_lt address 128) (stored_low sim address byte) next (halves_low sim address byte has)
    (either HasHalves (is_mapped sim 0x10) (stored_high sim address byte) sim (halves_high sim address byte has) has)

halves_bytes : (sim : SimModule) (address : ℕ) (bytes : List ℕ) → HasHalves sim → HasHalves (stored_bytes sim address bytes)
halves_bytes sim address [] has = has
halves_bytes sim address (byte ∷ bytes) has = halves_bytes (stored_byte sim address byte) (address + 1) bytes (halves_byte sim address byte has)

halves_cleared : (sim : SimModule) (is_read : ℕ → Bool) → HasHalves sim → HasHalves (cleared sim is_read)
unfolding cleared
halves_cleared sim is_read has = has

pub halves_ticked : (sim : SimModule) → HasHalves sim → HasHalves (ticked sim)
unfolding ticked
halves_ticked sim has = has

pub halves_paused : (count : ℕ) (sim : SimModule) → HasHalves sim → HasHalves (ticked_times conduct count sim)
halves_paused zero sim has = has
halves_paused (suc count) sim has = halves_ticked (ticked_times conduct count sim) (halves_paused count sim has)

pub halves_passed : (op : Op) (sim : SimModule) → HasHalves sim → HasHalves (passed_on conduct op sim).1
halves_passed (Fetch dev address count) sim has = fetched_keeps HasHalves sim dev address count has (halves_cleared sim _ has)
halves_passed (Store dev address bytes) sim has = stored_keeps HasHalves sim dev address bytes.items has (halves_bytes sim address bytes.items has)

-- ---- it answers

has_key : (sim : SimModule) (address : ℕ) → HasHalves sim → finmap.contains_key sim.image (shown_key A0 sim.selection address) ≡ true
has_key sim address has = by (nat_lt address 128) where
  by : (low : Bool) → finmap.contains_key sim.image (if low then lower_key A0 else upper_key A0 sim.selection.bank sim.selection.page) ≡ true
  by true = has.lower
  by false = has.selected

abbrev fetch_given : Option (List ℕ) → Reply
fetch_given found = fetch_reply (option_map (λ bytes. record { items = bytes }) found)

abbrev taken_if : Bool → Reply
taken_if taken = if taken then Done else Refused

abbrev stored_if : SimModule → ℕ → List ℕ → Bool → Bool × SimModule
stored_if sim address bytes there = if there then (true, stored_bytes sim address bytes) else (false, sim)

found_of : (found : Option (List ℕ)) → is_some found ≡ true → (page : List ℕ) × (found ≡ Some page)
found_of None e = absurd (let same = e in cc)
found_of (Some page) e = (page, refl)

-- the bytes are those that are shown of the half of the image that is mapped
pub reads_mapped : (sim : SimModule) (address count : ℕ) → HasHalves sim
    → (page : List ℕ) × (finmap.get sim.image (shown_key A0 sim.selection address) ≡ Some page)
    × ((passed_on conduct (Fetch A0 address count) sim).0 ≡ Bytes (record { items = map (shown_byte sim page) (range_with_len address count) }))
unfolding fetched
reads_mapped sim address count has =
    let (page, is) = found_of (finmap.get sim.image (shown_key A0 sim.selection address)) (has_key sim address has) in
    (page, is, ap (λ (found : Option (List ℕ)). fetch_given (fetched_from sim address count found).0) is)

pub reads_half : (sim : SimModule) (address count : ℕ) → HasHalves sim
    → (page : List ℕ) × ((passed_on conduct (Fetch A0 address count) sim).0 ≡ Bytes (record { items = map (shown_byte sim page) (range_with_len address count) }))
reads_half sim address count has = let (page, there, reads) = reads_mapped sim address count has in (page, reads)

-- and a store is made whole
pub stores_half : (sim : SimModule) (address : ℕ) (bytes : List ℕ) → HasHalves sim → (passed_on conduct (Store A0 address (record { items = bytes })) sim).1 ≡ stored_bytes sim address bytes
unfolding stored
stores_half sim address bytes has = ap (λ (there : Bool). (stored_if sim address bytes there).1) (has_key sim address has)

pub answers_fetch : (sim : SimModule) (address count : ℕ) → HasHalves sim → (bytes : List ℕ) × ((passed_on conduct (Fetch A0 address count) sim).0 ≡ Bytes (record { items = bytes }))
unfolding fetched
answers_fetch sim address count has =
    let (page, is) = found_of (finmap.get sim.image (shown_key A0 sim.selection address)) (has_key sim address has) in (
      map (shown_byte sim page) (range_with_len address count),
      ap (λ (found : Option (List ℕ)). fetch_given (fetched_from sim address count found).0) is,
    )

pub takes_store : (sim : SimModule) (address : ℕ) (bytes : List ℕ) → HasHalves sim → (passed_on conduct (Store A0 address (record { items = bytes })) sim).0 ≡ Done
unfolding stored
takes_store sim address bytes has = ap (λ (there : Bool). taken_if (stored_if sim address bytes there).0) (has_key sim address has)

-- what the selection reads as
pub reads_back : (sim : SimModule) → HasHalves sim → (passed_on conduct (read_selection BankAndPage) sim).0 ≡ Bytes (record { items = sim.selection.bank ∷ sim.selection.page ∷ [] })
unfolding fetched
reads_back sim has =
    let (page, is) = found_of (finmap.get sim.image (shown_key A0 sim.selection 126)) (has_key sim 126 has) in
    ap (λ (found : Option (List ℕ)). fetch_given (fetched_from sim 126 2 found).0) is ∙ ap (λ (bytes : List ℕ). Bytes (record { items = bytes })) (shown_selection sim page)

-- the page that is shown once this one was selected
abbrev mapped_in : Memory → ℕ → MappedPage
mapped_in image page = mapped image (page / 256) (page % 256)

-- a selection selects the page, or page 00h if the image lacks it
stored_selection : (sim : SimModule) (page : ℕ) → (stored_bytes sim 126 (page / 256 ∷ page % 256 ∷ [])).selection ≡ mapped_in sim.image page
unfolding stored_byte
stored_selection sim page = refl

stored_image : (sim : SimModule) (page : ℕ) → (stored_bytes sim 126 (page / 256 ∷ page % 256 ∷ [])).image ≡ sim.image
unfolding stored_byte
stored_image sim page = refl

ticked_selection : (sim : SimModule) → (ticked sim).selection ≡ sim.selection
unfolding ticked
ticked_selection sim = refl

ticked_image : (sim : SimModule) → (ticked sim).image ≡ sim.image
unfolding ticked
ticked_image sim = refl

abbrev pub IsSelected : SimModule → ℕ → Type 0
IsSelected sim page = sim.selection ≡ mapped_in sim.image page

pub selected_ticked : (sim : SimModule) (page : ℕ) → IsSelected sim page → IsSelected (ticked sim) page
unfolding ticked
selected_ticked sim page is = is

pub selected_paused : (count : ℕ) (sim : SimModule) (page : ℕ) → IsSelected sim page → IsSelected (ticked_times conduct count sim) page
selected_paused zero sim page is = is
selected_paused (suc count) sim page is = selected_ticked (ticked_times conduct count sim) page (selected_paused count sim page is)

pub selects : (sim : SimModule) (page : ℕ) → HasHalves sim → IsSelected (ticked (passed_on conduct (selection BankAndPage page) sim).1) page
unfolding stored
selects sim page has =
    selected_ticked (passed_on conduct (selection BankAndPage page) sim).1 page
    (subst (λ (there : Bool). IsSelected (stored_if sim 126 (page / 256 ∷ page % 256 ∷ []) there).1 page) (sym (has_key sim 126 has))
    (stored_selection sim page ∙ ap (λ (image : Memory). mapped_in image page) (sym (stored_image sim page))))

-- ---- which page is shown after a selection

mapped_by : (image : Memory) (page : ℕ) (there : Bool) → finmap.contains_key image (upper_key A0 0 0x00) ≡ true → finmap.contains_key image (page_key page) ≡ there
    → (mapped_in image page ≡ record { bank = page / 256; page = page % 256; waiting = page / 256 }) ⊎ ((mapped_in image page ≡ first_page) × (0 < page))
mapped_by image page true first e = inl (ap (λ (there : Bool). if there then record { bank = page / 256; page = page % 256; waiting = page / 256 } else first_page) e)
mapped_by image zero false first e = absurd (let same : true ≡ false = sym first ∙ e in cc)
mapped_by image (suc page) false first e =
    inr (ap (λ (there : Bool). if there then record { bank = suc page / 256; page = suc page % 256; waiting = suc page / 256 } else first_page) e, omega arith)

abbrev pub shown : SimModule → List ℕ
shown sim = sim.selection.bank ∷ sim.selection.page ∷ []

abbrev shown_by : MappedPage → List ℕ
shown_by selection = selection.bank ∷ selection.page ∷ []

pub shows_selected : (sim : SimModule) (page : ℕ) → HasHalves sim → IsSelected sim page → (shown sim ≡ page / 256 ∷ page % 256 ∷ []) ⊎ ((shown sim ≡ 0 ∷ 0 ∷ []) × (0 < page))
shows_selected sim page has is = by (mapped_by sim.image page (finmap.contains_key sim.image (page_key page)) has.first refl) where
  by : (mapped_in sim.image page ≡ record { bank = page / 256; page = page % 256; waiting = page / 256 }) ⊎ ((mapped_in sim.image page ≡ first_page) × (0 < page)) → (shown sim ≡ page / 256 ∷ page % 256 ∷ []) ⊎ ((shown sim ≡ 0 ∷ 0 ∷ []) × (0 < page))
  by (inl e) = inl (ap shown_by (is ∙ e))
  by (inr (e, positive)) = inr (ap shown_by (is ∙ e), positive)

pub shows_there : (sim : SimModule) (page : ℕ) → finmap.contains_key sim.image (page_key page) ≡ true → IsSelected sim page → shown sim ≡ page / 256 ∷ page % 256 ∷ []
shows_there sim page there is = ap shown_by (is ∙ ap (λ (there : Bool). if there then record { bank = page / 256; page = page % 256; waiting = page / 256 } else first_page) there)

-- its number is read back
pub reads_number : (page : ℕ) → selection_read BankAndPage (page / 256 ∷ page % 256 ∷ []) ≡ Page page
reads_number page =
    let byte : page % 256 < 256 = omega arith in
    let whole : 256 * (page / 256) + page % 256 ≡ page = omega arith in
    ap (λ (b : Bool). if b then Page (256 * (page / 256) + page % 256) else Unknown) (lt-ltb (page % 256) 256 byte) ∙ ap (λ (n : ℕ). Page n) whole
