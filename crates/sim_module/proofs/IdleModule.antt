-- While page 10h is out of reach and no apply is in progress, what is active stays.
use Rattle.std.proofs.Common.{◌≡◌, ◌⊎◌, inl, inr, ℕ, zero, suc, ◌+◌, ◌-◌, ◌/◌, ◌%◌, ◌<◌, ◌≤◌, Bool, true, false, List, [], ◌∷◌, length, take, refl, ap, sym, subst, ◌∙◌, ◌==◌, ◌&&◌, if◌then◌else◌, nat_lt, arith}
use Rattle.std.specs.FinMap as finmap
use Rattle.std.proofs.lemmas.Bool.Decides.{nat_tests}
use Rattle.bus_model.specs.declared.device.Dev.{Dev}
use Rattle.bus_model.specs.declared.device.Dev.TheVariants.{A0, A2}
use Rattle.field_tables.specs.LaneSets.{lanes_in}
use Rattle.paged_memory.specs.Keys.{upper_key}
use Rattle.sim_module.specs.declared.module.SimModule.{SimModule}
use Rattle.paged_memory.specs.declared.mapped_page.MappedPage.{MappedPage}
use Rattle.paged_memory.specs.MappedPages.{first_page, mapped}
use Rattle.sim_module.specs.Ticks.{pinned, ticked}
use Rattle.sim_module.specs.Applies.{applied, applied_all}
use Rattle.sim_module.specs.ShownBytes.{cleared, fetched, is_mapped}
use Rattle.sim_module.specs.Stores.{staged_at, stored_byte, stored_bytes, stored_high, stored_low}
use Rattle.sim_module.specs.Registers.{is_at, is_from, is_in}
use Rattle.sim_module.specs.ActiveSets.{IsAtRest}
use Rattle.sim_module.specs.Modules.{conduct}
use Rattle.control_sets.specs.OutcomeOperations.{CoversSelection}
use Rattle.bus_model.specs.declared.operation.Op.{Op}
use Rattle.bus_model.specs.declared.operation.Op.TheVariants.{Fetch, Store}
use Rattle.bus_model.specs.Keeping.{IsKeptBy, IsKeptInTime}
use Rattle.std.proofs.lemmas.Bool.{cases_lt}
use Rattle.field_tables.specs.declared.field.Register.TheVariants as registers
use Rattle.field_tables.specs.Registers.{first_byte}
use Rattle.bus_model.proofs.Histories.{AnyPin}
use Rattle.sim_module.proofs.RestingModule.{rest_lanes, rest_tick, take_fewer}
use Rattle.sim_module.proofs.SoundModule.{either, fetched_keeps, kept_by_other, stored_keeps}

-- a page is mapped
pub record Shows (page : ℕ) (sim : SimModule) : Type 0 where
  pub bank : sim.selection.bank ≡ page / 256
  pub number : sim.selection.page ≡ page % 256

pub high_test : (address : ℕ) → 128 ≤ address → nat_lt address 128 ≡ false
high_test address high = grind (arith, nat_tests)

low_test : (address : ℕ) → address < 126 → nat_lt address 128 ≡ true
low_test address below = grind (arith, nat_tests)

shows_high : (page : ℕ) (sim : SimModule) (address byte : ℕ) → Shows page sim → Shows page (stored_high sim address byte)
unfolding applied
shows_high page sim address byte shows =
    let deinit = record sim { deinit = lanes_in byte } in
    let staged = staged_at sim (address - first_byte registers.StagedControl + 1) byte in
    let rest = if is_in registers.StagedControl address then staged else sim in
    either (Shows page) (is_at registers.DPDeinit address) deinit (if is_at registers.ApplyDPInit address then applied sim (lanes_in byte) else rest) (record { bank = shows.bank; number = shows.number })
    (either (Shows page) (is_at registers.ApplyDPInit address) (applied sim (lanes_in byte)) rest
    (either (Shows page) _ sim (applied_all sim (lanes_in byte)) shows (record { bank = shows.bank; number = shows.number }))
    (either (Shows page) (is_in registers.StagedControl address) staged sim (record { bank = shows.bank; number = shows.number }) shows))

-- an address that neither BankSelect nor PageSelect has
low_tests : (address : ℕ) → address < 126 → ((address == 126) ≡ false) × ((address == 127) ≡ false)
low_tests address below = (grind (arith, nat_tests), grind (arith, nat_tests))

same_selection : (sim : SimModule) (address byte : ℕ) → address < 126 → (stored_low sim address byte).selection ≡ sim.selection
same_selection sim address byte below =
    let rest = if address == 127 then mapped sim.image sim.selection.waiting byte else sim.selection in
    ap (λ (b : Bool). if b then record sim.selection { waiting = byte } else rest) (low_tests address below).0
    ∙ ap (λ (b : Bool). if b then mapped sim.image sim.selection.waiting byte else sim.selection) (low_tests address below).1

shows_low : (page : ℕ) (sim : SimModule) (address byte : ℕ) → address < 126 → Shows page sim → Shows page (stored_low sim address byte)
shows_low page sim address byte below shows = record {
  bank = ap (λ (s : MappedPage). s.bank) (same_selection sim address byte below) ∙ shows.bank;
  number = ap (λ (s : MappedPage). s.page) (same_selection sim address byte below) ∙ shows.number;
}

-- outside of BankSelect and PageSelect
abbrev IsApart : ℕ → Type 0
IsApart address = (address < 126) ⊎ (128 ≤ address)

shows_byte : (page : ℕ) (sim : SimModule) (address byte : ℕ) → IsApart address → Shows page sim → Shows page (stored_byte sim address byte)
unfolding stored_byte
shows_byte page sim address byte (inl below) shows =
    let next = if is_mapped sim 0x10 then stored_high sim address byte else sim in
    subst (λ (low : Bool). Shows page (if low then stored_low sim address byte else next)) (sym (low_test address below)) (shows_low page sim address byte below shows)
shows_byte page sim address byte (inr high) shows =
    let next = if is_mapped sim 0x10 then stored_high sim address byte else sim in
    subst (λ (low : Bool). Shows page (if low then stored_low sim address byte else next)) (sym (high_test address high))
    (either (Shows page) (is_mapped sim 0x10) (stored_high sim address byte) sim (shows_high page sim address byte shows) shows)

shows_bytes : (page : ℕ) (sim : SimModule) (address : ℕ) (bytes : List ℕ) → (address + length bytes ≤ 126) ⊎ (128 ≤ address) → Shows page sim → Shows page (stored_bytes sim address bytes)
shows_bytes page sim address [] apart shows = shows
shows_bytes page sim address (byte ∷ bytes) (inl low) shows =
    let below : address < 126 = omega (arith, low) in
    let more : address + 1 + length bytes ≤ 126 = omega (arith, low) in
    shows_bytes page (stored_byte sim address byte) (address + 1) bytes (inl more) (shows_byte page sim address byte (inl below) shows)
shows_bytes page sim address (byte ∷ bytes) (inr high) shows =
    shows_bytes page (stored_byte sim address byte) (address + 1) bytes (inr (omega (arith, high))) (shows_byte page sim address byte (inr high) shows)

pub shows_kept : (page : ℕ) → IsKeptInTime conduct AnyPin (Shows page)
unfolding ticked
shows_kept page = record {
  tick = λ sim shows. record { bank = shows.bank; number = shows.number };
  low_power_pin = λ sim on allowed shows. record { bank = shows.bank; number = shows.number };
}

shows_cleared : (page : ℕ) (sim : SimModule) (is_read : ℕ → Bool) → Shows page sim → Shows page (cleared sim is_read)
unfolding cleared
shows_cleared page sim is_read shows = record { bank = shows.bank; number = shows.number }

pub shows_fetched : (page : ℕ) (sim : SimModule) (dev : Dev) (address count : ℕ) → Shows page sim → Shows page (fetched sim dev address count).1
shows_fetched page sim dev address count shows = fetched_keeps (Shows page) sim dev address count shows (shows_cleared page sim (is_from address count) shows)

apart_from : (address : ℕ) (bytes : List ℕ) → (address < 128 → 126 < address + length bytes → ⊥) → (address + length bytes ≤ 126) ⊎ (128 ≤ address)
apart_from address bytes leaves =
    elim (cases_lt address 128) [
      | inr high ↦ inr high
      | inl below ↦ elim (cases_lt 126 (address + length bytes)) [
        | inl over ↦ absurd (leaves below over)
        | inr under ↦ inl under
      ]
    ]

cut_apart : (k address : ℕ) (bytes : List ℕ) → (address + length bytes ≤ 126) ⊎ (128 ≤ address) → (address + length (take k bytes) ≤ 126) ⊎ (128 ≤ address)
cut_apart k address bytes (inl low) = inl (omega (arith, low, take_fewer k bytes))
cut_apart k address bytes (inr high) = inr high

-- a page that is mapped stays so, while no store covers the selection
pub shows_by : (page : ℕ) (op : Op) → ¬ (CoversSelection op) → IsKeptBy conduct (Shows page) op
shows_by page (Fetch dev address count) leaves = λ sim shows. shows_fetched page sim dev address count shows
shows_by page (Store A0 address bytes) leaves =
    let apart = apart_from address bytes.items (λ below over. leaves (below, over)) in (
      λ sim shows. stored_keeps (Shows page) sim A0 address bytes.items shows (shows_bytes page sim address bytes.items apart shows),
      λ sim k shows. stored_keeps (Shows page) sim A0 address (take k bytes.items) shows (shows_bytes page sim address (take k bytes.items) (cut_apart k address bytes.items apart) shows),
    )
shows_by page (Store A2 address bytes) leaves = kept_by_other (Shows page) address bytes

-- page 10h isn't mapped, no apply is in progress, and these bytes are active
pub record IsIdle (control : List ℕ) (sim : SimModule) : Type 0 where
  pub off : is_mapped sim 0x10 ≡ false
  pub rest : IsAtRest control sim

-- of a module that differs in other things than lanes
idle_lanes : (control : List ℕ) (sim other : SimModule) → is_mapped other 0x10 ≡ false → other.lanes ≡ sim.lanes → IsIdle control sim → IsIdle control other
idle_lanes control sim other off same idle = record { off = off; rest = rest_lanes control sim other same idle.rest }

idle_tick : (control : List ℕ) (sim : SimModule) → IsIdle control sim → IsIdle control (ticked sim)
unfolding ticked
idle_tick control sim idle = record { off = idle.off; rest = rest_tick control sim idle.rest }

pub idle_kept : (control : List ℕ) → IsKeptInTime conduct AnyPin (IsIdle control)
idle_kept control = record { tick = idle_tick control; low_power_pin = λ sim on allowed idle. idle_lanes control sim (pinned sim on) idle.off refl idle }

idle_cleared : (control : List ℕ) (sim : SimModule) (is_read : ℕ → Bool) → IsIdle control sim → IsIdle control (cleared sim is_read)
unfolding cleared
idle_cleared control sim is_read idle = idle_lanes control sim (cleared sim is_read) idle.off refl idle

pub idle_fetched : (control : List ℕ) (sim : SimModule) (dev : Dev) (address count : ℕ) → IsIdle control sim → IsIdle control (fetched sim dev address count).1
idle_fetched control sim dev address count idle = fetched_keeps (IsIdle control) sim dev address count idle (idle_cleared control sim (is_from address count) idle)

-- a byte for the upper half changes nothing
high_byte : (sim : SimModule) (address byte : ℕ) → 128 ≤ address → is_mapped sim 0x10 ≡ false → stored_byte sim address byte ≡ sim
unfolding stored_byte
high_byte sim address byte high off =
    let next = if is_mapped sim 0x10 then stored_high sim address byte else sim in
    ap (λ (low : Bool). if low then stored_low sim address byte else next) (high_test address high)
    ∙ ap (λ (on : Bool). if on then stored_high sim address byte else sim) off

idle_high : (control : List ℕ) (sim : SimModule) (address : ℕ) (bytes : List ℕ) → 128 ≤ address → IsIdle control sim → IsIdle control (stored_bytes sim address bytes)
idle_high control sim address [] high idle = idle
idle_high control sim address (byte ∷ bytes) high idle =
    idle_high control (stored_byte sim address byte) (address + 1) bytes (omega (arith, high)) (subst (IsIdle control) (sym (high_byte sim address byte high idle.off)) idle)

-- the selection of page 11h, and its parts
idle_bank : (control : List ℕ) (sim : SimModule) → IsIdle control sim → IsIdle control (stored_byte sim 126 0)
unfolding stored_byte
idle_bank control sim idle = idle_lanes control sim (stored_byte sim 126 0) idle.off refl idle

idle_page : (control : List ℕ) (sim : SimModule) → sim.selection.waiting ≡ 0 → IsIdle control sim → IsIdle control (stored_byte sim 127 0x11)
unfolding stored_byte
idle_page control sim zeroth idle =
    let there : MappedPage = record { bank = sim.selection.waiting; page = 0x11; waiting = sim.selection.waiting } in
    let off : is_mapped (stored_low sim 127 0x11) 0x10 ≡ false =
    either (λ (selection : MappedPage). (selection.bank == 0 && selection.page == 0x10) ≡ false) (finmap.contains_key sim.image (upper_key A0 sim.selection.waiting 0x11)) there first_page (ap (λ (n : ℕ). n == 0 && false) zeroth) refl in
    idle_lanes control sim (stored_byte sim 127 0x11) off refl idle

waits : (sim : SimModule) → (stored_byte sim 126 0).selection.waiting ≡ 0
unfolding stored_byte
waits sim = refl

idle_selected : (control : List ℕ) (sim : SimModule) (k : ℕ) → IsIdle control sim → IsIdle control (stored_bytes sim 126 (take k (0 ∷ 0x11 ∷ [])))
idle_selected control sim zero idle = idle
idle_selected control sim (suc zero) idle = idle_bank control sim idle
idle_selected control sim (suc (suc zero)) idle = idle_page control (stored_byte sim 126 0) (waits sim) (idle_bank control sim idle)
idle_selected control sim (suc (suc (suc k))) idle = idle_page control (stored_byte sim 126 0) (waits sim) (idle_bank control sim idle)

-- what such a store keeps, whole or cut
idle_store : (control : List ℕ) (address : ℕ) (bytes : List ℕ) → (128 ≤ address) ⊎ ((address ≡ 126) × (bytes ≡ 0 ∷ 0x11 ∷ [])) → (sim : SimModule) → IsIdle control sim →
    IsIdle control (stored_bytes sim address bytes) × ((k : ℕ) → IsIdle control (stored_bytes sim address (take k bytes)))
idle_store control address bytes (inl high) sim idle = (idle_high control sim address bytes high idle, λ k. idle_high control sim address (take k bytes) high idle)
idle_store control address bytes (inr selects) sim idle =
    let both : IsIdle control (stored_bytes sim 126 (0 ∷ 0x11 ∷ [])) × ((k : ℕ) → IsIdle control (stored_bytes sim 126 (take k (0 ∷ 0x11 ∷ [])))) = (idle_selected control sim 2 idle, λ k. idle_selected control sim k idle) in
    let at_address : IsIdle control (stored_bytes sim address (0 ∷ 0x11 ∷ [])) × ((k : ℕ) → IsIdle control (stored_bytes sim address (take k (0 ∷ 0x11 ∷ []))))
    = subst (λ (a : ℕ). IsIdle control (stored_bytes sim a (0 ∷ 0x11 ∷ [])) × ((k : ℕ) → IsIdle control (stored_bytes sim a (take k (0 ∷ 0x11 ∷ []))))) (sym selects.0) both in
    subst (λ (bs : List ℕ). IsIdle control (stored_bytes sim address bs) × ((k : ℕ) → IsIdle control (stored_bytes sim address (take k bs)))) (sym selects.1) at_address

-- a store on device A0 is in the upper half, or selects page 11h
abbrev pub MapsNoControls : Op → Type 0
MapsNoControls (Store A0 address bytes) = (128 ≤ address) ⊎ ((address ≡ 126) × (bytes.items ≡ 0 ∷ 0x11 ∷ []))
MapsNoControls (Store A2 address bytes) = Unit {0}
MapsNoControls (Fetch dev address count) = Unit {0}

-- a store in the upper half, or a selection of page 11h, whole or cut
pub idle_by : (control : List ℕ) (op : Op) → MapsNoControls op → IsKeptBy conduct (IsIdle control) op
idle_by control (Fetch dev address count) maps = λ sim idle. idle_fetched control sim dev address count idle
idle_by control (Store A0 address bytes) maps = (
  λ sim idle. stored_keeps (IsIdle control) sim A0 address bytes.items idle (idle_store control address bytes.items maps sim idle).0,
  λ sim k idle. stored_keeps (IsIdle control) sim A0 address (take k bytes.items) idle ((idle_store control address bytes.items maps sim idle).1 k),
)
idle_by control (Store A2 address bytes) maps = kept_by_other (IsIdle control) address bytes
