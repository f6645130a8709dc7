-- What a run on a scripted bus does to a window behind it.
use Rattle.std.proofs.Common.{◌≡◌, ℕ, Bool, true, false, List, [], ◌∷◌, take, Option, Some, None, refl, ap, subst, ◌∙◌}
use Rattle.std.specs.Prelude.{fold, is_some, option_map, if◌then◌else◌}
use Rattle.arrayvec.specs.ArrayVec.{ArrayVec}
use Rattle.bus_model.specs.declared.device.Dev.{Dev}
use Rattle.bus_model.specs.declared.device.Dev.TheVariants.{A0}
use Rattle.bus_model.specs.declared.operation.Step.{Step}
use Rattle.bus_model.specs.declared.script.Directive.{Directive}
use Rattle.bus_model.specs.Keeping.{IsKeptInTime}
use Rattle.bus_model.specs.Operations.{fetch_step, store_step}
use Rattle.bus_model.specs.Runs.{Seen, Ran, MayInTurn}
use Rattle.bus_model.specs.ScriptedBus.{settled, script_rules}
use Rattle.bus_model.proofs.Histories.{AnyPin}
use Rattle.bus_model.proofs.ScriptRuns.{all_allow, settled_keeps, step_keeps, fetched_at}
use Rattle.paged_memory.specs.declared.mapped_page.MappedPage.{MappedPage}
use Rattle.paged_memory.specs.declared.page_addressing.PageAddressing.{PageAddressing}
use Rattle.paged_memory.specs.declared.page_addressing.PageAddressing.TheVariants.{BankAndPage, PageAlone}
use Rattle.paged_memory.specs.MappedPages.{selecting_on, selected_in_turn}
use Rattle.paged_memory.specs.Windows.{Windowed, bytes_from, half_at, window_stored, window_conduct}

pub same_memory : (window : Windowed) (dev : Dev) (address : ℕ) (bytes : List ℕ) → (window_stored window dev address bytes).1.memory ≡ window.memory
same_memory window dev address bytes =
    let taken : Windowed = record window { selection = selected_in_turn (selecting_on window.memory dev) window.memory window.selection address bytes } in
    elim (is_some (half_at window dev address)) as (λ b. (let given : Bool × Windowed = if b then (true, taken) else (false, window) in given.1.memory) ≡ window.memory) [ true ↦ refl | false ↦ refl ]

-- the module's pages are selected by bank and page
abbrev pub IsByBank : Windowed → Type 0
IsByBank window = selecting_on window.memory A0 ≡ (Some BankAndPage)

-- time and the pin leave a window as it is
pub always : (P : Windowed → Type 0) → IsKeptInTime window_conduct AnyPin P
always P = record { tick = λ window holds. holds; low_power_pin = λ window on pin holds. holds }

by_store : (bytes : List ℕ) (window : Windowed) → IsByBank window → IsByBank (window_stored window A0 126 bytes).1
by_store bytes window holds = rw (same_memory window A0 126 bytes) holds

pub shown_two : (selecting : Option PageAddressing) (selection : MappedPage) (half : Option (List ℕ)) (bytes : List ℕ) → selecting ≡ (Some BankAndPage)
    → option_map (bytes_from selecting selection 126 2) half ≡ Some bytes → bytes ≡ selection.bank ∷ selection.page ∷ []
shown_two (Some BankAndPage) selection None bytes is same = absurd cc
shown_two (Some BankAndPage) selection (Some half) bytes is same = cc
shown_two (Some PageAlone) selection half bytes is same = absurd cc
shown_two None selection half bytes is same = absurd cc

-- what a bank and a page are read back as after a store of both is what the window then has selected
pub read_back : (old new : Seen (List Directive × Windowed)) (made : List Step) (page : ℕ) (taken : Bool) (bytes : ArrayVec ℕ)
    → IsByBank old.state.1 → Ran (script_rules window_conduct) old new made
    → made ≡ store_step A0 126 (0 ∷ page ∷ []) taken ∷ fetch_step A0 126 2 (Some bytes) ∷ []
    → bytes.items ≡ new.state.1.selection.bank ∷ new.state.1.selection.page ∷ []
read_back old new made page taken bytes by_bank ran steps =
    let rules = script_rules window_conduct in
    let written = store_step A0 126 (0 ∷ page ∷ []) taken in
    let read = fetch_step A0 126 2 (Some bytes) in
    let may = subst (MayInTurn rules old.state) steps ran.allowed in
    let mid = rules.after old.state written in
    let mid_by_bank = step_keeps window_conduct AnyPin IsByBank (always IsByBank) written.op (λ window. by_store (0 ∷ page ∷ []) window, λ window kept. by_store (take kept (0 ∷ page ∷ [])) window) old.state (all_allow old.state.0) by_bank in
    let before = (settled window_conduct mid.0 mid.1).1 in
    let before_by_bank = settled_keeps window_conduct AnyPin IsByBank (always IsByBank) mid.0 (all_allow mid.0) mid.1 mid_by_bank in
    let fetched = fetched_at window_conduct A0 126 2 bytes mid may.1.0 in
    let last : new.state ≡ rules.after mid read = ran.state ∙ ap (fold rules.after old.state) steps in
    let same : new.state.1 ≡ before = ap (λ (state : List Directive × Windowed). state.1) last ∙ fetched.left in
    rw same (shown_two (selecting_on before.memory A0) before.selection (half_at before A0 126) bytes.items before_by_bank fetched.answer)
