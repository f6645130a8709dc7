-- Which stores are requests, and what becomes of one in time.
use Rattle.std.proofs.Common.{◌≡◌, ◌⊎◌, inl, inr, ℕ, zero, suc, ◌+◌, ◌-◌, ◌<◌, ◌≤◌, Bool, true, false, ◌&&◌, ◌==◌, List, [], ◌∷◌, length, Option, Some, None, is_some, refl, ap, subst, ◌∙◌, if◌then◌else◌, arith}
use Rattle.std.proofs.lemmas.Bool.Decides.{nat_tests}
use Rattle.std.specs.Prelude.{option_map}
use Rattle.bus_model.specs.declared.device.Dev.{Dev}
use Rattle.bus_model.specs.declared.device.Dev.TheVariants.{A0, A2}
use Rattle.bus_model.specs.ScriptedBus.{ticked_times}
use Rattle.paged_memory.specs.Images.{Memory}
use Rattle.paged_memory.specs.declared.mapped_page.MappedPage.{MappedPage}
use Rattle.paged_memory.specs.declared.page_addressing.PageAddressing.{PageAddressing}
use Rattle.paged_memory.specs.declared.page_addressing.PageAddressing.TheVariants.{BankAndPage, PageAlone}
use Rattle.paged_memory.specs.MappedPages.{mapped, selected, selecting_on}
use Rattle.paged_memory.specs.Windows.{half_at}
use Rattle.paged_memory.proofs.WindowHistories.{not_126, not_127}
use Rattle.simulated_statistics.specs.declared.module.FreezingModule.{FreezingModule}
use Rattle.simulated_statistics.specs.declared.request.Request.{Request}
use Rattle.simulated_statistics.specs.FreezingModules.{conduct, requested, shows_control, stored, stored_byte, stored_bytes, window_of}
use Rattle.simulated_statistics.specs.Requests.{ticked}

-- ---- what is no request

and_not : (a b : Bool) → b ≡ false → (a && b) ≡ false
and_not true b isnt = isnt
and_not false b isnt = refl

not_144 : (address : ℕ) → (address < 144) ⊎ (144 < address) → (address == 144) ≡ false
not_144 address (inl below) = grind (arith, nat_tests)
not_144 address (inr above) = grind (arith, nat_tests)

no_request : (sim : FreezingModule) (dev : Dev) (address byte : ℕ) → (address < 144) ⊎ (144 < address) → requested sim dev address byte ≡ sim.request
no_request sim dev address byte apart = λ i.
    if and_not (shows_control sim dev) (address == 144) (not_144 address apart) i then Some (record { control = byte; left = sim.delay }) else sim.request

first_apart : (address count : ℕ) → (address + (count + 1) ≤ 144) ⊎ (144 < address) → (address < 144) ⊎ (144 < address)
first_apart address count (inl low) = inl (omega (arith, low))
first_apart address count (inr high) = inr high

rest_apart : (address count : ℕ) → (address + (count + 1) ≤ 144) ⊎ (144 < address) → ((address + 1) + count ≤ 144) ⊎ (144 < address + 1)
rest_apart address count (inl low) = inl (omega (arith, low))
rest_apart address count (inr high) = inr (omega (arith, high))

bytes_apart : (sim : FreezingModule) (dev : Dev) (address : ℕ) (bytes : List ℕ) → (address + length bytes ≤ 144) ⊎ (144 < address) → (stored_bytes sim dev address bytes).request ≡ sim.request
bytes_apart sim dev address [] apart = refl
bytes_apart sim dev address (byte ∷ bytes) apart =
    let more : (address + (length bytes + 1) ≤ 144) ⊎ (144 < address) = subst (λ (n : ℕ). (address + n ≤ 144) ⊎ (144 < address)) (omega arith) apart in
    bytes_apart (stored_byte sim dev address byte) dev (address + 1) bytes (rest_apart address (length bytes) more) ∙ no_request sim dev address byte (first_apart address (length bytes) more)

-- a store asks for nothing if its bytes, where they are taken, don't
by_bytes : (sim : FreezingModule) (dev : Dev) (address : ℕ) (bytes : List ℕ) → (stored_bytes sim dev address bytes).request ≡ sim.request → (stored sim dev address bytes).1.request ≡ sim.request
by_bytes sim dev address bytes same = by_test (is_some (half_at (window_of sim) dev address)) where
  by_test : (b : Bool) → (let given : Bool × FreezingModule = if b then (true, stored_bytes sim dev address bytes) else (false, sim) in given.1.request) ≡ sim.request
  by_test true = same
  by_test false = refl

pub apart_asks_nothing : (sim : FreezingModule) (dev : Dev) (address : ℕ) (bytes : List ℕ) → (address + length bytes ≤ 144) ⊎ (144 < address) → (stored sim dev address bytes).1.request ≡ sim.request
apart_asks_nothing sim dev address bytes apart = by_bytes sim dev address bytes (bytes_apart sim dev address bytes apart)

-- ---- on another page

-- no byte of the upper half selects a page
stays : (how : Option PageAddressing) (memory : Memory) (selection : MappedPage) (address byte : ℕ) → 128 ≤ address → selected how memory selection address byte ≡ selection
stays (Some BankAndPage) memory selection address byte upper = λ i.
    if not_126 address (inr upper) i then record selection { waiting = byte }
    else if not_127 address (inr upper) i then mapped memory selection.waiting byte
    else selection
stays (Some PageAlone) memory selection address byte upper = λ i. if not_127 address (inr upper) i then mapped memory 0 byte else selection
stays None memory selection address byte upper = refl

hidden_still : (sim : FreezingModule) (dev : Dev) (address byte : ℕ) → 128 ≤ address → shows_control sim dev ≡ false → shows_control (stored_byte sim dev address byte) dev ≡ false
hidden_still sim A0 address byte upper hidden =
    ap (λ (s : MappedPage). s.bank == 0 && s.page == 0x2F) (stays (selecting_on sim.image A0) sim.image sim.selection address byte upper) ∙ hidden
hidden_still sim A2 address byte upper hidden = refl

elsewhere : (sim : FreezingModule) (dev : Dev) (address : ℕ) (bytes : List ℕ) → 128 ≤ address → shows_control sim dev ≡ false → (stored_bytes sim dev address bytes).request ≡ sim.request
elsewhere sim dev address [] upper hidden = refl
elsewhere sim dev address (byte ∷ bytes) upper hidden =
    elsewhere (stored_byte sim dev address byte) dev (address + 1) bytes (omega (arith, upper)) (hidden_still sim dev address byte upper hidden)
    ∙ (λ i. if hidden i && address == 144 then Some (record { control = byte; left = sim.delay }) else sim.request)

pub other_page_asks_nothing : (sim : FreezingModule) (dev : Dev) (address : ℕ) (bytes : List ℕ) → 128 ≤ address → shows_control sim dev ≡ false → (stored sim dev address bytes).1.request ≡ sim.request
other_page_asks_nothing sim dev address bytes upper hidden = by_bytes sim dev address bytes (elsewhere sim dev address bytes upper hidden)

-- ---- in time

after_ticks : (sim : FreezingModule) (request : Request) (ticks : ℕ) → sim.request ≡ Some request → (ticked_times conduct ticks sim).request ≡ Some (record request { left = request.left - ticks })
after_ticks sim request zero is = is ∙ ap (λ (n : ℕ). Some (record request { left = n })) (omega arith)
after_ticks sim request (suc ticks) is =
    ap (option_map ticked) (after_ticks sim request ticks is) ∙ ap (λ (n : ℕ). Some (record request { left = n })) (omega arith)

pub done_in_time : (sim : FreezingModule) (control ticks : ℕ) → shows_control sim A0 ≡ true → (stored sim A0 144 (control ∷ [])).0 ≡ true →
    (ticked_times conduct ticks (stored sim A0 144 (control ∷ [])).1).request ≡ Some (record { control = control; left = sim.delay - ticks })
done_in_time sim control ticks shows taken =
    after_ticks (stored sim A0 144 (control ∷ [])).1 (record { control = control; left = sim.delay }) ticks (by_test (is_some (half_at (window_of sim) A0 144)) taken) where
      by_test : (b : Bool) → (let given : Bool × FreezingModule = if b then (true, stored_bytes sim A0 144 (control ∷ [])) else (false, sim) in given.0) ≡ true →
          (let given : Bool × FreezingModule = if b then (true, stored_bytes sim A0 144 (control ∷ [])) else (false, sim) in given.1.request) ≡ Some (record { control = control; left = sim.delay })
      by_test true e = λ i. if shows i && true then Some (record { control = control; left = sim.delay }) else sim.request
      by_test false e = absurd cc
