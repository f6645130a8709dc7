-- What steps on a scripted bus make of the module, they make of a window of its image; and which page the window then shows is read as
-- the image has it. Steps stand with the newest first.
use Rattle.std.proofs.Common.{◌≡◌, ◌≢◌, ◌⊎◌, inl, inr, ℕ, zero, suc, ◌+◌, ◌/◌, ◌%◌, ◌<◌, ◌≤◌, nat_le, nat_lt, arith, length, Bool, true, false, not, ◌&&◌, ◌||◌, ◌==◌, List, [], ◌∷◌, take, reverse, Option, Some, None, refl, sym, ap, subst, ◌∙◌, if◌then◌else◌}
use Rattle.std.proofs.lemmas.Bool.{cases_lt, eqb-true}
use Rattle.std.proofs.lemmas.Bool.Decides.{nat_tests}
use Rattle.std.proofs.lemmas.List.{length-take}
use Rattle.std.specs.List.{AllByRecursion}
use Rattle.std.specs.Prelude.{option_map}
use Rattle.std.specs.FinMap as finmap
use Rattle.arrayvec.specs.ArrayVec.{ArrayVec}
use Rattle.bus_model.specs.declared.device.Dev.TheVariants.{A0}
use Rattle.bus_model.specs.declared.operation.Op.{Op}
use Rattle.bus_model.specs.declared.operation.Op.TheVariants.{Fetch, Store}
use Rattle.bus_model.specs.declared.operation.Reply.{Reply}
use Rattle.bus_model.specs.declared.operation.Step.{Step}
use Rattle.bus_model.specs.declared.script.Directive.{Directive}
use Rattle.bus_model.specs.declared.script.Directive.TheVariants.{Pass, Nack, Cut, Tick, LowPower}
use Rattle.bus_model.specs.Keeping.{IsKeptBy, IsKeptInTime}
use Rattle.bus_model.specs.Operations.{fetch_reply, fetch_step}
use Rattle.bus_model.specs.Runs.{MayInTurn}
use Rattle.bus_model.specs.SameOperation.{same_op}
use Rattle.bus_model.specs.Scripts.{spent}
use Rattle.bus_model.specs.ScriptedBus.{given, obeyed, passed_on, script_rules, settled, ticked_times, transacted}
use Rattle.bus_model.proofs.Histories.{AnyPin, MayEach, after, found_keeps, may_each, steps_keep}
use Rattle.bus_model.proofs.SameOperations.{ops_are}
use Rattle.bus_model.proofs.ScriptRuns.{fetched_at}
use Rattle.paged_memory.specs.declared.mapped_page.MappedPage.{MappedPage}
use Rattle.paged_memory.specs.declared.page_addressing.PageAddressing.{PageAddressing}
use Rattle.paged_memory.specs.declared.page_addressing.PageAddressing.TheVariants.{BankAndPage, PageAlone}
use Rattle.paged_memory.specs.Images.{Memory}
use Rattle.paged_memory.specs.ImageText.{IsImage}
use Rattle.paged_memory.specs.Keys.{page_key}
use Rattle.paged_memory.specs.MappedPages.{selecting_on}
use Rattle.paged_memory.specs.PageAddressing.{History, is_page, is_page_confirmed, may_select, read_selection, reads_back}
use Rattle.paged_memory.specs.Windows.{Windowed, half_at, started, window_conduct, window_fetched}
use Rattle.paged_memory.specs.Windows as windows
use Rattle.paged_memory.proofs.WindowHistories.{IsOfBank, IsSound, May, Shows, found, left, selecting_of, shows_confirmed}
use Rattle.paged_memory.proofs.WindowHistories as window
use Rattle.paged_memory.proofs.WindowReads.{reads_page}
use Rattle.paged_memory.proofs.WindowRuns.{always}
use Rattle.simulated_statistics.specs.declared.module.FreezingModule.{FreezingModule}
use Rattle.simulated_statistics.specs.declared.request.Request.{Request}
use Rattle.simulated_statistics.specs.FreezingModules.{begun, bytes_from, conduct, fetched, may_request, request_on, shows_control, window_of}
use Rattle.simulated_statistics.specs.Requests.{ticked}
use Rattle.simulated_statistics.proofs.RequestLaws.{apart_asks_nothing}
use Rattle.simulated_statistics.proofs.StoreLaws.{same_window}

-- a bus with a script and the module
abbrev State : Type 0
State = List Directive × FreezingModule

abbrev windowed : State → window.State
windowed state = (state.0, window_of state.1)

-- ---- one transaction

window_ticks : (count : ℕ) (w : Windowed) → ticked_times window_conduct count w ≡ w
window_ticks zero w = refl
window_ticks (suc count) w = window_ticks count w

module_ticks : (count : ℕ) (sim : FreezingModule) → window_of (ticked_times conduct count sim) ≡ window_of sim
module_ticks zero sim = refl
module_ticks (suc count) sim = module_ticks count sim

settles : (script : List Directive) (sim : FreezingModule) → settled window_conduct script (window_of sim) ≡ windowed (settled conduct script sim)
settles [] sim = refl
settles (Pass count ∷ script) sim = refl
settles (Nack count ∷ script) sim = refl
settles (Cut kept ∷ script) sim = refl
settles (Tick count ∷ script) sim =
    ap (settled window_conduct script) (window_ticks count (window_of sim) ∙ sym (module_ticks count sim)) ∙ settles script (ticked_times conduct count sim)
settles (LowPower on ∷ script) sim = settles script sim

passes_on : (op : Op) (sim : FreezingModule) → (passed_on window_conduct op (window_of sim)).1 ≡ window_of (passed_on conduct op sim).1
passes_on (Fetch dev address count) sim = refl
passes_on (Store dev address bytes) sim = sym (same_window sim dev address bytes.items)

gives : (op : Op) (kept : ℕ) (sim : FreezingModule) → given window_conduct op kept (window_of sim) ≡ window_of (given conduct op kept sim)
gives (Fetch dev address count) kept sim = refl
gives (Store dev address bytes) zero sim = refl
gives (Store dev address bytes) (suc kept) sim = sym (same_window sim dev address (take (suc kept) bytes.items))

obeys : (op : Op) (script : List Directive) (sim : FreezingModule) → (obeyed window_conduct op script (window_of sim)).1 ≡ window_of (obeyed conduct op script sim).1
obeys op [] sim = passes_on op sim
obeys op (Pass count ∷ script) sim = passes_on op sim
obeys op (Nack count ∷ script) sim = refl
obeys op (Cut kept ∷ script) sim = gives op kept sim
obeys op (Tick count ∷ script) sim = passes_on op sim
obeys op (LowPower on ∷ script) sim = passes_on op sim

transacts : (op : Op) (state : State) → (transacted window_conduct op (windowed state)).1 ≡ windowed (transacted conduct op state).1
transacts op (script, sim) =
    let next = settled conduct script sim in
    ap (λ (n : window.State). (spent n.0, (obeyed window_conduct op n.0 n.1).1)) (settles script sim)
    ∙ ap (λ (w : Windowed). (spent next.0, w)) (obeys op next.0 next.1)

-- ---- all of them

leaves : (state : State) (history : History) → left (windowed state) history ≡ windowed (after (script_rules conduct) state history)
leaves state [] = refl
leaves state (step ∷ before) =
    ap (λ (s : window.State). (transacted window_conduct step.op s).1) (leaves state before) ∙ transacts step.op (after (script_rules conduct) state before)

-- the same operations, each with the reply of the window
abbrev replayed : window.State → History → History
replayed state [] = []
replayed state (step ∷ before) = record { op = step.op; reply = (transacted window_conduct step.op (left state before)).0 } ∷ replayed state before

replay_leaves : (state : window.State) (history : History) → left state (replayed state history) ≡ left state history
replay_leaves state [] = refl
replay_leaves state (step ∷ before) = ap (λ (s : window.State). (transacted window_conduct step.op s).1) (replay_leaves state before)

may_replayed : (state : window.State) (history : History) → May state (replayed state history)
may_replayed state [] = tt
may_replayed state (step ∷ before) =
    (ap (λ (s : window.State). (transacted window_conduct step.op s).0) (sym (replay_leaves state before)), may_replayed state before)

-- ---- a read back of the selection has the window's reply

two_shown : (how : Option PageAddressing) (selection : MappedPage) (request : Option Request) (half : Option (List ℕ)) → option_map (windows.bytes_from how selection 126 2) half ≡ option_map (bytes_from how selection request 126 2) half
two_shown how selection request None = refl
two_shown how selection None (Some half) = refl
two_shown how selection (Some request) (Some half) = refl

one_shown : (how : Option PageAddressing) (selection : MappedPage) (request : Option Request) (half : Option (List ℕ)) → option_map (windows.bytes_from how selection 127 1) half ≡ option_map (bytes_from how selection request 127 1) half
one_shown how selection request None = refl
one_shown how selection None (Some half) = refl
one_shown how selection (Some request) (Some half) = refl

abbrev reply_of : Option (List ℕ) → Reply
reply_of answer = fetch_reply (option_map (λ bytes. record { items = bytes }) answer)

passed_reads : (addressing : PageAddressing) (sim : FreezingModule) → (passed_on window_conduct (read_selection addressing) (window_of sim)).0 ≡ (passed_on conduct (read_selection addressing) sim).0
passed_reads BankAndPage sim = ap reply_of (two_shown (selecting_on sim.image A0) sim.selection (request_on sim A0) (half_at (window_of sim) A0 126))
passed_reads PageAlone sim = ap reply_of (one_shown (selecting_on sim.image A0) sim.selection (request_on sim A0) (half_at (window_of sim) A0 127))

obeyed_reads : (addressing : PageAddressing) (script : List Directive) (sim : FreezingModule) →
    (obeyed window_conduct (read_selection addressing) script (window_of sim)).0 ≡ (obeyed conduct (read_selection addressing) script sim).0
obeyed_reads addressing [] sim = passed_reads addressing sim
obeyed_reads addressing (Pass count ∷ script) sim = passed_reads addressing sim
obeyed_reads addressing (Nack count ∷ script) sim = refl
obeyed_reads addressing (Cut kept ∷ script) sim = refl
obeyed_reads addressing (Tick count ∷ script) sim = passed_reads addressing sim
obeyed_reads addressing (LowPower on ∷ script) sim = passed_reads addressing sim

selection_reads : (addressing : PageAddressing) (state : State) → (transacted window_conduct (read_selection addressing) (windowed state)).0 ≡ (transacted conduct (read_selection addressing) state).0
selection_reads addressing (script, sim) =
    let next = settled conduct script sim in
    ap (λ (n : window.State). (obeyed window_conduct (read_selection addressing) n.0 n.1).0) (settles script sim) ∙ obeyed_reads addressing next.0 next.1

reads_alike : (addressing : PageAddressing) (page : ℕ) (state : State) (step : Step) → (script_rules conduct).may state step →
    reads_back addressing page (record { op = step.op; reply = (transacted window_conduct step.op (windowed state)).0 }) ≡ reads_back addressing page step
reads_alike addressing page state step may = by_test (same_op (read_selection addressing) step.op) refl where
  by_test : (b : Bool) → same_op (read_selection addressing) step.op ≡ b → (b && is_page addressing page (transacted window_conduct step.op (windowed state)).0) ≡ (b && is_page addressing page step.reply)
  by_test true e =
      let same = subst (λ (op : Op). (transacted window_conduct op (windowed state)).0 ≡ (transacted conduct op state).0) (ops_are (read_selection addressing) step.op e) (selection_reads addressing state) in
      ap (is_page addressing page) (same ∙ sym may)
  by_test false e = refl

-- so the steps confirm the same pages
confirms_alike : (addressing : PageAddressing) (page : ℕ) (start : State) (history : History) → MayEach (script_rules conduct) start history →
    is_page_confirmed addressing page (replayed (windowed start) history) ≡ is_page_confirmed addressing page history
confirms_alike addressing page start [] may = refl
confirms_alike addressing page start (step ∷ before) may =
    let reads = ap (λ (s : window.State). reads_back addressing page (record { op = step.op; reply = (transacted window_conduct step.op s).0 })) (leaves start before)
    ∙ reads_alike addressing page (after (script_rules conduct) start before) step may.0 in
    λ i. reads i || (not (may_select addressing step.op) && confirms_alike addressing page start before may.1 i)

-- ---- what is read of a page that they confirm

begins_sound : (image : Memory) (addressing : PageAddressing) → IsSound image addressing (started image)
begins_sound image BankAndPage = record { memory_is = refl; bank = tt }
begins_sound image PageAlone = record { memory_is = refl; bank = refl }

abbrev found_module : State → FreezingModule
found_module state = (settled conduct state.0 state.1).1

shows_page : (image : Memory) (delay : ℕ) (addressing : PageAddressing) (script : List Directive) (before : History) (page : ℕ) → selecting_on image A0 ≡ selecting_of addressing →
    MayEach (script_rules conduct) (script, begun image delay) before → is_page_confirmed addressing page before ≡ true →
    Shows image page (window_of (found_module (after (script_rules conduct) (script, begun image delay) before)))
shows_page image delay addressing script before page by may confirmed =
    let start : State = (script, begun image delay) in
    let there = after (script_rules conduct) start before in
    let again = replayed (windowed start) before in
    let shows = shows_confirmed image addressing by page (windowed start) again (begins_sound image addressing) (may_replayed (windowed start) before) (confirms_alike addressing page start before may ∙ confirmed) in
    let left_so = subst (λ (s : window.State). Shows image page s.1) (replay_leaves (windowed start) before ∙ leaves start before) shows in
    let now = found_keeps window_conduct (Shows image page) (always (Shows image page)) (windowed there) left_so in
    subst (λ (s : window.State). Shows image page s.1) (settles there.0 there.1) now

-- nothing of a request is shown
reads_plain : (sim : FreezingModule) → request_on sim A0 ≡ None → (fetched sim A0 128 128).0 ≡ (window_fetched (window_of sim) A0 128 128).0
reads_plain sim plain = ap (λ (r : Option Request). option_map (bytes_from (selecting_on sim.image A0) sim.selection r 128 128) (half_at (window_of sim) A0 128)) plain

read_plain : (image : Memory) (page : ℕ) (sim : FreezingModule) (bytes : List ℕ) → IsImage image → Shows image page (window_of sim) → request_on sim A0 ≡ None → (fetched sim A0 128 128).0 ≡ Some bytes →
    finmap.get image (page_key page) ≡ Some bytes
read_plain image page sim bytes is shows plain answer = reads_page image page (window_of sim) bytes is shows (sym (reads_plain sim plain) ∙ answer)

not_control : (sim : FreezingModule) (page : ℕ) → sim.selection.bank ≡ page / 256 → sim.selection.page ≡ page % 256 → page ≢ 0x2F → request_on sim A0 ≡ None
not_control sim page bank number other = by_tests (sim.selection.bank == 0) (sim.selection.page == 0x2F) refl refl where
  by_tests : (a b : Bool) → (sim.selection.bank == 0) ≡ a → (sim.selection.page == 0x2F) ≡ b → (if a && b then sim.request else None) ≡ None
  by_tests true true of at =
      let first = eqb-true sim.selection.bank 0 of in
      let control = eqb-true sim.selection.page 0x2F at in
      absurd (other (omega (arith, bank, number, first, control)))
  by_tests true false of at = refl
  by_tests false b of at = refl

-- it is read if nothing of a request is shown
reads_unless : (image : Memory) (delay : ℕ) (addressing : PageAddressing) (script : List Directive) (before : History) (page : ℕ) (bytes : ArrayVec ℕ) → IsImage image → selecting_on image A0 ≡ Some addressing →
    MayInTurn (script_rules conduct) (script, begun image delay) (reverse (fetch_step A0 128 128 (Some bytes) ∷ before)) → is_page_confirmed addressing page before ≡ true →
    ((sim : FreezingModule) → sim ≡ found_module (after (script_rules conduct) (script, begun image delay) before) → sim.selection.bank ≡ page / 256 → sim.selection.page ≡ page % 256 → request_on sim A0 ≡ None) →
    finmap.get image (page_key page) ≡ Some bytes.items
reads_unless image delay addressing script before page bytes is by in_turn confirmed plain =
    let start : State = (script, begun image delay) in
    let there = after (script_rules conduct) start before in
    let may = may_each (script_rules conduct) start (fetch_step A0 128 128 (Some bytes) ∷ before) in_turn in
    let shows = shows_page image delay addressing script before page by may.1 confirmed in
    let sim = found_module there in
    read_plain image page sim bytes.items is shows (plain sim refl shows.bank shows.number) (fetched_at conduct A0 128 128 bytes there may.0).answer

pub reads_elsewhere : (image : Memory) (delay : ℕ) (addressing : PageAddressing) (script : List Directive) (before : History) (page : ℕ) (bytes : ArrayVec ℕ) → IsImage image → selecting_on image A0 ≡ Some addressing →
    MayInTurn (script_rules conduct) (script, begun image delay) (reverse (fetch_step A0 128 128 (Some bytes) ∷ before)) → is_page_confirmed addressing page before ≡ true → page ≢ 0x2F →
    finmap.get image (page_key page) ≡ Some bytes.items
reads_elsewhere image delay addressing script before page bytes is by in_turn confirmed other =
    reads_unless image delay addressing script before page bytes is by in_turn confirmed (λ sim found bank number. not_control sim page bank number other)

-- ---- until something is asked of it

abbrev IsUnasked : FreezingModule → Type 0
IsUnasked sim = sim.request ≡ None

in_time : IsKeptInTime conduct AnyPin IsUnasked
in_time = record { tick = λ sim unasked. ap (option_map ticked) unasked; low_power_pin = λ sim on pin unasked. unasked }

apart : (address count : ℕ) → (nat_le address 144 && nat_lt 144 (address + count)) ≡ false → (address + count ≤ 144) ⊎ (144 < address)
apart address count e =
    elim (cases_lt 144 (address + count)) [
      | inr under ↦ inl under
      | inl over ↦ elim (cases_lt 144 address) [
        | inl past ↦ inr past
        | inr before ↦ absurd (grind (arith, nat_tests))
      ]
    ]

cut_apart : (kept address : ℕ) (bytes : List ℕ) → (address + length bytes ≤ 144) ⊎ (144 < address) → (address + length (take kept bytes) ≤ 144) ⊎ (144 < address)
cut_apart kept address bytes (inl low) = inl (omega (arith, low, length-take kept bytes))
cut_apart kept address bytes (inr high) = inr high

unasked_by : (op : Op) → may_request op ≡ false → IsKeptBy conduct IsUnasked op
unasked_by (Fetch dev address count) e = λ sim unasked. unasked
unasked_by (Store dev address bytes) e =
    let outside = apart address (length bytes.items) e in (
      λ sim unasked. apart_asks_nothing sim dev address bytes.items outside ∙ unasked,
      λ sim kept unasked. apart_asks_nothing sim dev address (take kept bytes.items) (cut_apart kept address bytes.items outside) ∙ unasked,
    )

each_unasked : (history : History) → AllByRecursion (λ step. may_request step.op ≡ false) history → AllByRecursion (λ step. IsKeptBy conduct IsUnasked step.op) history
each_unasked [] each = tt
each_unasked (step ∷ before) each = (unasked_by step.op each.0, each_unasked before each.1)

none_shown : (b : Bool) (request : Option Request) → request ≡ None → (if b then request else None) ≡ None
none_shown true request unasked = unasked
none_shown false request unasked = refl

pub reads_unasked : (image : Memory) (delay : ℕ) (addressing : PageAddressing) (script : List Directive) (before : History) (page : ℕ) (bytes : ArrayVec ℕ) → IsImage image → selecting_on image A0 ≡ Some addressing →
    MayInTurn (script_rules conduct) (script, begun image delay) (reverse (fetch_step A0 128 128 (Some bytes) ∷ before)) → is_page_confirmed addressing page before ≡ true →
    AllByRecursion (λ step. may_request step.op ≡ false) before → finmap.get image (page_key page) ≡ Some bytes.items
reads_unasked image delay addressing script before page bytes is by in_turn confirmed each =
    let start : State = (script, begun image delay) in
    let there = after (script_rules conduct) start before in
    let unasked = found_keeps conduct IsUnasked in_time there (steps_keep conduct IsUnasked in_time before (each_unasked before each) start refl) in
    reads_unless image delay addressing script before page bytes is by in_turn confirmed (λ sim found bank number. none_shown (shows_control sim A0) sim.request (ap (λ (s : FreezingModule). s.request) found ∙ unasked))
