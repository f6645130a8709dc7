-- After an update on the simulated module there is a committed image that can run.
use Rattle.std.proofs.Common.{◌≡◌, ℕ, List, [], ◌∷◌, length, Ok, Result, refl, sym, subst, ap, ◌∙◌}
use Rattle.std.specs.Prelude.{⊤}
use Rattle.conversations.specs.declared.event.Event.TheVariants.{Made, Waited, Lacked, Asked}
use Rattle.conversations.specs.Carried.{Happens}
use Rattle.conversations.specs.Events.{Events}
use Rattle.firmware_update.specs.declared.bank.Bank.{Bank}
use Rattle.firmware_update.specs.declared.known.Known.{Known}
use Rattle.firmware_update.specs.declared.runner.UpdateRun.{UpdateRun}
use Rattle.firmware_update.specs.declared.runner.UpdateRun.TheVariants.{Over, Stopped}
use Rattle.firmware_update.specs.declared.update.Cause.{Cause}
use Rattle.firmware_update.specs.declared.update.Update.{Update}
use Rattle.firmware_update.specs.declared.update.UpdateNext.TheVariants as updates
use Rattle.firmware_update.specs.Progress.{command_at, next_by}
use Rattle.firmware_update.specs.Runs.{IsRunOf}
use Rattle.firmware_update.proofs.Ends.{come_finished}
use Rattle.firmware_update.proofs.OnBus.{safe_of}
use Rattle.firmware_laws.specs.Contents.{IsOldOrNew}
use Rattle.firmware_laws.specs.Heard.{heard}
use Rattle.firmware_laws.specs.Modules.{HasImage, IsQuiet, IsStanding, held}
use Rattle.firmware_laws.proofs.AtTheBus.{comes_heard}
use Rattle.firmware_laws.proofs.Heard.{heard_contents, heard_two_banks}
use Rattle.firmware_laws.proofs.PowerLoss.{image_stays}
use Rattle.firmware_laws.proofs.WholeImage.{always_whole, finished_whole}
use Rattle.simulated_updates.specs.declared.bus.SimulatedBus.{SimulatedBus}
use Rattle.simulated_updates.specs.Buses.{IsUpdated, LetsPass, MakesStep, NeverFails}
use Rattle.simulated_updates.specs.OnTheBus.{Becomes}
use Rattle.simulated_updates.specs.Performed.{conduct}
use Rattle.simulated_updates.specs.Seen.{firmware_of, module_of}
use Rattle.simulated_updates.specs.Undisturbed.{first_chance}
use Rattle.simulated_updates.proofs.Followed.{HasEnded, ended}
use Rattle.simulated_updates.proofs.Premises.{contents, two_banks}

-- what happens on the bus happens to its module
becomes : (events : Events) (old new : SimulatedBus) → Happens MakesStep LetsPass old new events → Becomes (module_of old.module) events (module_of new.module)
becomes [] old new same = ap (λ (b : SimulatedBus). module_of b.module) same
becomes (Made step ∷ before) old new (mid, earlier, makes) = (module_of mid.module, becomes before old mid earlier, (first_chance mid.chances.items, makes.0))
becomes (Waited time ∷ before) old new (mid, earlier, passes) = (module_of mid.module, becomes before old mid earlier, passes.0)
becomes (Lacked page ∷ before) old new never = absurd never
becomes (Asked number ∷ before) old new never = absurd never

-- it came to an end, and the commands had the module stand so
abbrev pub HasCome : List ℕ → SimulatedBus → SimulatedBus → UpdateRun ⊤ → Type 0
HasCome file old new run =
    (known : Known) × (end : Result ⊤ Cause) × (run ≡ Over known end) × (events : Events) × (update : Update) × HasEnded file (module_of old.module) events (module_of new.module) update end

came : (file : List ℕ) (old last new : SimulatedBus) (events : Events) (run : UpdateRun ⊤) → Happens MakesStep LetsPass old last events
    → IsRunOf file events (last ≡ new) (λ (fault : ⊤). NeverFails last fault new) run → HasCome file old new run
came file old last new events (Stopped fault) happened (never, rest) = absurd never
came file old last new events (Over known end) happened (same, (session, turned, asks, known_is), rest) =
    let now : Happens MakesStep LetsPass old new events = subst (λ (b : SimulatedBus). Happens MakesStep LetsPass old b events) same happened in
    (known, end, refl, events, session.update, ended file (module_of old.module) events session (module_of new.module) end turned (becomes events old new now) asks)

pub comes : (file : List ℕ) (old new : SimulatedBus) (run : UpdateRun ⊤) → IsUpdated file old new run → HasCome file old new run
comes file old new run (last, events, happened, is) = came file old last new events run happened is

pub keeps_image : (file : List ℕ) (old new : SimulatedBus) (run : UpdateRun ⊤) → HasImage (firmware_of old.module.firmware) → IsQuiet (firmware_of old.module.firmware) → HasCome file old new run
    → HasImage (firmware_of new.module.firmware)
keeps_image file old new run has quiet (known, end, is, events, update, (history, on_bus, at, done)) =
    image_stays (heard conduct) (heard_two_banks conduct two_banks) file (firmware_of old.module.firmware) quiet history (firmware_of new.module.firmware) has (safe_of (length file) history update at)
    (comes_heard conduct file (firmware_of old.module.firmware) history events (firmware_of new.module.firmware) on_bus)

pub keeps_whole : (file : List ℕ) (old new : SimulatedBus) (run : UpdateRun ⊤) → IsQuiet (firmware_of old.module.firmware) → HasCome file old new run
    → IsOldOrNew (firmware_of old.module.firmware) file (firmware_of new.module.firmware)
keeps_whole file old new run quiet (known, end, is, events, update, (history, on_bus, at, done)) =
    always_whole (heard conduct) (heard_two_banks conduct two_banks) (heard_contents conduct contents) file (firmware_of old.module.firmware) quiet history (firmware_of new.module.firmware) (safe_of (length file) history update at)
    (comes_heard conduct file (firmware_of old.module.firmware) history events (firmware_of new.module.firmware) on_bus)

same_end : (known known' : Known) (end end' : Result ⊤ Cause) → ◌≡◌ {A = UpdateRun ⊤} (Over known end) (Over known' end') → end ≡ end'
same_end known known' end end' e = cc

pub ends_well : (file : List ℕ) (old new : SimulatedBus) (run : UpdateRun ⊤) (said : Known) → IsQuiet (firmware_of old.module.firmware) → run ≡ Over said (Ok tt) → HasCome file old new run
    → (bank : Bank) × IsStanding bank (firmware_of new.module.firmware) × ((held (firmware_of new.module.firmware) bank).image ≡ file)
ends_well file old new run said quiet well (known, end, is, events, update, (history, on_bus, at, done)) =
    let end_is : end ≡ Ok tt = same_end known said end (Ok tt) (sym is ∙ well) in
    let done_by = subst (λ (n : ℕ). next_by update.fault update.stage update.closing (command_at n update.stage) ≡ updates.Done (Ok tt)) at.sized (done ∙ ap (λ (r : Result ⊤ Cause). updates.Done r) end_is) in
    finished_whole (heard conduct) (heard_two_banks conduct two_banks) (heard_contents conduct contents) file (firmware_of old.module.firmware) quiet history (firmware_of new.module.firmware)
    (come_finished (length file) update.fault update.stage update.closing history at.come done_by) (comes_heard conduct file (firmware_of old.module.firmware) history events (firmware_of new.module.firmware) on_bus)
