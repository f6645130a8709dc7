use Rattle.std.proofs.Common.{◌≡◌, [], ◌∷◌, ℕ, Bool, List, IfOk, IfSome, Option, Some, None, Result, Ok, Err}
use Rattle.arrayvec.specs.ArrayVec.{ArrayVec}
use Rattle.bus_model.specs.declared.bus.BusFault.{BusFault}
use Rattle.bus_model.specs.declared.device.Dev.TheVariants.{A0}
use Rattle.bus_model.specs.declared.script.Directive.{Directive}
use Rattle.bus_model.specs.Operations.{fetch_step, store_step}
use Rattle.bus_model.specs.Runs.{Seen, Makes}
use Rattle.bus_model.specs.ScriptBuses.{seen_at}
use Rattle.bus_model.specs.ScriptedBus.{script_rules}
use Rattle.paged_memory.specs.Windows.{Windowed, window_conduct}
use Rattle.paged_memory.proofs.WindowRuns.{IsByBank, read_back}
use Rattle.trials.proofs.tests.windows.reading.select_on_window.Goals as goal

answer_is : (old new : Seen (List Directive × Windowed)) (page : ℕ) (result : Result (Option (ArrayVec ℕ)) BusFault) → IsByBank old.state.1
    → Makes (script_rules window_conduct) old new (λ made. IfOk result (λ answer. (taken : Bool)
    × (made ≡ store_step A0 126 (0 ∷ page ∷ []) taken ∷ fetch_step A0 126 2 answer ∷ [])))
    → IfOk result (λ answer. IfSome answer (λ bytes. bytes.items ≡ new.state.1.selection.bank ∷ new.state.1.selection.page ∷ []))
answer_is old new page (Ok (Some bytes)) by_bank made = read_back old new made.0 page made.2.0 bytes by_bank made.1 made.2.1
answer_is old new page (Ok None) by_bank made = tt
answer_is old new page (Err fault) by_bank made = tt

pub returns : goal.returns
returns c by_bank = answer_is (seen_at c.args.bus.now) (seen_at c.select.new.bus) c.args.page c.select.result by_bank c.select.ensures
