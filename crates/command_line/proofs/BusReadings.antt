-- What there is to report of, by what reading an image over a bus answers.
use Rattle.std.proofs.Common.{◌≡◌, ◌∙◌, ◌*◌, ℕ, Bool, true, false, List, [], Result, Ok, Err, refl, ap, subst}
use Rattle.std.specs.Prelude.{IfOk, MatchResult}
use Rattle.text_lines.specs.Lines.{lines_of}
use Rattle.bus_model.specs.ScriptBuses.{Scripted, seen_at}
use Rattle.bus_model.specs.ScriptedBus.{script_rules}
use Rattle.bus_model.specs.declared.script.Directive.{Directive}
use Rattle.observable_reports.specs.FetchedObservables.{IsObserving}
use Rattle.paged_memory.specs.Images.{Memory}
use Rattle.paged_memory.specs.ImageText.{IsTextOf}
use Rattle.paged_memory.specs.Windows.{Windowed, started, window_conduct}
use Rattle.control_sets.specs.OutcomeAnswers.{most_steps}
use Rattle.reports.specs.FetchedImages.{IsFetching}
use Rattle.reports.specs.declared.fault.ReportFault.{ReportFault}
use Rattle.reports.specs.declared.fault.ReportFault.TheVariants as report
use Rattle.command_line.specs.Faults.{fault_of_report}
use Rattle.command_line.specs.OverBus.{IsBusRefusal, IsFetchedFrom, IsInputRefusal, IsObservedFrom, IsReading, WindowBus, window_at_start}
use Rattle.command_line.specs.declared.fault.Fault.{Fault}
use Rattle.command_line.specs.declared.fault.Fault.TheVariants as fault

-- a new bus with a new window is where a reading begins
pub begins : {E : Type 0} (memory : Memory) (window : Windowed) (script : List Directive) (made : Result (Scripted Windowed) E) → window ≡ started memory → script ≡ []
    → IfOk made (λ bus. bus ≡ record { device = window; script = script; steps = []; room = 3 * most_steps }) → IfOk made (λ bus. seen_at bus ≡ window_at_start memory)
begins memory window script (Ok bus) shows none new = ap seen_at new ∙ (λ i. record { steps = []; room = 3 * most_steps; state = (none i, shows i) })
begins memory window script (Err refused) shows none new = tt

pub fetched_from : (memory : Memory) (bus : Scripted Windowed) (after : WindowBus) (answer : Result Memory ReportFault) → seen_at bus ≡ window_at_start memory
    → IsFetching (script_rules window_conduct) (seen_at bus) after answer → IsFetchedFrom memory answer
fetched_from memory bus after answer start made =
    (after, subst (λ (before : WindowBus). IsFetching (script_rules window_conduct) before after answer) start made)

pub observed_from : (memory : Memory) (bus : Scripted Windowed) (after : WindowBus) (answer : Result Memory ReportFault) → seen_at bus ≡ window_at_start memory
    → IsObserving (script_rules window_conduct) (seen_at bus) after answer → IsObservedFrom memory answer
observed_from memory bus after answer start made =
    (after, subst (λ (before : WindowBus). IsObserving (script_rules window_conduct) before after answer) start made)

module _ (IsRead : Memory → Result Memory ReportFault → Type 0) where
  -- a fault of the reading is the program's
  pub bus_refused : (memory : Memory) (f : ReportFault) → IsRead memory (Err f) → IsBusRefusal IsRead memory (fault_of_report f)
  bus_refused memory report.Memory is = tt
  bus_refused memory f is = is

  -- over a bus, what was read of the text's image
  pub read_to_report : (bus : Bool) (text : List ℕ) (memory : Memory) (r : Result Memory Fault) → bus ≡ true → IsTextOf (lines_of text) memory
      → MatchResult r (λ read. IsRead memory (Ok read)) (IsBusRefusal IsRead memory) → MatchResult r (λ read. IsReading IsRead bus text (Ok read)) (IsInputRefusal IsRead bus text)
  read_to_report true text memory (Ok read) on is fetched = record { memory = memory; is_text = is; read = fetched }
  read_to_report true text memory (Err fault.Memory) on is fetched = refl
  read_to_report true text memory (Err (fault.Report f)) on is fetched = record { memory = memory; is_text = is; read = fetched }
  read_to_report true text memory (Err f) on is fetched = absurd fetched
  read_to_report false text memory r on is fetched = absurd cc
