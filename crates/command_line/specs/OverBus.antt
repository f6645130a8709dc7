-- What a report speaks of: the memory of the image that is given, or what is read of its module over a bus that refuses
-- nothing by itself; for details, observables and metrics the statistics (VDM) too. (docs/formats.md, "Reports over a bus"; docs/bus.md, "Windows" and "Reading
-- an image"; this project's own)
use Rattle.std.specs.Prelude.{◌≡◌, ◌*◌, ℕ, Bool, true, false, List, [], Result, Ok, Err}
use Rattle.text_lines.specs.Lines.{lines_of}
use Rattle.bus_model.specs.Runs.{Seen}
use Rattle.bus_model.specs.ScriptedBus.{script_rules}
use Rattle.bus_model.specs.declared.script.Directive.{Directive}
use Rattle.paged_memory.specs.Images.{Memory}
use Rattle.paged_memory.specs.ImageText.{IsTextOf}
use Rattle.paged_memory.specs.ImageFaults.{IsFirstFault}
use Rattle.paged_memory.specs.Windows.{Windowed, started, window_conduct}
use Rattle.control_sets.specs.OutcomeAnswers.{most_steps}
use Rattle.observable_reports.specs.FetchedObservables.{IsObserving}
use Rattle.reports.specs.FetchedImages.{IsFetching}
use Rattle.reports.specs.declared.fault.ReportFault.{ReportFault}
use Rattle.command_line.specs.declared.fault.Fault.{Fault}
use Rattle.command_line.specs.declared.fault.Fault.TheVariants as fault

-- the steps made on a bus, the script that is left, and the window
abbrev pub WindowBus : Type 0
WindowBus = Seen (List Directive × Windowed)

-- before any step, with room for three readings, without a script, with a new window of a memory
abbrev pub window_at_start : Memory → WindowBus
window_at_start memory = record { steps = []; room = 3 * most_steps; state = ([], started memory) }

-- to read the module of this memory over that bus is answered so
abbrev pub IsFetchedFrom : Memory → Result Memory ReportFault → Type 0
IsFetchedFrom memory answer = (after : WindowBus) × IsFetching (script_rules window_conduct) (window_at_start memory) after answer

-- the same for its details, observables and metrics
abbrev pub IsObservedFrom : Memory → Result Memory ReportFault → Type 0
IsObservedFrom memory answer = (after : WindowBus) × IsObserving (script_rules window_conduct) (window_at_start memory) after answer

-- ---- by what is read of a module that has this memory

module _ (IsRead : Memory → Result Memory ReportFault → Type 0) where
  -- why nothing is: there is no room for the steps, or the reading has a fault
  abbrev pub IsBusRefusal : Memory → Fault → Type 0
  IsBusRefusal memory fault.Memory = Unit {0}
  IsBusRefusal memory (fault.Report f) = IsRead memory (Err f)
  IsBusRefusal memory f = ⊥

  -- the text is that of an image, and to read its module over a bus is answered so
  pub record IsReadOverBus (text : List ℕ) (answer : Result Memory ReportFault) : Type 0 where
    pub memory : Memory
    pub is_text : IsTextOf (lines_of text) memory
    pub read : IsRead memory answer

  -- what there is to report of by the text of an image: over a bus what is read, or why nothing is; else the image itself
  abbrev pub IsReading : Bool → List ℕ → Result Memory ReportFault → Type 0
  IsReading true text answer = IsReadOverBus text answer
  IsReading false text (Ok memory) = IsTextOf (lines_of text) memory
  IsReading false text (Err f) = ⊥

  -- why there is nothing to report of: only the steps of a bus need memory
  abbrev pub IsInputRefusal : Bool → List ℕ → Fault → Type 0
  IsInputRefusal bus text fault.Memory = bus ≡ true
  IsInputRefusal bus text (fault.Image f) = IsFirstFault (lines_of text) f
  IsInputRefusal bus text (fault.Report f) = IsReading bus text (Err f)
  IsInputRefusal bus text f = ⊥
