-- A procedure as plain numbers: which numbers are a procedure's, and of which. (docs/firmware.md, "The numbers of a conversation";
-- this project's own)
use Rattle.std.specs.Prelude.{ℕ, ◌==◌, ◌&&◌, nat_le, nat_lt, Bool, true, false, List, length, Option, Some, None, if◌then◌else◌}
use Rattle.std.specs.Option.{option_map}
use Rattle.field_tables.specs.LaneSets.{lanes_in}
use Rattle.bus_model.specs.declared.bus.BusFault.{BusFault}
use Rattle.bus_model.specs.declared.bus.BusFault.TheVariants.{TraceFull, BadShape}
use Rattle.paged_memory.specs.declared.page_addressing.KnownPage.{KnownPage}
use Rattle.paged_memory.specs.declared.page_addressing.KnownPage.TheVariants.{Unknown, Open, Page}
use Rattle.control_sets.specs.declared.fault.ProvisionFault.{ProvisionFault}
use Rattle.control_sets.specs.declared.fault.ProvisionFault.TheVariants.{Rejected, StagedDiffers, ActiveDiffers, GaveUp, Bus, ModuleState, Reserved}
use Rattle.control_sets.specs.declared.procedures.procedure.saved.SavedProcedure.{SavedProcedure}
use Rattle.control_sets.specs.declared.procedures.saved_fault.SavedFault.{SavedFault}
use Rattle.control_sets.specs.declared.procedures.procedure.Work.{Work}
use Rattle.control_sets.specs.declared.procedures.procedure.Work.TheVariants.{Provisioning, Activation}
use Rattle.control_sets.specs.declared.procedures.task.Task.{Task}
use Rattle.control_sets.specs.OutcomeAnswers.{most_steps}
use Rattle.control_sets.specs.Progress.{PatientProcedure, patient_by, tasks_of}

-- 1 for provisioning, 2 for activation
abbrev pub work_numbered : ℕ → List ℕ → ℕ → Option Work
work_numbered number control lanes =
    if number == 1 then Some (Provisioning control (lanes_in lanes))
    else (if number == 2 then Some (Activation control (lanes_in lanes))
    else None)

-- 0 if nothing is known, 1 if a read back is awaited, 2 if the page was read back; there is no page else
abbrev pub selected_numbered : ℕ → ℕ → Option KnownPage
selected_numbered number page =
    if number == 2 then Some (Page page)
    else (if number == 1 && page == 0 then Some Open
    else (if number == 0 && page == 0 then Some Unknown
    else None))

abbrev pub due_numbered : ℕ → Option Bool
due_numbered number = if number == 0 then Some false else (if number == 1 then Some true else None)

-- the page that was read back; 0 if none was
abbrev pub page_read_back : KnownPage → ℕ
page_read_back (Page page) = page
page_read_back selected = 0

abbrev pub number_of_due : Bool → ℕ
number_of_due false = 0
number_of_due true = 1

-- by the number in its code: 1 for BU1
abbrev pub bus_fault_numbered : ℕ → Option BusFault
bus_fault_numbered number =
    if number == 1 then Some TraceFull
    else (if number == 2 then Some BadShape
    else None)

-- by the number in its code, as 1 for PV1, and its values; those that it doesn't have are 0
abbrev pub fault_numbered : SavedFault → Option ProvisionFault
fault_numbered saved =
    if saved.code == 1 then Some (Rejected saved.first saved.second)
    else (if saved.code == 2 && saved.second == 0 then Some (StagedDiffers saved.first)
    else (if saved.code == 3 && saved.second == 0 then Some (ActiveDiffers saved.first)
    else (if saved.code == 4 && (saved.first == 0 && saved.second == 0) then Some GaveUp
    else (if saved.code == 5 && saved.second == 0 then option_map Bus (bus_fault_numbered saved.first)
    else (if saved.code == 6 && saved.second == 0 then Some (ModuleState saved.first)
    else (if saved.code == 7 && saved.second == 0 then Some (Reserved saved.first)
    else None))))))

-- whether there is a fault, and which; none if the numbers are no fault's
abbrev pub fault_in : SavedFault → Option (Option ProvisionFault)
fault_in saved =
    if saved.code == 0 && (saved.first == 0 && saved.second == 0) then Some None
    else option_map Some (fault_numbered saved)

abbrev pub numbers : ℕ → ℕ → ℕ → SavedFault
numbers code first second = record { code = code; first = first; second = second }

abbrev pub bus_fault_number : BusFault → ℕ
bus_fault_number TraceFull = 1
bus_fault_number BadShape = 2

abbrev pub numbers_of : ProvisionFault → SavedFault
numbers_of (Rejected lane status) = numbers 1 lane status
numbers_of (StagedDiffers lane) = numbers 2 lane 0
numbers_of (ActiveDiffers lane) = numbers 3 lane 0
numbers_of GaveUp = numbers 4 0 0
numbers_of (Bus fault) = numbers 5 (bus_fault_number fault) 0
numbers_of (ModuleState code) = numbers 6 code 0
numbers_of (Reserved code) = numbers 7 code 0

-- all 0 if there is no fault
abbrev pub saved_fault : Option ProvisionFault → SavedFault
saved_fault None = numbers 0 0 0
saved_fault (Some fault) = numbers_of fault

-- a reply shows the fault
abbrev pub is_found : ProvisionFault → Bool
is_found GaveUp = false
is_found (Bus fault) = false
is_found fault = true

-- no more tasks can be met than there are, and a fault is found by one that isn't
abbrev pub can_stand : List Task → ℕ → Option ProvisionFault → Bool
can_stand tasks met None = nat_le met (length tasks)
can_stand tasks met (Some fault) = nat_lt met (length tasks) && is_found fault

abbrev pub numbered : SavedProcedure → Bool → Option Work → Option KnownPage → Option (Option ProvisionFault) → Option Bool → Option PatientProcedure
numbered saved doubts (Some work) (Some selected) (Some fault) (Some due) =
    if nat_le saved.steps most_steps && can_stand (tasks_of work) saved.met fault
    then Some (patient_by doubts (record { work = work; met = saved.met; fault = fault }) selected (record { pause = saved.pause; limit = saved.limit }) due saved.idle saved.steps)
    else None
numbered saved doubts work selected fault due = None

-- the procedure that has these numbers, and doubts or doesn't; none if they are those of none
unfoldable pub restored : SavedProcedure → Bool → Option PatientProcedure
restored saved doubts =
    numbered saved doubts (work_numbered saved.work saved.control saved.lanes) (selected_numbered saved.selection saved.page) (fault_in saved.fault) (due_numbered saved.due)
