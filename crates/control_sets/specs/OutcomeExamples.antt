-- Lists of steps, the newest first, to see what the outcome of provisioning admits and what it refuses. (This project's own.)
use Rattle.std.specs.Prelude.{ℕ, ◌/◌, ◌%◌, zero, suc, List, [], ◌∷◌}
use Rattle.bus_model.specs.declared.operation.Op.{Op}
use Rattle.bus_model.specs.declared.operation.Reply.TheVariants.{Bytes, Done, Refused}
use Rattle.bus_model.specs.declared.operation.Step.{Step}
use Rattle.control_sets.specs.Pages.{History, read_selection, selection}
use Rattle.control_sets.specs.OutcomeOperations.{apply, control_page, read_active, read_module_state, read_path_states, read_staged, read_statuses, set_deinit, stage, status_page}

-- four paths of two lanes
abbrev pub pairs : List ℕ
pairs = 0x20 ∷ 0x20 ∷ 0x24 ∷ 0x24 ∷ 0x28 ∷ 0x28 ∷ 0x2C ∷ 0x2C ∷ []

-- the same but for lanes 2 and 5
abbrev pub almost_pairs : List ℕ
almost_pairs = 0x20 ∷ 0x00 ∷ 0x24 ∷ 0x24 ∷ 0x00 ∷ 0x28 ∷ 0x2C ∷ 0x2C ∷ []

abbrev pub took : Op → Step
took op = record { op = op; reply = Done }

abbrev pub refused : Op → Step
refused op = record { op = op; reply = Refused }

abbrev pub gave : Op → List ℕ → Step
gave op bytes = record { op = op; reply = Bytes (record { items = bytes }) }

-- the module state ModuleReady, and ModuleLowPwr
abbrev pub ready : Step
ready = gave read_module_state (0x06 ∷ [])

abbrev pub low_power : Step
low_power = gave read_module_state (0x02 ∷ [])

-- the module state was asked for so often, each time in vain
abbrev pub refused_reads : ℕ → History
refused_reads zero = []
refused_reads (suc count) = refused read_module_state ∷ refused_reads count

-- page 10h was selected, and read back
abbrev pub on_controls : History
on_controls = gave read_selection (0 ∷ control_page ∷ []) ∷ took (selection control_page) ∷ ready ∷ []

-- the first selection was refused, but had been made
abbrev pub refused_selection : History
refused_selection = gave read_selection (0 ∷ control_page ∷ []) ∷ refused read_selection ∷ refused (selection control_page) ∷ ready ∷ []

-- it was refused, and hadn't been made: page 00h is read back, so it is made again
abbrev pub repeated_selection : History
repeated_selection = took (selection control_page) ∷ gave read_selection (0 ∷ 0 ∷ []) ∷ refused (selection control_page) ∷ ready ∷ []

-- the page of another bank is read back
abbrev pub other_bank : History
other_bank = took (selection control_page) ∷ gave read_selection (1 ∷ control_page ∷ []) ∷ took (selection control_page) ∷ ready ∷ []

-- page 11h was selected at once, as activation does
abbrev pub on_status_at_once : History
on_status_at_once = gave read_selection (0 ∷ status_page ∷ []) ∷ took (selection status_page) ∷ ready ∷ []

-- a page was selected, and read back
abbrev pub on_page : ℕ → History → History
on_page page before = gave read_selection (page / 256 ∷ page % 256 ∷ []) ∷ took (selection page) ∷ before

-- each pair of lanes tells the codes of this byte
abbrev pub all_tell : ℕ → List ℕ
all_tell codes = codes ∷ codes ∷ codes ∷ codes ∷ []

-- the pairs were provisioned on the lanes of these bits: the path states that were read, and the statuses, twice
abbrev pub provisioned_on : ℕ → List ℕ → List ℕ → List ℕ → History
provisioned_on bits states early late =
    gave read_active pairs ∷ gave read_statuses late ∷ gave read_statuses early ∷ on_page status_page
    (took (apply bits) ∷ gave read_staged pairs ∷ took (stage pairs) ∷ on_page control_page
    (gave read_path_states states ∷ on_page status_page
    (took (set_deinit bits) ∷ on_controls)))

-- on all lanes: DPDeactivated, then ConfigInProgress and ConfigSuccess
abbrev pub provisioned : History
provisioned = provisioned_on 0xFF (all_tell 0x11) (all_tell 0xCC) (all_tell 0x11)

-- on lanes 5 to 8, while the kept lanes 1 to 4 tell codes that no path state and no status has
abbrev pub provisioned_beside_reserved_codes : History
provisioned_beside_reserved_codes = provisioned_on 0xF0 (0x00 ∷ 0xF8 ∷ 0x11 ∷ 0x11 ∷ []) (0x88 ∷ 0xB9 ∷ 0xCC ∷ 0xCC ∷ []) (0x88 ∷ 0xB9 ∷ 0x11 ∷ 0x11 ∷ [])

-- the pairs were activated on all lanes: DPInit, then DPActivated
abbrev pub activated : History
activated =
    gave read_path_states (all_tell 0x44) ∷ gave read_path_states (all_tell 0x22) ∷ on_page status_page
    (took (set_deinit 0x00) ∷ on_page control_page
    (gave read_active pairs ∷ on_status_at_once))
