-- The operations of provisioning and activation, and when the steps before a step confirm a page. (docs/bus.md, "Outcomes";
-- OIF-CMIS-05.0: Bank and Page Select of the lower memory, Staged Control Set 0 on page 10h, the lane statuses on page 11h)
use Rattle.std.specs.Prelude.{Bool, ◌≡◌, ◌⊎◌, ◌++◌, ◌+◌, ◌/◌, ◌%◌, ◌<◌, ℕ, List, [], ◌∷◌, length, Option, Some, None}
use Rattle.std.specs.List.{AllByRecursion}
use Rattle.bus_model.specs.declared.device.Dev.TheVariants.{A0}
use Rattle.bus_model.specs.declared.operation.Op.{Op}
use Rattle.bus_model.specs.declared.operation.Op.TheVariants.{Store}
use Rattle.bus_model.specs.declared.operation.Reply.TheVariants.{Bytes}
use Rattle.bus_model.specs.declared.operation.Step.{Step}
use Rattle.field_tables.specs.declared.field.Register.{Register}
use Rattle.field_tables.specs.declared.field.Register.TheVariants as registers
use Rattle.field_tables.specs.Registers.{byte_count, first_byte, page_of, span_of}
use Rattle.conversations.specs.Selecting.{trusted}
use Rattle.control_sets.specs.RegisterOperations.{IsWholly, read_of, store_to}
use Rattle.control_sets.specs.Pages.{EachStep, History, read_selection, selection}
use Rattle.control_sets.specs.OutcomeSteps.{IsRefused, Newest}

-- the byte of lower memory with the module state
abbrev pub read_module_state : Op
read_module_state = read_of registers.GlobalStatus

-- page 10h, DPDeinit: a bit for each lane, lane 1 the lowest
abbrev pub set_deinit : ℕ → Op
set_deinit lanes = store_to registers.DPDeinit (lanes ∷ [])

-- page 10h, ApplyDPInit of Staged Control Set 0
abbrev pub apply : ℕ → Op
apply lanes = store_to registers.ApplyDPInit (lanes ∷ [])

-- page 10h, DPConfigLane1 to 8 of Staged Control Set 0
abbrev pub stage : List ℕ → Op
stage control = store_to registers.StagedControl control

abbrev pub read_staged : Op
read_staged = read_of registers.StagedControl

-- page 11h, DPStateHostLane1 to 8, four bits each
abbrev pub read_path_states : Op
read_path_states = read_of registers.PathStates

-- page 11h, ConfigStatusLane1 to 8, four bits each
abbrev pub read_statuses : Op
read_statuses = read_of registers.ConfigStatus

-- page 11h, DPConfigLane1 to 8 of the Active Control Set
abbrev pub read_active : Op
read_active = read_of registers.ActiveControl

abbrev pub control_page : ℕ
control_page = (span_of registers.StagedControl).page

abbrev pub status_page : ℕ
status_page = (span_of registers.ActiveControl).page

-- a store on bank or page select, whatever became of it
abbrev pub CoversSelection : Op → Type 0
CoversSelection (Store A0 offset bytes) = (offset < first_byte registers.PageMapping + byte_count registers.PageMapping) × (first_byte registers.PageMapping < offset + length bytes.items)
CoversSelection op = ⊥

-- bank 0 and the page were read back
abbrev pub read_back_of : ℕ → Step
read_back_of page = record { op = read_selection; reply = Bytes (record { items = page / 256 ∷ page % 256 ∷ [] }) }

-- the steps confirm the page: it was read back, and no store since covers the selection
pub record Confirms (page : ℕ) (history : History) : Type 0 where
  pub since : History
  pub before : History
  pub split : history ≡ since ++ read_back_of page ∷ before
  pub kept : AllByRecursion (λ step. ¬ (CoversSelection step.op)) since

-- a selection of one of the two pages, accepted or refused
abbrev pub IsSelection : Step → Type 0
IsSelection step = (step.op ≡ selection control_page) ⊎ (step.op ≡ selection status_page)

-- whose reply isn't read yet: a selection, or a read back that was refused
abbrev pub AwaitsReadBack : Step → Type 0
AwaitsReadBack step = IsSelection step ⊎ IsRefused read_selection step

-- selections are read back, of which the steps tell that are trusted
pub record ReadsSelectionsBackBy (doubts : Bool) (history : History) : Type 0 where
  -- the step next after a selection reads the selection, and so again until that is answered
  pub at_once : EachStep (λ step before. Newest AwaitsReadBack (trusted doubts before) → step.op ≡ read_selection) history
  -- else the selection isn't read
  pub only : EachStep (λ step before. step.op ≡ read_selection → Newest AwaitsReadBack (trusted doubts before)) history

-- the page, if one is needed, is confirmed
abbrev pub IsConfirmed : Option ℕ → History → Type 0
IsConfirmed None before = Unit {0}
IsConfirmed (Some page) before = Confirms page before

-- the step reads or stores all bytes of a register, whose page is confirmed
pub record IsAtRegister (step : Step) (before : History) : Type 0 where
  pub register : Register
  pub wholly : IsWholly register step.op
  pub shown : IsConfirmed (page_of register) before

-- with doubts, by the steps since the newest refusal
abbrev pub IsAtRegisterBy : Bool → Step → History → Type 0
IsAtRegisterBy doubts step before = IsAtRegister step (trusted doubts before)
