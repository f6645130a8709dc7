-- A change of lanes as plain numbers: which numbers are whose. (docs/lanes.md, "From C and Python"; this project's own)
use Rattle.std.specs.Prelude.{ℕ, ◌==◌, ◌&&◌, nat_le, Bool, Option, Some, None, if◌then◌else◌}
use Rattle.conversations.specs.declared.on_page.OnPage.{OnPage}
use Rattle.conversations.specs.Patiently.{Patient}
use Rattle.field_tables.specs.LaneSets.{lanes_in}
use Rattle.lane_controls.specs.declared.lane_change.ChangingLanes.{ChangingLanes}
use Rattle.lane_controls.specs.declared.lane_change.LaneChange.{LaneChange}
use Rattle.lane_controls.specs.declared.lane_change.LaneEnd.{LaneEnd}
use Rattle.lane_controls.specs.declared.lane_change.LaneEnd.TheVariants as ends
use Rattle.lane_controls.specs.declared.lane_change.LaneStage.{LaneStage}
use Rattle.lane_controls.specs.declared.lane_change.LaneStage.TheVariants.{Unread, Found, Admitted, Ended}
use Rattle.lane_controls.specs.declared.lane_register.LaneRegister.{LaneRegister}
use Rattle.lane_controls.specs.declared.lane_register.LaneRegister.TheVariants.{InputPolarityFlipTx, OutputDisableTx, AutoSquelchDisableTx, OutputSquelchForceTx, AdaptiveInputEqFreezeTx, OutputPolarityFlipRx, OutputDisableRx, AutoSquelchDisableRx}
use Rattle.paged_memory.specs.declared.page_addressing.KnownPage.{KnownPage}
use Rattle.paged_memory.specs.declared.page_addressing.KnownPage.TheVariants as pages
use Rattle.saved_lanes.specs.declared.numbers.SavedChanging.{SavedChanging}
use Rattle.saved_lanes.specs.declared.numbers.SavedLaneChange.{SavedLaneChange}

-- what stands in each: DCL1, in ASCII
abbrev pub change_magic : ℕ
change_magic = 0x44434C31

-- each number but 1 stands for no
abbrev pub is_one : ℕ → Bool
is_one number = number == 1

-- ---- what is to be changed

-- there is such a control
abbrev pub is_control : ℕ → Bool
is_control number = nat_le number 7

abbrev pub register_in : ℕ → LaneRegister
register_in number =
    if number == 0 then InputPolarityFlipTx
    else (if number == 1 then OutputDisableTx
    else (if number == 2 then AutoSquelchDisableTx
    else (if number == 3 then OutputSquelchForceTx
    else (if number == 4 then AdaptiveInputEqFreezeTx
    else (if number == 5 then OutputPolarityFlipRx
    else (if number == 6 then OutputDisableRx
    else AutoSquelchDisableRx))))))

abbrev pub is_change : SavedLaneChange → Bool
is_change saved = is_control saved.control

abbrev pub change_in : SavedLaneChange → LaneChange
change_in saved = record {
  register = register_in saved.control;
  lanes = lanes_in saved.lanes;
  on = is_one saved.on;
  max_stores = saved.max_stores;
  permitted = saved.permitted;
  media_paths = saved.media_paths;
}

-- ---- how far it has come

abbrev pub end_in : ℕ → ℕ → ℕ → LaneEnd
end_in number byte lanes =
    if number == 0 then ends.Unchanged byte
    else (if number == 1 then ends.Changed byte
    else (if number == 2 then ends.Ignored byte
    else (if number == 3 then ends.Refused byte
    else ends.NotPermitted byte lanes)))

abbrev pub numbers_of_end : LaneEnd → ℕ × ℕ × ℕ
numbers_of_end (ends.Unchanged byte) = (0, byte, 0)
numbers_of_end (ends.Changed byte) = (1, byte, 0)
numbers_of_end (ends.Ignored byte) = (2, byte, 0)
numbers_of_end (ends.Refused byte) = (3, byte, 0)
numbers_of_end (ends.NotPermitted byte lanes) = (4, byte, lanes)

abbrev pub stage_in : ℕ → ℕ → ℕ → ℕ → LaneStage
stage_in number end byte lanes =
    if number == 0 then Unread
    else (if number == 1 then Found byte
    else (if number == 2 then Admitted byte
    else Ended (end_in end byte lanes)))

abbrev pub stage_of : SavedChanging → LaneStage
stage_of saved = stage_in saved.stage saved.end saved.byte saved.disturbed

abbrev pub lanes_at : SavedChanging → ChangingLanes
lanes_at saved = record { change = change_in saved.change; stage = stage_of saved; left = saved.left; refused = is_one saved.refused }

-- ---- on a bus

abbrev pub page_in : ℕ → ℕ → KnownPage
page_in number page = if number == 2 then pages.Page page else (if number == 1 then pages.Open else pages.Unknown)

abbrev pub taken_in : ℕ → ℕ → Option ℕ
taken_in number page = if number == 1 then Some page else None

abbrev pub Procedure : Type 0
Procedure = Patient (OnPage ChangingLanes)

abbrev pub procedure_in : SavedChanging → Procedure
procedure_in saved = record {
  conversation = record {
    conversation = record {
      conversation = lanes_at saved;
      selection = page_in saved.selection saved.page;
      taken = taken_in saved.taken saved.taken_page;
      doubts = is_one saved.doubts;
    };
    patience = record { pause = saved.pause; limit = saved.limit };
    due = is_one saved.due;
    idle = saved.idle;
  };
  steps = saved.steps;
  limit = saved.max_steps;
}

abbrev pub is_sound : SavedChanging → Bool
is_sound saved = saved.magic == change_magic && is_change saved.change

-- the change under way by these numbers; none by other memory
unfoldable pub changing_in : SavedChanging → Option Procedure
changing_in saved = if is_sound saved then Some (procedure_in saved) else None
