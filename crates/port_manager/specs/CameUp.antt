-- A port says that a module came up only of one that it has just found as it is wanted. (this project's own)
use Rattle.std.specs.Prelude.{◌≡◌, ◌⊎◌, ℕ, true, List, ◌∷◌, Some}
use Rattle.bus_model.specs.declared.operation.Op.{Op}
use Rattle.bus_model.specs.declared.operation.Reply.{Reply}
use Rattle.bus_model.specs.declared.operation.Reply.TheVariants.{Bytes}
use Rattle.paged_memory.specs.Images.{Memory}
use Rattle.paged_memory.specs.declared.page_addressing.PageAddressing.TheVariants.{BankAndPage}
use Rattle.paged_memory.specs.PageAddressing.{History, is_page_confirmed}
use Rattle.port_manager.specs.declared.deciding.Goal.{Goal}
use Rattle.port_manager.specs.declared.deciding.Wanted.{Wanted}
use Rattle.port_manager.specs.declared.port.Outcome.{Outcome}
use Rattle.port_manager.specs.declared.port.Outcome.TheVariants as outcome
use Rattle.port_manager.specs.declared.turn.Note.{Note}
use Rattle.port_manager.specs.declared.turn.Note.TheVariants as notes
use Rattle.port_manager.specs.Decisions.{page_of_lanes}
use Rattle.port_manager.specs.Goals.{are_up, has_all}
use Rattle.port_manager.specs.Looks.{fetch_half}
use Rattle.port_manager.specs.MadeOperations.{EachMade}
use Rattle.port_manager.specs.Readings.{IsJustRead, RestsIn}
use Rattle.port_manager.specs.Stories.{Story, make, step_with, steps_of}

-- page 11h shows the goal's control bytes as active, and its lanes as up
pub record ShowsUp (goal : Goal) (page : List ℕ) : Type 0 where
  pub has : has_all page goal.control ≡ true
  pub up : are_up page goal.control goal.lanes ≡ true

-- a look has just fetched it, on its confirmed page
abbrev pub IsLookedAt : Goal → Op → Reply → History → Type 0
IsLookedAt goal op reply before =
    (page : List ℕ) × (is_page_confirmed BankAndPage 0x11 before ≡ true) × (op ≡ fetch_half 128) × (reply ≡ Bytes (record { items = page })) × ShowsUp goal page

-- or a reading has just read the module
abbrev pub IsReadUp : Goal → History → Type 0
IsReadUp goal history = (image : Memory) × IsJustRead history image × (page : List ℕ) × (page_of_lanes image ≡ Some page) × ShowsUp goal page

abbrev pub IsFoundUp : Goal → Op → Reply → Story → Type 0
IsFoundUp goal op reply before = IsLookedAt goal op reply (steps_of before) ⊎ IsReadUp goal (step_with op reply ∷ steps_of before)

abbrev pub IfUp : Note → Type 0 → Type 0
IfUp notes.Quiet P = Unit {0}
IfUp notes.Identified P = Unit {0}
IfUp notes.Woken P = Unit {0}
IfUp notes.Provisioned P = Unit {0}
IfUp notes.CameUp P = P
IfUp notes.Held P = Unit {0}

abbrev pub IfCameUp : Outcome → Type 0 → Type 0
IfCameUp outcome.Dropped P = Unit {0}
IfCameUp (outcome.Went note) P = IfUp note P
IfCameUp (outcome.Paused moment) P = Unit {0}
IfCameUp (outcome.Failed fault moment) P = Unit {0}
IfCameUp (outcome.Left reason) P = Unit {0}

-- with the goal of the last reading
abbrev pub IsUpSo : Story → Op → Reply → Wanted → ℕ → Outcome → Type 0
IsUpSo before op reply wanted now result = IfCameUp result ((goal : Goal) × RestsIn (make op reply wanted now result ∷ before) goal × IsFoundUp goal op reply before)

-- each time that it was said
abbrev pub CameUpAsWanted : Story → Type 0
CameUpAsWanted = EachMade IsUpSo
