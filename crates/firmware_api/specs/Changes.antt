-- A change to a plan, and what it does, as C sees them. (docs/firmware.md, "Plans"; this project's own)
use Rattle.std.specs.Prelude.{◌==◌, ℕ, not, List, Option, Some, None, Result, Ok, Err}
use Rattle.std.specs.Option.{option_or}
use Rattle.field_tables.specs.LaneSets.{byte_of, lanes_in}
use Rattle.applications.specs.declared.fault.AdvertFault.TheVariants.{Absent}
use Rattle.paged_memory.specs.declared.key.Key.{Key}
use Rattle.port_manager.specs.declared.change.Change.{Change}
use Rattle.port_manager.specs.declared.change.Effect.{Effect}
use Rattle.port_manager.specs.declared.change.Hindrance.{Hindrance}
use Rattle.port_manager.specs.declared.change.Hindrance.TheVariants.{OtherBytes, State, ComesUp, NoPath, GoesDown}
use Rattle.port_manager.specs.Changes.{judged}
use Rattle.firmware_api.specs.declared.half.HalfBytes.{HalfBytes}
use Rattle.firmware_api.specs.declared.judging.ChangeEffect.{ChangeEffect}
use Rattle.firmware_api.specs.declared.judging.PlanChange.{PlanChange}
use Rattle.firmware_api.specs.declared.status.Refusal.{Refusal}
use Rattle.firmware_api.specs.declared.status.Refusal.TheVariants.{Advert}
use Rattle.firmware_api.specs.Halves.{memory_of}
use Rattle.firmware_api.specs.SimulatedModules.{half_refusal}
use Rattle.firmware_api.specs.Statuses.{number_of}

-- each number but 0 says yes
abbrev pub change_in : PlanChange → Change
change_in c = record {
  goal = record { control = c.control; lanes = lanes_in c.lanes; outside = lanes_in c.outside };
  spares = not (c.spares == 0);
  activates = not (c.activates == 0);
  wakes = not (c.wakes == 0);
  may = record { take_down = lanes_in c.may_take_down; bring_up = lanes_in c.may_bring_up; no_path = not (c.may_have_no_path == 0) };
}

abbrev pub absence : {A : Type 0} → Result A Key → Option Refusal
absence (Ok value) = None
absence (Err half) = Some (Advert (Absent half))

-- of the halves themselves, or since one that is needed is absent
abbrev pub judge_refusal : List HalfBytes → PlanChange → Option Refusal
judge_refusal halves change = option_or (half_refusal halves) (absence (judged (memory_of halves) (change_in change)))

-- the number of what stands against it, its lanes and the state of the module
abbrev pub numbers_of : Hindrance → ℕ × ℕ × ℕ
numbers_of (OtherBytes lanes) = (1, byte_of lanes, 0)
numbers_of (State state) = (2, 0, state)
numbers_of (ComesUp lanes) = (3, byte_of lanes, 0)
numbers_of NoPath = (4, 0, 0)
numbers_of (GoesDown lanes) = (5, byte_of lanes, 0)

abbrev pub hindrance_of : Option Hindrance → ℕ × ℕ × ℕ
hindrance_of None = (0, 0, 0)
hindrance_of (Some hindrance) = numbers_of hindrance

abbrev pub effect_of : Effect → ChangeEffect
effect_of effect = record {
  taken = byte_of effect.taken;
  goes_down = byte_of effect.goes_down;
  comes_up = byte_of effect.comes_up;
  stays = byte_of effect.stays;
  is_active = number_of effect.is_active;
  is_done = number_of effect.is_done;
  hindrance = (hindrance_of effect.against).0;
  lanes = (hindrance_of effect.against).1;
  state = (hindrance_of effect.against).2;
}
