-- Simulated modules of which C keeps what changes: which begins, and what each event makes of it. (docs/firmware.md, "A simulated
-- module"; this project's own)
use Rattle.std.specs.Prelude.{◌≡◌, ℕ, ◌+◌, ◌==◌, ◌&&◌, ◌||◌, nat_le, nat_lt, Bool, true, false, not, List, length, Option, Some, None, Result, Ok, Err, if◌then◌else◌}
use Rattle.std.specs.List.{list_all}
use Rattle.std.specs.Option.{option_map, option_or}
use Rattle.applications.specs.Refusals.{advert_fault}
use Rattle.applications.specs.declared.fault.AdvertFault.{AdvertFault}
use Rattle.sim_module.specs.declared.delays.Delays.{Delays}
use Rattle.sim_module.specs.declared.fixed.Fixed.{Fixed}
use Rattle.sim_module.specs.declared.module.SimModule.{SimModule}
use Rattle.sim_module.specs.declared.moving.Moving.{Moving}
use Rattle.sim_module.specs.declared.saved.SavedModule.{SavedModule}
use Rattle.sim_module.specs.OwnAdverts.{own_advert}
use Rattle.sim_module.specs.Record.{module_of}
use Rattle.sim_module.specs.SavedModules.{restored, saved}
use Rattle.sim_module.specs.ShownBytes.{fetched}
use Rattle.sim_module.specs.Starts.{start, start_fault}
use Rattle.sim_module.specs.Stores.{stored}
use Rattle.firmware_api.specs.declared.half.HalfBytes.{HalfBytes}
use Rattle.firmware_api.specs.declared.status.Refusal.{Refusal}
use Rattle.firmware_api.specs.declared.status.Refusal.TheVariants.{TooManyHalves, NoPlace, Advert, NoStart, NoModule, NoRange, NotTaken}
use Rattle.firmware_api.specs.Halves.{device_of, has_place, is_device, memory_of}
use Rattle.paged_memory.specs.Images.{most_large, most_pages}

-- of the halves themselves, of which there may be so many
abbrev pub refusal_over : ℕ → List HalfBytes → Option Refusal
refusal_over most halves =
    if nat_lt most (length halves) then Some TooManyHalves
    else (if not (list_all has_place halves) then Some NoPlace
    else None)

-- of those that a small image has room for
abbrev pub half_refusal : List HalfBytes → Option Refusal
half_refusal halves = refusal_over most_pages halves

-- a simulated module may have as many as a large image
abbrev pub simulated_refusal : List HalfBytes → Option Refusal
simulated_refusal halves = refusal_over most_large halves

abbrev pub unless_refused : {A : Type 0} → Option Refusal → A → Result A Refusal
unless_refused None value = Ok value
unless_refused (Some refusal) value = Err refusal

-- the module of the halves at the start, or why there is none
abbrev pub begun : List HalfBytes → Delays → Result SimModule Refusal
begun halves delays =
    unless_refused (option_or (simulated_refusal halves) (option_map NoStart (start_fault (memory_of halves) delays))) (start (memory_of halves) delays)

-- the numbers are those that a module has when it is saved, for C may read each
abbrev pub AreSaved : SavedModule → Type 0
AreSaved numbers = (moving : Moving) × (numbers ≡ saved moving)

-- the module of which this never changes, and the rest has these numbers
abbrev pub module_in : Fixed → SavedModule → Option SimModule
module_in fixed numbers = option_map (module_of fixed) (restored numbers)

abbrev pub held_by : Option Refusal → Option AdvertFault → Option SimModule → Result SimModule Refusal
held_by (Some refusal) fault sim = Err refusal
held_by None (Some fault) sim = Err (Advert fault)
held_by None None None = Err NoModule
held_by None None (Some sim) = Ok sim

-- the module that has these halves and these numbers, or why there is none
abbrev pub held : List HalfBytes → SavedModule → Result SimModule Refusal
held halves numbers = held_by (simulated_refusal halves) (advert_fault (memory_of halves)) (module_in (record { image = memory_of halves; advert = own_advert (memory_of halves) }) numbers)

-- why numbers alone are not those of a module
abbrev pub refusal_in : {A : Type 0} → Option A → Option Refusal
refusal_in None = Some NoModule
refusal_in (Some found) = None

-- of such a device, and there is a byte, and all lie in one half
abbrev pub is_range : ℕ → ℕ → ℕ → Bool
is_range device offset count =
    is_device device
    && nat_lt 0 count
    && (nat_le (offset + count) 128 || nat_le 128 offset && nat_le (offset + count) 256)

-- the bytes, with the module afterwards, or that the module refuses
abbrev pub answered : Option (List ℕ) × SimModule → Result (List ℕ × SimModule) Refusal
answered (Some bytes, after) = Ok (bytes, after)
answered (None, after) = Err NotTaken

-- what a fetch of so many bytes answers
abbrev pub fetched_by : Result SimModule Refusal → ℕ → ℕ → ℕ → Result (List ℕ × SimModule) Refusal
fetched_by (Err refusal) device offset count = Err refusal
fetched_by (Ok sim) device offset count =
    if is_range device offset count then answered (fetched sim (device_of device) offset count) else Err NoRange

-- the module afterwards, or that the module refuses
abbrev pub taken : Bool × SimModule → Result SimModule Refusal
taken (true, after) = Ok after
taken (false, after) = Err NotTaken

-- what a store of at most 8 bytes makes of a module
abbrev pub stored_by : Result SimModule Refusal → ℕ → ℕ → List ℕ → Result SimModule Refusal
stored_by (Err refusal) device offset bytes = Err refusal
stored_by (Ok sim) device offset bytes =
    if nat_le (length bytes) 8 && is_range device offset (length bytes) then taken (stored sim (device_of device) offset bytes) else Err NoRange

-- each number but 0 holds the pin
abbrev pub is_on : ℕ → Bool
is_on on = not (on == 0)
