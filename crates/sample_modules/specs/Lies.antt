-- A device that answers as it likes: a number decides each answer, and each unit of time draws another one. (This
-- project's own.)
use Rattle.std.specs.Prelude.{ℕ, ◌+◌, ◌*◌, ◌/◌, ◌%◌, ◌==◌, Bool, not, if◌then◌else◌, nat_lt, List, Option, Some, None, map}
use Rattle.std.specs.List.{range_with_len}
use Rattle.bus_model.specs.Conduct.{Conduct}
use Rattle.sample_modules.specs.declared.lying_device.LyingDevice.{LyingDevice}

-- the number drawn after another (the "minimal standard" generator of Park and Miller)
abbrev pub drawn : ℕ → ℕ
drawn number = 48271 * number % 2147483647

-- so many of 16 numbers are refusals
abbrev pub refuses : LyingDevice → Bool
refuses device = nat_lt (device.number / 65536 % 16) device.refusals

-- so many are lies
abbrev pub lies : LyingDevice → Bool
lies device = nat_lt (device.number / 1048576 % 16) device.lies

-- what a host that provisions four pairs of lanes would like, by the address that it asks for and the place from there: ModuleReady,
-- one of the pages 10h and 11h, lanes that are DPDeactivated and have ConfigSuccess, and the control bytes
abbrev pub pleasing : ℕ → ℕ → ℕ → ℕ
pleasing number address place =
    if address == 3 then 0x06 else
    if address == 126 then (if place == 0 then 0x00 else 0x10 + number % 2) else
    if address == 128 then 0x11 else
    if address == 202 then 0x11 else
    0x20 + 4 * (place % 8 / 2)

-- any byte
abbrev pub lie : ℕ → ℕ → ℕ
lie number place = (number / 256 + 31 * place) % 256

abbrev pub told_at : LyingDevice → ℕ → ℕ → ℕ
told_at device address place = if lies device then lie device.number place else pleasing device.number address place

-- the first bytes from an address on
abbrev pub told : LyingDevice → ℕ → ℕ → List ℕ
told device address count = map (told_at device address) (range_with_len 0 count)

abbrev pub liar_fetched : LyingDevice → ℕ → ℕ → Option (List ℕ)
liar_fetched device address count = if refuses device then None else Some (told device address count)

abbrev pub lying_conduct : Conduct LyingDevice
lying_conduct = record {
  fetch = λ device dev address count. (liar_fetched device address count, device);
  store = λ device dev address bytes. (not (refuses device), device);
  tick = λ device. record device { number = drawn device.number };
  low_power_pin = λ device on. device;
}
