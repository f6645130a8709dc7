-- What a module measures, one place of its list after another, as C sees it, and why C is not told. (docs/firmware.md, "Decoders";
-- docs/observables.md, "The list"; this project's own)
use Rattle.std.specs.Prelude.{◌≡◌, ◌⊎◌, ◌≤◌, ◌<◌, ℕ, ◌+◌, pos, Bool, is_some, unwrap_or, List, map, slice_get, Option, Some, None}
use Rattle.std.specs.List.{range_with_len}
use Rattle.std.specs.Option.{option_map}
use Rattle.paged_memory.specs.Images.{Memory}
use Rattle.field_tables.specs.declared.readings.PerLimit.{PerLimit}
use Rattle.module_decoding.specs.declared.report.DecodeFault.TheVariants.{Module}
use Rattle.module_decoding.specs.ModuleFamilies.{detail_fault}
use Rattle.observables.specs.declared.amount.Amount.{Amount}
use Rattle.observables.specs.declared.observable.Side.{Side}
use Rattle.observables.specs.declared.observable.Side.TheVariants.{Media, Host}
use Rattle.observables.specs.declared.observation.Observation.{Observation}
use Rattle.observables.specs.declared.observation.Subject.{Subject}
use Rattle.observables.specs.declared.observation.Subject.TheVariants as subjects
use Rattle.observables.specs.Names.{figure_name, lane_of, quantity_name, scope_name, unit_name}
use Rattle.observables.specs.Numbers.{figure_number, quantity_number, side_number, unit_number}
use Rattle.observables.specs.Observations.{IsNextObservation, all_places, observation_at}
use Rattle.firmware_api.specs.declared.flags.LevelFlags.{LevelFlags}
use Rattle.firmware_api.specs.declared.observable_numbers.AmountNumbers.{AmountNumbers}
use Rattle.firmware_api.specs.declared.observable_numbers.LimitNumbers.{LimitNumbers}
use Rattle.firmware_api.specs.declared.observable_numbers.ObservableNumbers.{ObservableNumbers}
use Rattle.firmware_api.specs.declared.status.Refusal.{Refusal}
use Rattle.firmware_api.specs.declared.status.Refusal.TheVariants.{Decode}
use Rattle.firmware_api.specs.Statuses.{number_of}

-- the modules are those of which details are told
unfoldable pub observables_refusal : Memory → Option Refusal
observables_refusal memory = option_map (λ fault. Decode (Module fault)) (detail_fault memory)

-- ---- amounts and flags: 0 if they are not known

abbrev pub known_numbers : Option Amount → AmountNumbers
known_numbers None = record { mantissa = pos 0; divisor = 0; exponent = pos 0; is_known = 0 }
known_numbers (Some amount) = record { mantissa = amount.mantissa; divisor = amount.divisor; exponent = amount.exponent; is_known = 1 }

abbrev pub limit_numbers : PerLimit (Option Amount) → LimitNumbers
limit_numbers limits = record {
  high_alarm = known_numbers limits.high_alarm;
  low_alarm = known_numbers limits.low_alarm;
  high_warning = known_numbers limits.high_warning;
  low_warning = known_numbers limits.low_warning;
}

abbrev pub flag_numbers : Option (PerLimit Bool) → LevelFlags
flag_numbers None = record { high_alarm = 0; low_alarm = 0; high_warning = 0; low_warning = 0 }
flag_numbers (Some flags) = record {
  high_alarm = number_of flags.high_alarm;
  low_alarm = number_of flags.low_alarm;
  high_warning = number_of flags.high_warning;
  low_warning = number_of flags.low_warning;
}

-- ---- where, and names

abbrev pub path_number : Side → ℕ
path_number Host = 4
path_number Media = 5

-- of the module, a lane or a data path
abbrev pub scope_number : Subject → Side → ℕ
scope_number subjects.Module side = 1
scope_number (subjects.HostLane lane) side = 2
scope_number (subjects.MediaLane lane) side = 3
scope_number (subjects.DataPath lane) side = path_number side

-- after the last byte comes NUL
abbrev pub byte_at : List ℕ → ℕ → ℕ
byte_at bytes place = unwrap_or (slice_get bytes place) 0

-- room for 27 bytes and a NUL
unfoldable pub written_name : List ℕ → List ℕ
written_name name = map (byte_at name) (range_with_len 0 28)

-- ---- an observation

abbrev pub observable_in : Observation → ObservableNumbers
observable_in seen = record {
  amount = known_numbers seen.amount;
  limits = limit_numbers seen.limits;
  quantity = quantity_number seen.observable.quantity;
  figure = figure_number seen.observable.figure;
  side = side_number seen.observable.side;
  scope = scope_number seen.subject seen.observable.side;
  lane = unwrap_or (lane_of seen.subject) 0;
  unit = unit_number seen.unit;
  advertised = number_of seen.advertised;
  has_flags = number_of (is_some seen.flags);
  flags = flag_numbers seen.flags;
  quantity_name = written_name (quantity_name seen.observable.quantity);
  figure_name = written_name (figure_name seen.observable.figure);
  scope_name = written_name (scope_name seen.subject seen.observable.side);
  unit_name = written_name (unit_name seen.unit);
}

-- ---- one after another

-- the first of the list from a place on was told, and the next one begins after its place
pub record IsFilled (memory : Memory) (from after : ℕ) (told : ObservableNumbers) : Type 0 where
  pub found : ℕ
  pub seen : Observation
  pub first : IsNextObservation memory from (found, seen)
  pub numbers : told ≡ observable_in seen
  pub next : after ≡ found + 1

-- the list has nothing from that place on
pub record IsAtEnd (memory : Memory) (from after : ℕ) (before told : ObservableNumbers) : Type 0 where
  pub nothing : (k : ℕ) → from ≤ k → k < all_places → observation_at memory k ≡ None
  pub kept : told ≡ before
  pub next : after ≡ 0

abbrev pub IsNext : Memory → ℕ → ℕ → ObservableNumbers → ObservableNumbers → Type 0
IsNext memory from after before told = IsFilled memory from after told ⊎ IsAtEnd memory from after before told
