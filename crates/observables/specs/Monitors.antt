-- What modules measure at places that the standards fix: the rows of a monitor, and what makes a row right. (This project's own)
use Rattle.std.specs.Prelude.{◌≡◌, ◌≤◌, ℕ, ◌+◌, IsTrue, Option, Some, None}
use Rattle.field_tables.specs.declared.field.Field.{Field}
use Rattle.field_tables.specs.declared.readings.PerLimit.{PerLimit}
use Rattle.field_tables.specs.FieldRows.{row_of}
use Rattle.field_tables.specs.Readings.{is_of_bytes}
use Rattle.observables.specs.declared.monitor.BitPlace.{BitPlace}
use Rattle.observables.specs.declared.monitor.Bounds.{Bounds}
use Rattle.observables.specs.declared.monitor.Correction.{Correction}
use Rattle.observables.specs.declared.monitor.Monitor.{Monitor}
use Rattle.observables.specs.declared.quantity.Quantity.{Quantity}
use Rattle.observables.specs.declared.quantity.Scope.{Scope}

-- ---- how bits stand for the four limits

abbrev pub bits_at : Field → ℕ → BitPlace
bits_at field first = record { field = field; first = first }

-- in a row: high alarm, low alarm, high warning, low warning
abbrev pub bits_in_row : Field → ℕ → PerLimit BitPlace
bits_in_row field first = record {
  high_alarm = bits_at field first;
  low_alarm = bits_at field (first + 1);
  high_warning = bits_at field (first + 2);
  low_warning = bits_at field (first + 3);
}

-- alarms and warnings apart: high, low
abbrev pub bits_in_pairs : Field → Field → ℕ → PerLimit BitPlace
bits_in_pairs alarms warnings first = record {
  high_alarm = bits_at alarms first;
  low_alarm = bits_at alarms (first + 1);
  high_warning = bits_at warnings first;
  low_warning = bits_at warnings (first + 1);
}

-- each limit has a field of its own, with a bit for each lane
abbrev pub bits_of_lanes : Field → Field → Field → Field → PerLimit BitPlace
bits_of_lanes high_alarm low_alarm high_warning low_warning = record {
  high_alarm = bits_at high_alarm 1;
  low_alarm = bits_at low_alarm 1;
  high_warning = bits_at high_warning 1;
  low_warning = bits_at low_warning 1;
}

-- ---- a row of a table of monitors

abbrev pub advertised_by : Field → ℕ → Option BitPlace
advertised_by field bit = Some (bits_at field bit)

abbrev pub limited : Field → PerLimit BitPlace → Option Bounds
limited limits flags = Some (record { limits = limits; flags = flags })

-- what is measured, of the module or of each lane; its values; its limits with their flags; the bit that advertises it; what corrects it
abbrev pub monitor : Quantity → Scope → Field → Option Bounds → Option BitPlace → Correction → Option Monitor
monitor quantity scope values bounds advert correction =
    Some (record { quantity = quantity; scope = scope; values = values; bounds = bounds; advert = advert; correction = correction })

-- ---- what makes a row right

-- so many bits of a field from one on
pub record BitsFit (count : ℕ) (place : BitPlace) : Type 0 where
  pub of_bytes : IsTrue (is_of_bytes (row_of place.field))
  pub from : 1 ≤ place.first
  pub to : place.first + count ≤ (row_of place.field).count + 1

pub record FlagsFit (count : ℕ) (places : PerLimit BitPlace) : Type 0 where
  pub high_alarm : BitsFit count places.high_alarm
  pub low_alarm : BitsFit count places.low_alarm
  pub high_warning : BitsFit count places.high_warning
  pub low_warning : BitsFit count places.low_warning

pub record BoundsFit (count : ℕ) (bounds : Bounds) : Type 0 where
  pub limits : (row_of bounds.limits).count ≡ 4
  pub flags : FlagsFit count bounds.flags

abbrev pub AreBounds : ℕ → Option Bounds → Type 0
AreBounds count None = Unit {0}
AreBounds count (Some bounds) = BoundsFit count bounds

abbrev pub IsAdvert : Option BitPlace → Type 0
IsAdvert None = Unit {0}
IsAdvert (Some place) = BitsFit 1 place

-- its fields have the values that it needs, of eight lanes at most
pub record MonitorFits (monitor : Monitor) : Type 0 where
  pub lanes : (row_of monitor.values).count ≤ 8
  pub bounds : AreBounds (row_of monitor.values).count monitor.bounds
  pub advert : IsAdvert monitor.advert
