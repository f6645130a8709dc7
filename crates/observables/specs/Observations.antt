-- What a module measures, as one list: the monitors of its family at fixed places, lane by lane, then the instances, both of four banks.
-- (OIF-CMIS-05.0, "Versatile Diagnostics Monitoring" and "Management Memory Map": bank b has lanes 8 * b + 1 and on; this project's own
-- order)
use Rattle.std.specs.Prelude.{◌≡◌, ℕ, zero, suc, ◌+◌, ◌-◌, ◌*◌, ◌/◌, ◌%◌, ◌<◌, ◌≤◌, ◌==◌, ◌&&◌, nat_le, nat_lt, Bool, false, if◌then◌else◌, List, [], ◌++◌, Option, Some, None, option_map, option_and_then, option_to_list}
use Rattle.field_tables.specs.declared.field.Field.TheVariants as fields
use Rattle.field_tables.specs.declared.table.cmis.CmisField.TheVariants as cmis
use Rattle.field_tables.specs.declared.readings.PerLimit.{PerLimit}
use Rattle.field_tables.specs.FieldRows.{row_of}
use Rattle.field_tables.specs.Readings.{number}
use Rattle.paged_memory.specs.declared.family.Family.{Family}
use Rattle.paged_memory.specs.declared.family.Family.TheVariants as families
use Rattle.paged_memory.specs.Families.{managed_by}
use Rattle.paged_memory.specs.Images.{Memory}
use Rattle.observables.specs.declared.amount.Amount.{Amount}
use Rattle.observables.specs.declared.instance.Instance.{Instance}
use Rattle.observables.specs.declared.monitor.Monitor.{Monitor}
use Rattle.observables.specs.declared.observable.Figure.TheVariants.{Now}
use Rattle.observables.specs.declared.observable.Observable.{Observable}
use Rattle.observables.specs.declared.observable.Side.{Side}
use Rattle.observables.specs.declared.observable.Side.TheVariants.{Media, Host}
use Rattle.observables.specs.declared.observation.Observation.{Observation}
use Rattle.observables.specs.declared.observation.Subject.{Subject}
use Rattle.observables.specs.declared.observation.Subject.TheVariants as subjects
use Rattle.observables.specs.declared.quantity.Quantity.{Quantity}
use Rattle.observables.specs.declared.quantity.Quantity.TheVariants.{LevelTransition}
use Rattle.observables.specs.declared.quantity.Scope.{Scope}
use Rattle.observables.specs.declared.quantity.Scope.TheVariants.{Module, Lane, DataPath}
use Rattle.observables.specs.Amounts.{amount_of}
use Rattle.observables.specs.Banks.{bank_count, lanes_of_bank}
use Rattle.observables.specs.CmisMonitors.{cmis_monitor}
use Rattle.observables.specs.Instances.{instance_at}
use Rattle.observables.specs.Monitored.{amount_at, flags_in_lane, is_advertised, is_present, limit_amounts, no_limits}
use Rattle.observables.specs.Observables.{observable_of}
use Rattle.observables.specs.Pages.{has_observables, is_cmis}
use Rattle.observables.specs.QsfpMonitors.{qsfp_monitor}
use Rattle.observables.specs.Quantities.{quantity_row}
use Rattle.observables.specs.SfpMonitors.{sfp_monitor}

-- where something is measured
abbrev pub subject_of : Scope → Side → ℕ → Subject
subject_of Module side lane = subjects.Module
subject_of DataPath side lane = subjects.DataPath lane
subject_of Lane Media lane = subjects.MediaLane lane
subject_of Lane Host lane = subjects.HostLane lane

-- ---- monitors at fixed places

abbrev pub monitor_by : Memory → ℕ → Family → Option Monitor
monitor_by memory n families.Cmis = cmis_monitor memory n
monitor_by memory n families.Sff8636 = qsfp_monitor n
monitor_by memory n families.Sff8472 = sfp_monitor n

-- monitor n of the module's family
abbrev pub monitor_of : Memory → ℕ → Option Monitor
monitor_of memory n = option_and_then (monitor_by memory n) (managed_by (number memory (fields.Cmis cmis.Identifier)))

abbrev pub monitor_observation : Memory → Monitor → ℕ → ℕ → Observation
monitor_observation memory monitor bank lane = record {
  observable = record { quantity = monitor.quantity; figure = Now; side = Media };
  subject = subject_of monitor.scope Media (8 * bank + lane);
  unit = (quantity_row monitor.quantity).unit;
  amount = amount_at memory monitor monitor.values lane;
  limits = limit_amounts memory monitor;
  flags = flags_in_lane memory monitor.bounds lane;
  advertised = is_advertised memory monitor.advert;
}

-- in a lane of a bank, if the monitor has that lane and its half is there
abbrev pub measured_in_bank : Memory → Monitor → ℕ → ℕ → Option Observation
measured_in_bank memory monitor bank lane =
    if nat_le lane (row_of monitor.values).count && is_present memory monitor.values then Some (monitor_observation memory monitor bank lane) else None

-- a lane above 8 is of a further bank, if the module has that
abbrev pub measured : Memory → Monitor → ℕ → Option Observation
measured memory monitor lane =
    if nat_le lane 8 then measured_in_bank memory monitor 0 lane
    else if nat_lt ((lane - 1) / 8) (bank_count memory) then measured_in_bank (lanes_of_bank memory ((lane - 1) / 8)) monitor ((lane - 1) / 8) ((lane - 1) % 8 + 1)
    else None

abbrev pub monitored : Memory → ℕ → ℕ → Option Observation
monitored memory n lane = option_and_then (λ monitor. measured memory monitor lane) (monitor_of memory n)

-- ---- instances of pages 20h to 2Ch

-- no level transition parameter is FFFFh
abbrev pub is_no_value : Quantity → ℕ → Bool
is_no_value LevelTransition word = word == 0xFFFF
is_no_value _ word = false

abbrev pub sample_amount : Quantity → Option ℕ → Option Amount
sample_amount quantity sample =
    option_and_then (λ word. if is_no_value quantity word then None else Some (amount_of quantity word)) sample

abbrev pub limits_of_words : Quantity → Option (PerLimit ℕ) → PerLimit (Option Amount)
limits_of_words quantity None = no_limits
limits_of_words quantity (Some words) = record {
  high_alarm = Some (amount_of quantity words.high_alarm);
  low_alarm = Some (amount_of quantity words.low_alarm);
  high_warning = Some (amount_of quantity words.high_warning);
  low_warning = Some (amount_of quantity words.low_warning);
}

abbrev pub with_instance : Memory → ℕ → Instance → Observable → Observation
with_instance memory bank instance observable = record {
  observable = observable;
  subject = subject_of (quantity_row observable.quantity).scope observable.side (8 * bank + instance.descriptor.lane);
  unit = (quantity_row observable.quantity).unit;
  amount = sample_amount observable.quantity instance.sample;
  limits = limits_of_words observable.quantity instance.limits;
  flags = instance.flags;
  advertised = has_observables memory;
}

-- if the instance is used and its type is decoded
abbrev pub decoded : Memory → ℕ → ℕ → Option Observation
decoded memory bank n =
    option_and_then (λ instance. option_map (with_instance memory bank instance) (observable_of instance.descriptor.kind)) (instance_at memory bank n)

abbrev pub observed : Memory → ℕ → ℕ → Option Observation
observed memory bank n = if is_cmis memory then decoded memory bank n else None

-- ---- the list

-- the first places are of monitors: sixteen, more than any family has, of 32 lanes
abbrev pub monitor_places : ℕ
monitor_places = 512

-- those after them are of instances: four banks of 256
abbrev pub instance_places : ℕ
instance_places = 1024

abbrev pub all_places : ℕ
all_places = monitor_places + instance_places

unfoldable pub observation_at : Memory → ℕ → Option Observation
observation_at memory place =
    if nat_lt place monitor_places then monitored memory (place / 32) (place % 32 + 1)
    else if nat_lt place all_places then observed memory ((place - monitor_places) / 256) ((place - monitor_places) % 256)
    else None

-- the observations before a place, in order
unfoldable pub observations_before : Memory → ℕ → List Observation
observations_before memory zero = []
observations_before memory (suc place) = observations_before memory place ++ option_to_list (observation_at memory place)

-- the first from a place on, with its place
pub record IsNextObservation (memory : Memory) (from : ℕ) (found : ℕ × Observation) : Type 0 where
  pub is_there : observation_at memory found.0 ≡ Some found.1
  pub not_before : from ≤ found.0
  pub within : found.0 < all_places
  pub first : (k : ℕ) → from ≤ k → k < found.0 → observation_at memory k ≡ None

-- each monitor of the family has a place for each lane
abbrev pub EachMonitorHasAPlace : Type 0
EachMonitorHasAPlace =
    (memory : Memory) (n lane : ℕ) → 32 * n < monitor_places → 1 ≤ lane → lane ≤ 32 → observation_at memory (32 * n + (lane - 1)) ≡ monitored memory n lane

-- each instance of four banks has a place
abbrev pub EachInstanceHasAPlace : Type 0
EachInstanceHasAPlace =
    (memory : Memory) (bank n : ℕ) → bank < 4 → n < 256 → observation_at memory (monitor_places + 256 * bank + n) ≡ observed memory bank n
