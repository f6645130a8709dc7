-- How the text of a report shows the value of a lane, and limits.
-- (docs/formats.md, "monitors"; OIF-CMIS-05.0, "Lane-Specific Monitors" and the monitor thresholds of page 02h; SFF-8636,
-- "Channel Monitors"; SFF-8472, "Real Time Diagnostic and Control Registers")
use Rattle.std.specs.Prelude.{ℕ, List, ◌∷◌, ◌++◌}
use Rattle.std.specs.Fmt.{decimal}
use Rattle.field_tables.specs.declared.readings.PerLimit.{PerLimit}
use Rattle.report_entries.specs.declared.shown.Thousandths.{Thousandths}
use Rattle.report_entries.specs.Shown.{thousandths}

-- an amount of a lane
unfoldable pub lane_measure : ℕ → List ℕ → List ℕ
lane_measure lane amount = decimal lane ++ 32 ∷ amount

-- four amounts in thousandths
unfoldable pub limits_text : PerLimit Thousandths → List ℕ
limits_text levels =
    thousandths levels.high_alarm.0 ++ 32 ∷ thousandths levels.low_alarm.0
    ++ 32 ∷ thousandths levels.high_warning.0 ++ 32 ∷ thousandths levels.low_warning.0

-- the same of each limit
abbrev pub each_limit : {A B : Type 0} → (A → B) → PerLimit A → PerLimit B
each_limit f levels = record {
  high_alarm = f levels.high_alarm;
  low_alarm = f levels.low_alarm;
  high_warning = f levels.high_warning;
  low_warning = f levels.low_warning;
}
