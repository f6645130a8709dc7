-- What flags are called. (docs/formats.md, "flags"; OIF-CMIS-05.0, "Module-Level Flags" and the lane-specific flags of page
-- 11h; SFF-8636, "Interrupt Flags"; SFF-8472, "Alarm and Warning Flag Bits")
use Rattle.std.specs.Prelude.{ℕ, List, ◌∷◌, ◌++◌, codes}
use Rattle.report_entries.specs.declared.flag.FlagName.{FlagName}
use Rattle.report_entries.specs.declared.flag.FlagName.TheVariants as flag
use Rattle.report_entries.specs.declared.flag.LimitKind.{LimitKind}
use Rattle.report_entries.specs.declared.flag.LimitKind.TheVariants.{HighAlarm, LowAlarm, HighWarning, LowWarning}
use Rattle.report_entries.specs.declared.flag.Condition.{Condition}
use Rattle.report_entries.specs.declared.flag.Condition.TheVariants.{PathStateChanged, TxFailure, TxFault, TxLos, TxLol, TxEqFail, RxLos, RxLol}
use Rattle.report_entries.specs.Quantities.{name_of}

unfoldable pub limit_name : LimitKind → List ℕ
limit_name HighAlarm = codes "high-alarm"
limit_name LowAlarm = codes "low-alarm"
limit_name HighWarning = codes "high-warning"
limit_name LowWarning = codes "low-warning"

unfoldable pub condition_name : Condition → List ℕ
condition_name PathStateChanged = codes "path-state-changed"
condition_name TxFailure = codes "tx-failure"
condition_name TxFault = codes "tx-fault"
condition_name TxLos = codes "tx-los"
condition_name TxLol = codes "tx-lol"
condition_name TxEqFail = codes "tx-eq-fail"
condition_name RxLos = codes "rx-los"
condition_name RxLol = codes "rx-lol"

unfoldable pub flag_name : FlagName → List ℕ
flag_name (flag.Passed quantity limit) = name_of quantity ++ 45 ∷ limit_name limit
flag_name (flag.Holds condition) = condition_name condition
