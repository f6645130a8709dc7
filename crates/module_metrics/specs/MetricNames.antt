-- Names of metrics, and what is said of each: both follow from the name of a report's line and its unit.
-- (Prometheus' practices, "Metric and label naming"; docs/formats.md, "Metrics"; this project's own)
use Rattle.std.specs.Prelude.{ℕ, ◌&&◌, ◌||◌, nat_le, Bool, if◌then◌else◌, List, ◌∷◌, ◌++◌, map, codes}
use Rattle.report_entries.specs.declared.printed_unit.PrintedUnit.{PrintedUnit}
use Rattle.module_metrics.specs.BaseUnits.{base_name}
use Rattle.module_metrics.specs.declared.name.Scope.{Scope}
use Rattle.module_metrics.specs.declared.name.Scope.TheVariants.{Module, Lane, Limit}

-- ---- words

-- small letters and digits
abbrev pub is_word_letter : ℕ → Bool
is_word_letter byte = (nat_le 97 byte && nat_le byte 122) || (nat_le 48 byte && nat_le byte 57)

-- with this in place of all other bytes
abbrev pub word_letter : ℕ → ℕ → ℕ
word_letter gap byte = if is_word_letter byte then byte else gap

abbrev pub words : ℕ → List ℕ → List ℕ
words gap name = map (word_letter gap) name

-- joined by underscores
abbrev pub snake : List ℕ → List ℕ
snake name = words 95 name

-- ---- amounts

unfoldable pub scope_name : Scope → List ℕ
scope_name Module = codes "dovecounter_module_"
scope_name Lane = codes "dovecounter_lane_"
scope_name Limit = codes "dovecounter_"

unfoldable pub scope_help : Scope → List ℕ
scope_help Module = codes " of the module in "
scope_help Lane = codes " of a lane in "
scope_help Limit = codes " in "

-- as dovecounter_lane_rx_power_watts
unfoldable pub amount_name : Scope → List ℕ → PrintedUnit → List ℕ
amount_name scope name unit = scope_name scope ++ (snake name ++ 95 ∷ base_name unit)

-- as "rx power of a lane in watts"
unfoldable pub amount_help : Scope → List ℕ → PrintedUnit → List ℕ
amount_help scope name unit = words 32 name ++ (scope_help scope ++ base_name unit)
