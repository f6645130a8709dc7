-- Single facts about a module, a lane or an Application, each under a key of its own. (docs/formats.md, "details"; this
-- project's own)
use Rattle.std.specs.Prelude.{ℕ, Bool, ℤ, List, [], ◌++◌, map, codes}
use Rattle.std.specs.Borrow.{Bor}
use Rattle.std.specs.Fmt.{decimal}
use Rattle.field_tables.specs.LaneSets.{Lanes}
use Rattle.report_entries.specs.declared.fact.Fact as rust_fact
use Rattle.report_entries.specs.declared.fact.Fact.TheVariants as fact
use Rattle.report_entries.specs.declared.fact.Place.{Place}
use Rattle.report_entries.specs.declared.fact.Place.TheVariants.{Module, Lane, App}
use Rattle.report_entries.specs.declared.printed_unit.PrintedUnit.{PrintedUnit}

pub data Fact : Type 0 where
  -- a word of the report's own
  word : List ℕ → Fact
  yes : Bool → Fact
  number : ℕ → Fact
  -- a code of the standard and its name
  named : ℕ → List ℕ → Fact
  -- the names that apply
  names : List (List ℕ) → Fact
  revision : ℕ → Fact
  -- a major and a minor number
  version : ℕ → ℕ → Fact
  -- the bytes of a text field
  text : List ℕ → Fact
  oui : List ℕ → Fact
  -- thousandths of a unit
  amount : ℤ → PrintedUnit → Fact
  -- tenths of a microwatt, in dBm and in milliwatts
  level : ℕ → Fact
  milliwatts : ℕ → Fact
  lane_set : Lanes → Fact
  -- by their codes: the state of the module, of a data path, the status of a configuration
  module_state : ℕ → Fact
  path_state : ℕ → Fact
  config_status : ℕ → Fact

abbrev pub Str : Type 0
Str = Bor (List ℕ)

-- texts of the code
abbrev pub texts_of : List Str → List (List ℕ)
texts_of texts = map (λ (s : Str). s.now) texts

-- those of the code
abbrev pub fact_of : rust_fact.Fact → Fact
fact_of (fact.Word w) = word w.now
fact_of (fact.Yes b) = yes b
fact_of (fact.Number n) = number n
fact_of (fact.Named code name) = named code name.now
fact_of (fact.Names list) = names (texts_of list.items)
fact_of (fact.Revision byte) = revision byte
fact_of (fact.Version major minor) = version major minor
fact_of (fact.Text bytes) = text bytes.items
fact_of (fact.Oui bytes) = oui bytes
fact_of (fact.Amount millis unit) = amount millis unit
fact_of (fact.Level power) = level power
fact_of (fact.Milliwatts power) = milliwatts power
fact_of (fact.LaneSet set) = lane_set set
fact_of (fact.ModuleState code) = module_state code
fact_of (fact.PathState code) = path_state code
fact_of (fact.ConfigStatus code) = config_status code

-- what a key says after the name
abbrev pub place_text : Place → List ℕ
place_text Module = []
place_text (Lane n) = codes "-lane-" ++ decimal n
place_text (App n) = codes "-app-" ++ decimal n

-- `rx-power-lane-1`
unfoldable pub key_text : List ℕ → Place → List ℕ
key_text name place = name ++ place_text place
