-- The rows of details: how the fact of a row is had of a field, of which of its values, and when. (docs/formats.md, "details";
-- this project's own)
use Rattle.std.specs.Prelude.{ℕ, Bool, true, false, List, [], Option}
use Rattle.code_names.specs.declared.table.Table.{Table}
use Rattle.external_calibration.specs.declared.monitor.Monitor.{Monitor}
use Rattle.field_tables.specs.declared.field.Field.{Field}
use Rattle.field_tables.specs.declared.field.TextField.{TextField}
use Rattle.report_entries.specs.declared.printed_unit.PrintedUnit.{PrintedUnit}
use Rattle.module_details.specs.declared.item.Case.{Case}
use Rattle.module_details.specs.declared.item.Values.{Values}
use Rattle.module_details.specs.declared.item.Values.TheVariants.{One, Lanes}

-- how a fact is had of a value of a field
pub data Item : Type 0 where
  Word : List ℕ → Item
  -- the first word if it is 1, else the second
  Either : Field → List ℕ → List ℕ → Item
  -- whether it is 1
  Yes : Field → Item
  -- as a code, with its name
  Named : Table → Field → Item
  -- the names of the bits that are 1, given the code of the first bit
  Names : Table → Field → ℕ → Item
  -- and this number
  Number : Field → ℕ → Item
  Revision : Field → Item
  -- a major number, and the next value as the minor one
  Version : Field → Item
  Text : TextField → Item
  Oui : Field → Item
  -- in the unit of the field, doubled as often as the second says
  Amount : Field → Option Field → Item
  -- so many thousandths of a unit for each step
  Steps : Field → ℕ → PrintedUnit → Item
  -- the same; 0 says nothing
  StepsIfAny : Field → ℕ → PrintedUnit → Item
  -- the same of a number whose higher byte it is, and the next value the lower
  PairIfAny : Field → ℕ → PrintedUnit → Item
  -- tenths of a unit, times ten to the power of the second; 0 says nothing
  TenthsIfAny : Field → Field → PrintedUnit → Item
  -- degrees Celsius, in two's complement of eight bits
  Celsius : Field → Item
  -- parts of 32,767 of a whole, in percent
  Percent : Field → Item
  -- 1/256 degree Celsius, in two's complement of 16 bits
  Temperature : Field → Item
  -- tenths of a microwatt, in dBm and in milliwatts
  Level : Field → Item
  Milliwatts : Field → Item
  -- of SFF-8472, calibrated by the host if the module asks for that: what a monitor measures, or a limit
  Measured : Monitor → Field → Item
  -- the same of a power, in dBm and in milliwatts
  MeasuredLevel : Monitor → Field → Item
  MeasuredMilliwatts : Monitor → Field → Item
  -- whether the constants of a monitor aren't refused
  Calibrates : Monitor → Item
  ModuleState : Field → Item
  PathState : Field → Item
  ConfigStatus : Field → Item
  -- the first lane of a data path, if the lane is in one: its Application, and that lane less one
  FirstLane : Field → Field → Item
  -- hundreds of megabaud, or if there are 255 of them, 250 megabaud times the first value of the second; 0 says nothing
  BitRate : Field → Field → Item
  -- the power class of a module of SFF-8636, and its power
  PowerClass : Item
  ClassPower : Item

pub record Row : Type 0 where
  pub name : List ℕ
  pub item : Item
  pub values : Values
  -- whether only for a module with paged memory
  pub paged : Bool
  -- if one of these applies, nothing is said
  pub cases : List Case

-- a line for every module, of the first value
abbrev pub always : List ℕ → Item → Row
always name item = record { name = name; item = item; values = One 1; paged = false; cases = [] }

-- of another value
abbrev pub of_value : ℕ → Row → Row
of_value i row = record { name = row.name; item = row.item; values = One i; paged = row.paged; cases = row.cases }

-- of so many lanes
abbrev pub of_lanes : ℕ → Row → Row
of_lanes n row = record { name = row.name; item = row.item; values = Lanes n; paged = row.paged; cases = row.cases }

-- for a module with paged memory
abbrev pub if_paged : Row → Row
if_paged row = record { name = row.name; item = row.item; values = row.values; paged = true; cases = row.cases }

-- unless one of these applies
abbrev pub unless : List Case → Row → Row
unless cases row = record { name = row.name; item = row.item; values = row.values; paged = row.paged; cases = cases }
