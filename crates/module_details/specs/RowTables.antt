-- The rows of the code's tables, from its constants, which have their texts and lists as the code has them. (This project's
-- own.)
use Rattle.std.specs.Prelude.{ℕ, List, map}
use Rattle.std.specs.Borrow.{Bor}
use Rattle.module_details.specs.declared.item.Case.{Case}
use Rattle.module_details.specs.declared.item.Item as rust_item
use Rattle.module_details.specs.declared.item.Item.TheVariants as item
use Rattle.module_details.specs.declared.item.Row as rust_row
use Rattle.module_details.specs.Rows.{Row, Item, Word, Either, Yes, Named, Names, Number, Revision, Version, Text, Oui, Amount, Steps, StepsIfAny, PairIfAny, TenthsIfAny, Celsius, Percent, Temperature, Level, Milliwatts, Measured, MeasuredLevel, MeasuredMilliwatts, Calibrates, ModuleState, PathState, ConfigStatus, FirstLane, BitRate, PowerClass, ClassPower}

-- given what the code's texts are
abbrev pub item_of : {T : Type 0} → (T → List ℕ) → rust_item.Item T → Item
item_of text (item.Word w) = Word (text w)
item_of text (item.Either field one other) = Either field (text one) (text other)
item_of text (item.Yes field) = Yes field
item_of text (item.Named table field) = Named table field
item_of text (item.Names table field first) = Names table field first
item_of text (item.Number field more) = Number field more
item_of text (item.Revision field) = Revision field
item_of text (item.Version field) = Version field
item_of text (item.Text field) = Text field
item_of text (item.Oui field) = Oui field
item_of text (item.Amount field power) = Amount field power
item_of text (item.Steps field step unit) = Steps field step unit
item_of text (item.StepsIfAny field step unit) = StepsIfAny field step unit
item_of text (item.PairIfAny field step unit) = PairIfAny field step unit
item_of text (item.TenthsIfAny base power unit) = TenthsIfAny base power unit
item_of text (item.Celsius field) = Celsius field
item_of text (item.Percent field) = Percent field
item_of text (item.Temperature field) = Temperature field
item_of text (item.Level field) = Level field
item_of text (item.Milliwatts field) = Milliwatts field
item_of text (item.Measured monitor field) = Measured monitor field
item_of text (item.MeasuredLevel monitor field) = MeasuredLevel monitor field
item_of text (item.MeasuredMilliwatts monitor field) = MeasuredMilliwatts monitor field
item_of text (item.Calibrates monitor) = Calibrates monitor
item_of text (item.ModuleState field) = ModuleState field
item_of text (item.PathState field) = PathState field
item_of text (item.ConfigStatus field) = ConfigStatus field
item_of text (item.FirstLane apps paths) = FirstLane apps paths
item_of text (item.BitRate rate more) = BitRate rate more
item_of text item.PowerClass = PowerClass
item_of text item.ClassPower = ClassPower

-- given also what the code's lists are
abbrev pub line_of : {T I : Type 0} → (T → List ℕ) → (I → List Case) → rust_row.Row T I → Row
line_of text cases row = record {
  name = text row.name;
  item = item_of text row.item;
  values = row.values;
  paged = row.paged;
  cases = cases row.cases;
}

-- ---- rows that the code passes on

abbrev pub Str : Type 0
Str = Bor (List ℕ)

abbrev pub Cases : Type 0
Cases = Bor (List Case)

abbrev pub item_in : rust_item.Item Str → Item
item_in i = item_of (λ (t : Str). t.now) i

abbrev pub row_in : rust_row.Row Str Cases → Row
row_in row = line_of (λ (t : Str). t.now) (λ (c : Cases). c.now) row

abbrev pub rows_in : List (rust_row.Row Str Cases) → List Row
rows_in rows = map row_in rows
