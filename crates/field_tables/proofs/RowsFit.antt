-- Each row of the table keeps to `row_fits`, by a computed test of all.
use Rattle.std.proofs.Common.{◌≡◌, true, refl, sym, subst}
use Rattle.std.specs.List.{list_all}
use Rattle.field_tables.specs.declared.field.Field.{Field}
use Rattle.field_tables.specs.declared.layout.Row.{Row}
use Rattle.field_tables.specs.FieldRows.{row_of}
use Rattle.field_tables.specs.RowFits.{row_fits}
use Rattle.field_tables.proofs.EveryField.{fields, every_field}

all_fit : list_all (λ field. row_fits (row_of field)) fields ≡ true
all_fit = refl

pub row-fits : (field : Field) (row : Row) → row ≡ row_of field → row_fits row ≡ true
row-fits field row same = subst (λ (r : Row). row_fits r ≡ true) (sym same) (every_field (λ f. row_fits (row_of f)) all_fit field)
