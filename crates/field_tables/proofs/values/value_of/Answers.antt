use Rattle.std.proofs.Common.{◌≡◌, ℕ, Ok, sym, ap, ◌∙◌, arith, ok_or, option_map, List, to_z, of_z, w64}
use Rattle.std.proofs.lemmas.Int.{ints}
use Rattle.field_tables.specs.Halves.{absent}
use Rattle.field_tables.specs.FieldValues.{field_key, row_value, value_in}
use Rattle.field_tables.proofs.FieldAnswers.{get-field_key, value_in-row}
use Rattle.field_tables.proofs.RowsFit.{row-fits}
use Rattle.field_tables.proofs.values.value_of.Goals as goal

pub value_at-requires-clause-fits : goal.value_at-requires-clause-fits
value_at-requires-clause-fits c = row-fits c.args.field c.row-row.result c.row-row.ensures

pub returns-clause-value : goal.returns-clause-value
returns-clause-value c =
    let row = c.row-row.result in
    let field = c.args.field in
    let bytes = c.in_ok-page.page.now in
    let index = c.args.index in
    let found = get-field_key c.args.image.now field row c.key_of.result bytes c.row-row.ensures c.key_of.ensures c.in_ok-page.ensures.found in
    let kept : to_z w64 (of_z w64 c.value_at.result) ≡ c.value_at.result = omega (arith, ints) in
    let read : c.value_at.result ≡ row_value bytes row index = c.value_at.ensures.value ∙ ap (λ (b : List ℕ). row_value b row c.from.result) c.bytes.ensures.same ∙ ap (row_value bytes row) c.from.ensures in
    let same : to_z w64 (of_z w64 c.value_at.result) ≡ value_in bytes field index = kept ∙ read ∙ value_in-row bytes field row index c.row-row.ensures in
    ap Ok same ∙ sym (ap (λ o. ok_or (option_map (λ b. value_in b field index) o) (absent (field_key field))) found)
