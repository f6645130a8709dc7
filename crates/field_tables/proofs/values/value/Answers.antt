use Rattle.std.proofs.Common.{◌≡◌, ◌<◌, pos, get_or, Ok, sym, ap, ◌∙◌, arith, ok_or, option_map, ℤ, subst}
use Rattle.std.proofs.lemmas.List.{get_or_default}
use Rattle.field_tables.specs.declared.layout.Row.{Row}
use Rattle.field_tables.specs.Halves.{absent}
use Rattle.field_tables.specs.FieldValues.{field_key, values_in}
use Rattle.field_tables.specs.RowPlaces.{IsInRange}
use Rattle.field_tables.proofs.FieldAnswers.{get-field_key, values_in-row}
use Rattle.field_tables.proofs.RowsFit.{row-fits}
use Rattle.field_tables.proofs.values.value.Goals as goal

pub value_at-requires-clause-fits : goal.value_at-requires-clause-fits
value_at-requires-clause-fits g c = row-fits c.args.field c.row-row.result c.row-row.ensures

pub returns-clause-values : goal.returns-clause-values
returns-clause-values g c =
    let row = c.row-row.result in
    let field = c.args.field in
    let bytes = c.in_ok-page.page.now in
    let values = c.loop-index.value-items in
    let count : g.row.N ≡ row.count = c.requires ∙ ap (λ (r : Row). r.count) (sym c.row-row.ensures) in
    let same : values ≡ values_in bytes field = values_in-row bytes field row values c.row-row.ensures (c.loop-index.invariant.len ∙ count) (λ k below. c.loop-index.invariant.each k (omega (arith, count, below))) in
    let found = get-field_key c.args.image.now field row c.key_of.result bytes c.row-row.ensures c.key_of.ensures c.in_ok-page.ensures.found in
    ap Ok same ∙ sym (ap (λ o. ok_or (option_map (λ b. values_in b field) o) (absent (field_key field))) found)

pub returns-clause-range : goal.returns-clause-range
returns-clause-range g c k d below =
    let values = c.loop-index.value-items in
    let reached : k < c.loop-index.index = omega (arith, below, c.loop-index.invariant.len) in
    subst (λ (r : Row). IsInRange r (get_or values k d)) c.row-row.ensures
    (subst (λ (v : ℤ). IsInRange c.row-row.result v) (get_or_default values k (pos 0) d below) (c.loop-index.invariant.range k reached))
