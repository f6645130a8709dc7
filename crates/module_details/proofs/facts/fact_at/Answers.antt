use Rattle.std.proofs.Common.{◌≡◌, ℕ, ◌≤◌, ◌==◌, ◌&&◌, true, nat_le, subst}
use Rattle.std.proofs.lemmas.Bool.{and_parts, leb-true}
use Rattle.field_tables.specs.declared.field.Field.{Field}
use Rattle.field_tables.specs.FieldRows.{row_of}
use Rattle.field_tables.specs.Readings.{is_of_bytes}
use Rattle.module_decoding.specs.Amounts.{is_power}
use Rattle.module_details.specs.Fits.{has_number, has_value, item_fits}
use Rattle.module_details.specs.RowTables.{item_in}
use Rattle.module_details.proofs.facts.fact_at.Goals as goal

-- what a field with a number keeps to
is_number : (field : Field) (i : ℕ) → has_number field i ≡ true → is_of_bytes (row_of field) ≡ true
is_number field i e = (and_parts (is_of_bytes (row_of field)) (has_value field i) e).0

has_it : (field : Field) (i : ℕ) → has_number field i ≡ true → i ≤ (row_of field).count
has_it field i e =
    let value = (and_parts (is_of_bytes (row_of field)) (has_value field i) e).1 in
    leb-true i (row_of field).count (and_parts (nat_le 1 i) (nat_le i (row_of field).count) value).1

pub length_in-requires-clause-power : goal.length_in-requires-clause-power
length_in-requires-clause-power c =
    let base = c.in-TenthsIfAny.base in
    let power = c.in-TenthsIfAny.power in
    (and_parts (is_of_bytes (row_of base) && (row_of base).count == 1) (is_power power) (subst (λ it. item_fits (item_in it) c.args.index ≡ true) c.in-TenthsIfAny.is c.requires.item)).1

pub number_at-requires-in-FirstLane-clause-bytes : goal.number_at-requires-in-FirstLane-clause-bytes
number_at-requires-in-FirstLane-clause-bytes c =
    let apps = c.in-FirstLane.apps in
    let paths = c.in-FirstLane.paths in
    is_number paths c.args.index (and_parts (has_number apps c.args.index) (has_number paths c.args.index) (subst (λ it. item_fits (item_in it) c.args.index ≡ true) c.in-FirstLane.is c.requires.item)).1

pub number_at-requires-in-FirstLane-clause-last : goal.number_at-requires-in-FirstLane-clause-last
number_at-requires-in-FirstLane-clause-last c =
    let apps = c.in-FirstLane.apps in
    let paths = c.in-FirstLane.paths in
    has_it paths c.args.index (and_parts (has_number apps c.args.index) (has_number paths c.args.index) (subst (λ it. item_fits (item_in it) c.args.index ≡ true) c.in-FirstLane.is c.requires.item)).1

pub number_at-requires-in-BitRate-2-clause-bytes : goal.number_at-requires-in-BitRate-2-clause-bytes
number_at-requires-in-BitRate-2-clause-bytes c =
    let rate = c.in-BitRate.rate in
    let more = c.in-BitRate.more in
    is_number more 1 (and_parts (has_number rate 1) (has_number more 1) (subst (λ it. item_fits (item_in it) c.args.index ≡ true) c.in-BitRate.is c.requires.item)).1
