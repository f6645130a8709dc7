use Rattle.std.proofs.Common.{◌≡◌, ℕ, ◌+◌, ◌-◌, ◌*◌, ◌/◌, ◌<◌, true, sym, subst, arith}
use Rattle.paged_memory.specs.Images.{place_in_half}
use Rattle.field_tables.specs.declared.layout.Layout.TheVariants.{Single, Every, Bits, Nibbles, Quad}
use Rattle.field_tables.specs.Layouts.{in_turn}
use Rattle.field_tables.specs.Parts.{low_of}
use Rattle.field_tables.specs.RowFits.{part_inside}
use Rattle.field_tables.proofs.RowPlaceLaws.{place_fits, part_ordered, inside_part, bits_inside}
use Rattle.field_tables.proofs.values.number_at.Goals as goal

pub part_at-requires : goal.part_at-requires
part_at-requires c =
    let row = c.args.row in
    let all = place_fits row Single c.args.lane c.requires.fits c.in-Single.is c.requires.first c.requires.last in
    let inside = inside_part row.half row.bits row.offset (part_ordered row c.requires.fits) all in
    subst (λ (address : ℕ). part_inside row.bits address ≡ true) (sym c.from-address.ensures) inside

pub part_at-requires-in-Every : goal.part_at-requires-in-Every
part_at-requires-in-Every c =
    let row = c.args.row in
    let step = c.in-Every.step in
    let all = place_fits row (Every step) c.args.lane c.requires.fits c.in-Every.is c.requires.first c.requires.last in
    let inside = inside_part row.half row.bits (row.offset + step * (c.args.lane - 1)) (part_ordered row c.requires.fits) all in
    subst (λ (address : ℕ). part_inside row.bits (address + c.from.result * (c.args.lane - 1)) ≡ true) (sym c.from-address.ensures)
    (subst (λ (n : ℕ). part_inside row.bits (row.offset + n * (c.args.lane - 1)) ≡ true) (sym c.from.ensures) inside)

pub bits_at-requires-clause-within : goal.bits_at-requires-clause-within
bits_at-requires-clause-within c =
    let row = c.args.row in
    let all = place_fits row Bits c.args.lane c.requires.fits c.in-Bits.is c.requires.first c.requires.last in
    let inside = bits_inside row.half row.offset (low_of row.bits + (c.args.lane - 1)) 0 all in
    omega (arith, inside.1, c.low.ensures)

pub bits_at-requires-in-Nibbles-clause-inside : goal.bits_at-requires-in-Nibbles-clause-inside
bits_at-requires-in-Nibbles-clause-inside c =
    let row = c.args.row in
    let before = (c.args.lane - 1) / 2 in
    let all = place_fits row Nibbles c.args.lane c.requires.fits c.in-Nibbles.is c.requires.first c.requires.last in
    let inside = bits_inside row.half (row.offset + before) (in_turn c.args.lane 0 4) 3 all in
    subst (λ (address : ℕ). place_in_half (address + before) < 128) (sym c.from-address.ensures) inside.0

pub bits_at-requires-in-Quad-clause-inside : goal.bits_at-requires-in-Quad-clause-inside
bits_at-requires-in-Quad-clause-inside c =
    let row = c.args.row in
    let bit = c.in-Quad.bit in
    let before = (c.args.lane - 1) / 2 in
    let all = place_fits row (Quad bit) c.args.lane c.requires.fits c.in-Quad.is c.requires.first c.requires.last in
    let inside = bits_inside row.half (row.offset + before) (in_turn c.args.lane (4 + bit) bit) 0 all in
    subst (λ (address : ℕ). place_in_half (address + before) < 128) (sym c.from-address.ensures) inside.0
